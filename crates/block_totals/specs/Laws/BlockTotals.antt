-- Rule 8 where the totals stand: which numbers of the record a block raises, and by which sums of its output. Assumes nothing.
use Rattle.std.specs.Prelude.{ℕ, ◌+◌, ◌*◌, ◌≡◌, Bool, true, false, List, length, get_or, set, if◌then◌else◌}
use Rattle.block_rules.specs.Settlement.{block_output}
use Rattle.record.specs.Plan.{deemed_kind}
use Rattle.record.specs.Hours.{slot_after, class_of_slot, hours_apply}
use Rattle.record.specs.Laws.SoundLaws.{Facts}
use Rattle.record.specs.declared.Counts.{Counts}
use Rattle.hours.specs.Laws.Classes.{class_numbers}
use Rattle.record_layout.specs.OnBytes.{book_in, record_in}
use Rattle.record_layout.specs.Laws.NumbersRaised.{raised, from}
use Rattle.record_runs.specs.Laws.Raise.{row_sum, column_sum, OutputLists}
use Rattle.block_rules.specs.Block.{entry_of, exit_of}
use Rattle.block_rules.specs.Laws.Enterable.{Enterable}
use Rattle.record_places.specs.RecordSize.{record_bytes}
use Rattle.record_places.specs.Laws.Places.{unit_blocks_at, month_blocks_at, agreed_at, injected_at, unaccounted_at, lost_at, generator_set_off_at, inadvertent_at, pending_at, metered_at, consumer_set_off_at, shortfall_at, outstanding_at, switch_month_at, closings_at, off_peak_at}

-- ---- what a block raises, for n generators and m consumers, by its readings and its output

-- Of x, underdrawn by a generator of this kind, what is pending, or what is inadvertent, as asked (10.3).
abbrev pub by_kind : (deemed : Bool) (kind x : ℕ) → ℕ
by_kind deemed kind x = if deemed then (if deemed_kind kind then x else 0) else (if deemed_kind kind then 0 else x)

-- the same of row g, by the kind of generator g in the record
abbrev pub row_by_kind : (deemed : Bool) (ws : List ℕ) (m : ℕ) (xs : List ℕ) (first g : ℕ) → ℕ
row_by_kind deemed ws m xs first g = by_kind deemed (get_or ws (agreed_at + g * 3) 0) (row_sum m xs first g)

module _ (n m : ℕ) (readings out ws : List ℕ) where
  -- injected, unaccounted, lost and set off
  unfoldable pub four_raised : List ℕ
  four_raised =
      raised (from generator_set_off_at) n (row_sum m out (n * m))
      (raised (from lost_at) n (row_sum m out 0)
      (raised (from unaccounted_at) n (λ g. get_or out (4 * (n * m) + g) 0)
      (raised (from injected_at) n (λ g. get_or readings g 0) ws)))

  -- inadvertent, then pending
  unfoldable pub five_raised : List ℕ
  five_raised = raised (from inadvertent_at) n (row_by_kind false four_raised m out (2 * (n * m))) four_raised

  unfoldable pub generators_raised : List ℕ
  generators_raised = raised (from pending_at) n (row_by_kind true five_raised m out (2 * (n * m))) five_raised

  -- metered, set off, shortfall and outstanding
  unfoldable pub consumers_raised : List ℕ
  consumers_raised =
      raised (from outstanding_at) m (λ c. get_or out (4 * (n * m) + n + c) 0)
      (raised (from shortfall_at) m (column_sum n m out (3 * (n * m)))
      (raised (from consumer_set_off_at) m (column_sum n m out (n * m))
      (raised (from metered_at) m (λ c. get_or readings c 0) ws)))

-- the blocks of the unit and of the month, one more than there were
unfoldable pub counts_raised : Counts → List ℕ → List ℕ
counts_raised n ws = set (set ws unit_blocks_at (n.unitblocks + 1)) month_blocks_at (n.monthblocks + 1)

-- ---- by hours

module _ (n m : ℕ) (out ws : List ℕ) where
  -- pending and open of the class whose bank starts at this place
  unfoldable pub stocks_raised : (start : ℕ) → List ℕ
  stocks_raised start = raised (from (start + 16)) m (λ c. get_or out (4 * (n * m) + n + c) 0) (raised (from (start + 8)) n (row_by_kind true ws m out (2 * (n * m))) ws)

  -- by hours those of the class of the block, whose month has so many before it
  unfoldable pub hours_raised : (month : ℕ) → List ℕ
  hours_raised month =
      if hours_apply (get_or ws switch_month_at 0) (get_or ws closings_at 0) then stocks_raised (off_peak_at + class_numbers * class_of_slot (slot_after month)) else ws

-- the lists of a block
abbrev pub BlockLists : (n m : ℕ) (out : List ℕ) → Type 0
BlockLists n m = OutputLists (4 * (n * m) + n + m) n m

-- ---- the call

-- the bytes s hold a sound record with these counts, which takes a block of these readings, and the block's lists stand in out
pub record Settled (s : List ℕ) (n m : ℕ) (counts : Counts) (entry exit out : List ℕ) : Type 0 where
  pub size : length s ≡ record_bytes
  pub generators : n ≡ (book_in s).plan.G
  pub consumers : m ≡ (book_in s).plan.C
  pub counts_are : counts ≡ (record_in s).counts
  pub sound : Facts (book_in s)
  pub enterable : Enterable entry exit (length out) (book_in s)
  pub output : out ≡ block_output (book_in s).plan (entry_of entry exit (book_in s)) (exit_of entry exit (book_in s))
