-- What a closing makes of a record's numbers where they stand, by its output. Assumes nothing.
use Rattle.std.specs.Prelude.{ℕ, ◌+◌, ◌*◌, ◌≡◌, Bool, List, get_or, set, if◌then◌else◌}
use Rattle.record.specs.Stored.{figures}
use Rattle.record.specs.Laws.SoundLaws.{Facts}
use Rattle.record.specs.RecordWords.{record_of}
use Rattle.record.specs.declared.Terms.{Terms}
use Rattle.record.specs.declared.Counts.{Counts}
use Rattle.record.specs.declared.Switch.{Switch}
use Rattle.record_layout.specs.OnBytes.{record_in, book_in}
use Rattle.record_layout.specs.Laws.RecordHead.{HeadRead}
use Rattle.record_layout.specs.Laws.NumbersRaised.{raised, from}
use Rattle.record_layout.specs.Laws.NumbersReplaced.{replaced}
use Rattle.record_runs.specs.Laws.Raise.{row_sum, column_sum, OutputLists}
use Rattle.closing_rules.specs.Closing.{gone_after, closing_output}
use Rattle.record_places.specs.Laws.Places.{gone_at, month_blocks_at, charge_at, generator_drawn_at, lapsed_at, bank_at, pending_at, consumer_drawn_at, supplied_at, outstanding_at, closings_at, off_peak_at, normal_at, peak_at}

-- the months gone, no block in the month, and one closing more
unfoldable pub counts_after : List ℕ → List ℕ
counts_after ws = let b = figures (record_of ws) in set (set (set ws gone_at (gone_after b)) month_blocks_at 0) closings_at (b.closings + 1)

-- for n generators and m consumers, by the output: drawn pairs; charge, lapsed and bank by generator; open and supplied by consumer
module _ (n m : ℕ) (out ws : List ℕ) where
  -- charge, drawn and lapsed by generator, drawn and supplied by consumer
  unfoldable pub totals_raised : List ℕ
  totals_raised =
      raised (from supplied_at) m (λ c. get_or out (n * m + 3 * n + m + c) 0)
      (raised (from consumer_drawn_at) m (column_sum n m out 0)
      (raised (from lapsed_at) n (λ g. get_or out (n * m + n + g) 0)
      (raised (from generator_drawn_at) n (row_sum m out 0)
      (raised (from charge_at) n (λ g. get_or out (n * m + g) 0) ws))))

  -- the bank is that of the output, and nothing is pending or open
  unfoldable pub stocks_replaced : List ℕ
  stocks_replaced =
      replaced (from outstanding_at) m (λ c. 0)
      (replaced (from pending_at) n (λ g. 0)
      (replaced (from bank_at) n (λ g. get_or out (n * m + 2 * n + g) 0) ws))

-- for n generators and m consumers: nothing in the bank, pending or open of the class of hours that starts at place `at`
unfoldable pub class_cleared : (n m at : ℕ) → List ℕ → List ℕ
class_cleared n m at ws =
    replaced (from (at + 16)) m (λ c. 0)
    (replaced (from (at + 8)) n (λ g. 0)
    (replaced (from at) n (λ g. 0) ws))

-- by hours every class is cleared; before the switch month nothing is
unfoldable pub classes_after : (hours : Bool) (n m : ℕ) → List ℕ → List ℕ
classes_after hours n m ws = if hours then class_cleared n m peak_at (class_cleared n m normal_at (class_cleared n m off_peak_at ws)) else ws

-- the lists of a closing
abbrev pub ClosingLists : (n m : ℕ) (out : List ℕ) → Type 0
ClosingLists n m = OutputLists (n * m + 3 * n + 2 * m) n m

-- the bytes s hold a sound record with these terms, counts and switch, and the lists of its closing stand in out
pub record Listed (s : List ℕ) (terms : Terms) (counts : Counts) (switch : Switch) (out : List ℕ) : Type 0 where
  pub head : HeadRead s terms counts
  pub switch_is : switch ≡ (record_in s).switch
  pub sound : Facts (book_in s)
  pub output : out ≡ closing_output (book_in s)
