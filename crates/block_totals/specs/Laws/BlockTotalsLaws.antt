-- The numbers that a block raises: underdrawn energy by kind, the totals one list after the other, and a class of hours. Assumes nothing.
use Rattle.std.specs.Prelude.{ℕ, ◌+◌, ◌*◌, ◌≤◌, ◌<◌, ◌≡◌, refl, Bool, true, false, List, length, get_or, set, if◌then◌else◌}
use Rattle.std.proofs.Common.{ap, ◌∙◌, arith, get_or-set_other}
use Rattle.std.specs.Bool.{beq}
use Rattle.energy.specs.Limits.{most_figure}
use Rattle.output_lists.specs.Laws.Bounds.{Moderate}
use Rattle.record.specs.Plan.{deemed_kind}
use Rattle.record.specs.Hours.{slot_after, class_of_slot, hours_apply}
use Rattle.record.specs.declared.Counts.{Counts}
use Rattle.record.specs.RecordWords.{record_of}
use Rattle.record.specs.declared.Switch.{Switch}
use Rattle.hours.specs.Laws.Classes.{class_numbers}
use Rattle.record_layout.specs.Laws.FigurePlaces.{switch_places}
use Rattle.record_layout.specs.Laws.NumbersRaised.{from, raised_other}
use Rattle.record_runs.specs.Laws.Raise.{row_sum, column_sum, Raised, Raisable}
use Rattle.record_runs.specs.Laws.RaiseLaws.{none_raised, not_raised, row_cap}
use Rattle.block_totals.specs.Laws.BlockTotals.{by_kind, row_by_kind, four_raised, five_raised, generators_raised, consumers_raised, counts_raised, stocks_raised, hours_raised}
use Rattle.record_places.specs.RecordSize.{words_in}
use Rattle.record_places.specs.Laws.Places.{unit_blocks_at, month_blocks_at, agreed_at, injected_at, unaccounted_at, lost_at, generator_set_off_at, inadvertent_at, pending_at, metered_at, consumer_set_off_at, shortfall_at, outstanding_at, switch_month_at, closings_at, off_peak_at}

-- ---- underdrawn energy by kind

-- what is as asked is all, and what is not is nothing
all_or_none : (t u : Bool) (x : ℕ) → (if t then (if u then x else 0) else (if u then 0 else x)) ≡ (if beq u t then x else 0)
all_or_none true true x = refl
all_or_none true false x = refl
all_or_none false true x = refl
all_or_none false false x = refl

module _ (deemed : Bool) (kind x : ℕ) where
  pub kind_asked : beq (deemed_kind kind) deemed ≡ true → by_kind deemed kind x ≡ x
  kind_asked e = all_or_none deemed (deemed_kind kind) x ∙ rw e

  pub kind_not_asked : beq (deemed_kind kind) deemed ≡ false → by_kind deemed kind x ≡ 0
  kind_not_asked e = all_or_none deemed (deemed_kind kind) x ∙ rw e

  pub by_kind_le : by_kind deemed kind x ≤ x
  by_kind_le = omega (arith, all_or_none deemed (deemed_kind kind) x, no_more (beq (deemed_kind kind) deemed))
    where
      no_more : (t : Bool) → (if t then x else 0) ≤ x
      no_more true = omega arith
      no_more false = omega arith

-- of moderate figures: a bound that no proof needs
pub by_kind_cap : (deemed : Bool) (ws : List ℕ) (m first g : ℕ) {xs : List ℕ} → Moderate xs → row_by_kind deemed ws m xs first g ≤ m * most_figure
by_kind_cap deemed ws m first g {xs} h = omega (arith, by_kind_le deemed (get_or ws (agreed_at + g * 3) 0) (row_sum m xs first g), row_cap m first g h)

-- the kinds stand before all that is raised
pub row_stays : {at i : ℕ} {f : ℕ → ℕ} {s t : List ℕ} (deemed : Bool) (m : ℕ) (xs : List ℕ) (first g : ℕ) → Raised (from at) i f s t → injected_at ≤ at → g < 8 →
    row_by_kind deemed (words_in t) m xs first g ≡ row_by_kind deemed (words_in s) m xs first g
row_stays deemed m xs first g r l few = ap (λ (kind : ℕ). by_kind deemed kind (row_sum m xs first g)) (not_raised (agreed_at + g * 3) r (λ j o e. omega arith))

-- ---- the totals of generators and of consumers, list by list

module _ (n m : ℕ) (readings out s : List ℕ) where
  pub generators_all : {t u v w x y : List ℕ} →
      Raised (from injected_at) n (λ g. get_or readings g 0) s t → Raised (from unaccounted_at) n (λ g. get_or out (4 * (n * m) + g) 0) t u → Raised (from lost_at) n (row_sum m out 0) u v →
      Raised (from generator_set_off_at) n (row_sum m out (n * m)) v w → Raised (from inadvertent_at) n (row_by_kind false (words_in w) m out (2 * (n * m))) w x →
      Raised (from pending_at) n (row_by_kind true (words_in x) m out (2 * (n * m))) x y → words_in y ≡ generators_raised n m readings out (words_in s)
  unfolding generators_raised five_raised four_raised
  generators_all a b c d f h = h.is ∙ rw (f.is, d.is, c.is, b.is, a.is)

  pub consumers_all : {t u v w : List ℕ} →
      Raised (from metered_at) m (λ c. get_or readings c 0) s t → Raised (from consumer_set_off_at) m (column_sum n m out (n * m)) t u → Raised (from shortfall_at) m (column_sum n m out (3 * (n * m))) u v →
      Raised (from outstanding_at) m (λ c. get_or out (4 * (n * m) + n + c) 0) v w →
      words_in w ≡ consumers_raised n m readings out (words_in s)
  unfolding consumers_raised
  consumers_all a b c d = d.is ∙ rw (c.is, b.is, a.is)

-- ---- what is not raised stays

module _ (n m : ℕ) (readings out ws : List ℕ) (k : ℕ) where
  -- a number that is none of the generators' totals, or none of the consumers'
  generators_stay : n ≤ 8 → ((i : ℕ) → i < 80 → k ≡ injected_at + i → ⊥) → get_or (generators_raised n m readings out ws) k 0 ≡ get_or ws k 0
  unfolding generators_raised five_raised four_raised
  generators_stay few away =
      raised_other (from pending_at) _ _ n k (λ g o x. away (72 + g) (omega arith) (omega arith)) ∙
      raised_other (from inadvertent_at) _ _ n k (λ g o x. away (32 + g) (omega arith) (omega arith)) ∙
      raised_other (from generator_set_off_at) _ _ n k (λ g o x. away (24 + g) (omega arith) (omega arith)) ∙
      raised_other (from lost_at) _ _ n k (λ g o x. away (16 + g) (omega arith) (omega arith)) ∙
      raised_other (from unaccounted_at) _ _ n k (λ g o x. away (8 + g) (omega arith) (omega arith)) ∙
      raised_other (from injected_at) _ _ n k (λ g o x. away g (omega arith) x)

  consumers_stay : m ≤ 16 → ((i : ℕ) → i < 96 → k ≡ metered_at + i → ⊥) → get_or (consumers_raised n m readings out ws) k 0 ≡ get_or ws k 0
  unfolding consumers_raised
  consumers_stay few away =
      raised_other (from outstanding_at) _ _ m k (λ c o x. away (80 + c) (omega arith) (omega arith)) ∙
      raised_other (from shortfall_at) _ _ m k (λ c o x. away (32 + c) (omega arith) (omega arith)) ∙
      raised_other (from consumer_set_off_at) _ _ m k (λ c o x. away (16 + c) (omega arith) (omega arith)) ∙
      raised_other (from metered_at) _ _ m k (λ c o x. away c (omega arith) x)

-- what stands behind the generators' totals
pub generators_behind : (n m : ℕ) (entry out : List ℕ) {b : ℕ} {s t : List ℕ} → n ≤ 8 → Raisable injected_at 80 b s → words_in t ≡ generators_raised n m entry out (words_in s) → length t ≡ length s → Raisable metered_at 96 b t
generators_behind n m entry out {s = s} few h d e =
    record {
      size = e ∙ h.size;
      placed = omega arith;
      low = record { at = λ k l. omega (arith, ap (λ (ws : List ℕ). get_or ws k 0) d, generators_stay n m entry out (words_in s) k few (λ i o x. omega arith), h.low.at k (omega arith)) };
    }

counts_stay : (counts : Counts) (ws : List ℕ) (k : ℕ) → agreed_at ≤ k → get_or (counts_raised counts ws) k 0 ≡ get_or ws k 0
unfolding counts_raised
counts_stay n ws k low =
    get_or-set_other (set ws unit_blocks_at (n.unitblocks + 1)) month_blocks_at k (n.monthblocks + 1) 0 (λ e. omega arith) ∙ get_or-set_other ws unit_blocks_at k (n.unitblocks + 1) 0 (λ e. omega arith)

module _ (n m : ℕ) (entry exit out : List ℕ) where
  -- of a record with totals and counts raised, a number that is none of them
  pub all_stay : (counts : Counts) (ws : List ℕ) (k : ℕ) → n ≤ 8 → m ≤ 16 → agreed_at ≤ k → ((i : ℕ) → i < 176 → k ≡ injected_at + i → ⊥) →
      get_or (counts_raised counts (consumers_raised n m exit out (generators_raised n m entry out ws))) k 0 ≡ get_or ws k 0
  all_stay counts ws k few few' low away =
      let generators : List ℕ = generators_raised n m entry out ws in
      counts_stay counts (consumers_raised n m exit out generators) k low ∙ consumers_stay n m exit out generators k few' (λ i o x. away (80 + i) (omega arith) (omega arith)) ∙
      generators_stay n m entry out ws k few (λ i o x. away i (omega arith) x)

-- ---- a class of hours

-- numbers behind some that are raised
pub behind : {p n b k : ℕ} {f : ℕ → ℕ} {s t : List ℕ} (at q i : ℕ) → p ≤ q → at + k ≤ q → q + i ≤ p + n → Raisable p n b s → Raised (from at) k f s t → Raisable q i b t
behind at q i l past most h r =
    record {
      size = r.size ∙ h.size;
      placed = omega (arith, h.placed);
      low = record { at = λ j o. omega (arith, not_raised j r (λ a c x. omega arith), h.low.at j (omega arith)) };
    }

pub among : {p n b : ℕ} {s : List ℕ} (q i : ℕ) → p ≤ q → q + i ≤ p + n → Raisable p n b s → Raisable q i b s
among q i l most h = behind q q i l (omega arith) most h (none_raised {f = λ k. 0})

pub stocks_all : (n m : ℕ) (out : List ℕ) (start : ℕ) {s t u : List ℕ} → Raised (from (start + 8)) n (row_by_kind true (words_in s) m out (2 * (n * m))) s t →
    Raised (from (start + 16)) m (λ c. get_or out (4 * (n * m) + n + c) 0) t u → words_in u ≡ stocks_raised n m out (words_in s) start
unfolding stocks_raised
stocks_all n m out start a b = b.is ∙ rw a.is

-- by hours the class of the block, else none
module _ (n m : ℕ) (out ws : List ℕ) (month : ℕ) {switch : Switch} {test : Bool} (is : switch ≡ (record_of ws).switch) (tested : test ≡ hours_apply switch.month switch.closings) where
  test_is : test ≡ hours_apply (get_or ws switch_month_at 0) (get_or ws closings_at 0)
  test_is = tested ∙ ap (λ (x : Switch). hours_apply x.month x.closings) (is ∙ switch_places ws)

  pub class_raised_lem : {xs : List ℕ} {k : ℕ} → test ≡ true → k ≡ class_of_slot (slot_after month) → xs ≡ stocks_raised n m out ws (off_peak_at + class_numbers * k) → xs ≡ hours_raised n m out ws month
  unfolding hours_raised
  class_raised_lem e d r = rw (← test_is, e, ← d) r

  pub no_class_raised : test ≡ false → ws ≡ hours_raised n m out ws month
  unfolding hours_raised
  no_class_raised e = rw (← test_is, e)
