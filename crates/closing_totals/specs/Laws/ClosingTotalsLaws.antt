-- The numbers that a closing changes, one list after the other. Assumes nothing.
use Rattle.std.specs.Prelude.{ℕ, ◌+◌, ◌*◌, ◌≡◌, Bool, true, false, List, get_or, set, if◌then◌else◌}
use Rattle.std.proofs.Common.{◌∙◌}
use Rattle.record.specs.Stored.{figures}
use Rattle.record.specs.declared.Terms.{Terms}
use Rattle.record.specs.declared.Counts.{Counts}
use Rattle.record.specs.declared.Switch.{Switch}
use Rattle.record_layout.specs.OnBytes.{record_in}
use Rattle.record_layout.specs.Laws.RecordHead.{HeadRead}
use Rattle.record_layout.specs.Laws.NumbersRaised.{from}
use Rattle.record_runs.specs.Laws.Raise.{row_sum, column_sum, Raised, Replaced}
use Rattle.closing_rules.specs.Closing.{lapse_due, lapses, gone_after}
use Rattle.closing_totals.specs.Laws.ClosingTotals.{counts_after, totals_raised, stocks_replaced, class_cleared, classes_after}
use Rattle.record_places.specs.RecordSize.{words_in}
use Rattle.record_places.specs.Laws.Places.{gone_at, month_blocks_at, charge_at, generator_drawn_at, lapsed_at, bank_at, pending_at, consumer_drawn_at, supplied_at, outstanding_at, closings_at, off_peak_at, normal_at, peak_at}

-- the counts of the next month, by the terms, counts and switch that the call read
pub counts_all : (s : List ℕ) {terms : Terms} {counts : Counts} {switch : Switch} {gone : ℕ} {xs ys zs : List ℕ} → HeadRead s terms counts → switch ≡ (record_in s).switch →
    gone ≡ (if lapse_due switch.month switch.closings counts.gone terms.cycle then 0 else counts.gone + 1) →
    xs ≡ set (words_in s) gone_at gone → ys ≡ set xs month_blocks_at 0 → zs ≡ set ys closings_at (switch.closings + 1) →
    zs ≡ counts_after (words_in s)
unfolding counts_after gone_after lapses figures
counts_all s head is e a b c = c ∙ rw (b, a, e, head.terms_are, head.counts_are, is)

module _ (n m : ℕ) (out s : List ℕ) where
  pub totals_all : {t u v w x : List ℕ} →
      Raised (from charge_at) n (λ g. get_or out (n * m + g) 0) s t → Raised (from generator_drawn_at) n (row_sum m out 0) t u → Raised (from lapsed_at) n (λ g. get_or out (n * m + n + g) 0) u v →
      Raised (from consumer_drawn_at) m (column_sum n m out 0) v w → Raised (from supplied_at) m (λ c. get_or out (n * m + 3 * n + m + c) 0) w x →
      words_in x ≡ totals_raised n m out (words_in s)
  unfolding totals_raised
  totals_all a b c d e = e.is ∙ rw (d.is, c.is, b.is, a.is)

  pub stocks_all : {t u v : List ℕ} →
      Replaced (from bank_at) n (λ g. get_or out (n * m + 2 * n + g) 0) s t → Replaced (from pending_at) n (λ g. 0) t u → Replaced (from outstanding_at) m (λ c. 0) u v →
      words_in v ≡ stocks_replaced n m out (words_in s)
  unfolding stocks_replaced
  stocks_all a b c = c.is ∙ rw (b.is, a.is)

pub class_all : (n m at : ℕ) (s : List ℕ) {t u v : List ℕ} →
    Replaced (from at) n (λ g. 0) s t → Replaced (from (at + 8)) n (λ g. 0) t u → Replaced (from (at + 16)) m (λ c. 0) u v →
    words_in v ≡ class_cleared n m at (words_in s)
unfolding class_cleared
class_all n m at s a b c = c.is ∙ rw (b.is, a.is)

pub classes_all : (hours : Bool) (n m : ℕ) (ws : List ℕ) {xs ys zs : List ℕ} → hours ≡ true →
    xs ≡ class_cleared n m off_peak_at ws → ys ≡ class_cleared n m normal_at xs → zs ≡ class_cleared n m peak_at ys →
    zs ≡ classes_after hours n m ws
unfolding classes_after
classes_all hours n m ws t a b c = c ∙ rw (b, a, t)

pub classes_stay : (hours : Bool) (n m : ℕ) (ws : List ℕ) → hours ≡ false → ws ≡ classes_after hours n m ws
unfolding classes_after
classes_stay hours n m ws t = rw t
