-- The parts of an accepted closing make up the call. Assumes nothing.
use Rattle.std.specs.Prelude.{ℕ, ◌≡◌, List, length}
use Rattle.std.proofs.Math.Path.{refl}
use Rattle.codec.specs.Bytes.{encode}
use Rattle.record.specs.RecordWords.{words}
use Rattle.record.specs.Stored.{stored}
use Rattle.record.specs.Called.{number_on}
use Rattle.record.specs.declared.Terms.{Terms}
use Rattle.record.specs.declared.Counts.{Counts}
use Rattle.record.specs.declared.Switch.{Switch}
use Rattle.record_layout.specs.Laws.RecordHead.{HeadRead}
use Rattle.record_layout.specs.OnBytes.{record_in, CalledOn, book_in}
use Rattle.record_layout.specs.Laws.OnBytesLaws.{on_accepted}
use Rattle.closing_rules.specs.Closing.{after_closing, closing_output, closing_rule}
use Rattle.closing_rules.proofs.ClosingRefusals.{facts}
use Rattle.closing_totals.specs.Laws.ClosingTotals.{Listed}

pub listed : (s : List ℕ) (size : ℕ) {terms : Terms} {counts : Counts} {switch : Switch} {out : List ℕ} →
    HeadRead s terms counts → switch ≡ (record_in s).switch → number_on (closing_rule size) (record_in s) ≡ 0 → out ≡ closing_output (book_in s) → Listed s terms counts switch out
listed s size head is z e = record { head = head; switch_is = is; sound = facts (record_in s) size z; output = e }

module _ (s lent : List ℕ) where
  pub closing_accepted : {s' out : List ℕ} → number_on (closing_rule (length lent)) (record_in s) ≡ 0 →
      s' ≡ encode 8 (words (stored (after_closing (book_in s)))) → out ≡ closing_output (book_in s) → CalledOn (closing_rule (length lent)) s lent 0 s' out
  unfolding closing_rule
  closing_accepted z e o = on_accepted _ s lent refl z e o
