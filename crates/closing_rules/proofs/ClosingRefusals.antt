-- The refusals of a closing as the code tests them, and what an accepted one may rely on. Assumes nothing.
use Rattle.std.specs.Prelude.{ℕ, ◌+◌, ◌*◌, ◌≤◌, ◌≡◌, true}
use Rattle.std.proofs.Common.{sym, ◌∙◌, ⊎_elim, arith}
use Rattle.record.specs.Book.{Book}
use Rattle.record.specs.Stored.{figures, plan_of}
use Rattle.record.specs.Sound.{sound}
use Rattle.record.specs.Laws.SoundLaws.{Facts}
use Rattle.record.specs.Called.{number_on}
use Rattle.record.specs.Laws.CalledLaws.{number_sound, accepted_sound, record_facts}
use Rattle.record.specs.declared.Record.{Record}
use Rattle.record.specs.declared.Terms.{Terms}
use Rattle.record.specs.declared.Counts.{Counts}
use Rattle.closing_rules.specs.Closing.{closing_length, closing_number, closing_refusal, closing_rule}
use Rattle.closing_rules.proofs.ClosingLaws.{closing_sized}

-- on a stored record, its terms and counts being read apart
pub record_refusal : (r : Record) {t : Terms} {n : Counts} (size : ℕ) → t ≡ r.terms → n ≡ r.counts → sound (figures r) ≡ true →
    closing_number t.generators t.consumers n.monthblocks size ≡ number_on (closing_rule size) r
unfolding figures plan_of closing_rule closing_refusal
record_refusal r size e f s = rw (e, f) (sym (number_sound (closing_rule size) r s))

-- an accepted closing was lent a slice of the stated length
accepted_size : (b : Book) (size : ℕ) → closing_refusal size b ≡ 0 → size ≡ closing_length b.plan.G b.plan.C
accepted_size b size z = ⊎_elim (λ (e : closing_refusal size b ≡ 2). absurd (omega arith)) (λ e. e) (closing_sized size b)

-- what an accepted closing may rely on
module _ (r : Record) (size : ℕ) (z : number_on (closing_rule size) r ≡ 0) where
  pub facts : Facts (figures r)
  facts = record_facts r (accepted_sound (closing_rule size) r z)

  pub generators_few : r.terms.generators ≤ 8
  unfolding figures plan_of
  generators_few = facts.counts.G_high

  pub consumers_few : r.terms.consumers ≤ 16
  unfolding figures plan_of
  consumers_few = facts.counts.C_high

  pub output_size : size ≡ r.terms.generators * r.terms.consumers + 3 * r.terms.generators + 2 * r.terms.consumers
  unfolding figures plan_of closing_length closing_rule
  output_size = accepted_size (figures r) size (sym (number_sound (closing_rule size) r (accepted_sound (closing_rule size) r z)) ∙ z)
