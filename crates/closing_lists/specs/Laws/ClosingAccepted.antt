-- What the steps of an accepted closing may rely on, and that they give the output of the rules. Assumes nothing.
use Rattle.std.specs.Prelude.{ℕ, ◌+◌, ◌*◌, ◌≤◌, ◌≡◌, refl, Bool, true, List, ◌++◌, length, replicate, if◌then◌else◌}
use Rattle.std.proofs.Math.Path.{sym}
use Rattle.std.proofs.Common.{◌∙◌, arith}
use native.Mathlib.Nat.{mul-le-mul}
use Rattle.std.proofs.Math.Bool.{false}
use Rattle.lists.specs.Pairs.{place}
use Rattle.record.specs.Plan.{suppliers}
use Rattle.record.specs.Hours.{hours_apply}
use Rattle.record.specs.Book.{by_hours}
use Rattle.record.specs.Stored.{generator_at, plan_of, figures}
use Rattle.record.specs.Laws.SoundLaws.{orderable, injected_most}
use Rattle.record.specs.Called.{number_on}
use Rattle.record.specs.declared.Record.{Record}
use Rattle.record.specs.declared.Terms.{Terms}
use Rattle.record.specs.declared.Counts.{Counts}
use Rattle.record.specs.declared.Switch.{Switch}
use Rattle.bank.specs.Laws.CreditLaws.{creditable, creditable_so}
use Rattle.bank.specs.Laws.BankSteps.{Credited}
use Rattle.bank.specs.Laws.BankLaws.{credit_all, lapse_leaves, lapse_takes}
use Rattle.closing_rules.specs.Closing.{lapse_due, lapses, closing_output, closing_rule}
use Rattle.closing_rules.proofs.FormerClosingProof.{output_before_switch}
use Rattle.closing_rules.proofs.ClosingRefusals.{facts, generators_few, consumers_few, output_size}
use Rattle.closing_lists.specs.Laws.Drawable.{Drawable}
use Rattle.closing_lists.specs.Laws.DrawingSteps.{Drawn}
use Rattle.closing_lists.specs.Laws.ClosingMonth.{output_is}
use Rattle.closing_lists.specs.Laws.ClosingWritten.{five_lists}

-- what the steps are handed and read of a record
pub record StepsRead (r : Record) (terms : Terms) (counts : Counts) (switch : Switch) (held pending outstanding : List ℕ) : Type 0 where
  pub terms_are : terms ≡ r.terms
  pub counts_are : counts ≡ r.counts
  pub switch_is : switch ≡ r.switch
  pub held_is : held ≡ r.generators.bank
  pub pending_is : pending ≡ r.generators.pending
  pub open_is : outstanding ≡ r.consumers.outstanding

module _ (r : Record) (size : ℕ) (z : number_on (closing_rule size) r ≡ 0) where
  -- no figure of a sound record is beyond the bank's limits
  credit_taken : creditable 8 r.generators.bank 8 r.generators.pending r.terms.rate ≡ true
  unfolding figures generator_at
  credit_taken =
      let f = facts r size z in
      creditable_so _ _ _ _ _ (omega arith) f.counts.rate_high (λ g l. omega (arith, (f.gen g).equation, injected_most (figures r) f g))

  drawable : Drawable (plan_of r) r.terms.generators r.terms.consumers
  unfolding figures plan_of
  drawable =
      record { G_is = refl; G_high = generators_few r size z; C_high = consumers_few r size z; orderable = orderable (figures r) (facts r size z) }

module _ (r : Record) (size : ℕ) (z : number_on (closing_rule size) r ≡ 0) {terms : Terms} (e : terms ≡ r.terms) where
  pub draw_ready : Drawable (plan_of r) terms.generators terms.consumers
  draw_ready = rw e (drawable r size z)

  pub output_long : size ≡ terms.generators * terms.consumers + (3 * terms.generators + 2 * terms.consumers)
  output_long = rw e (omega (arith, output_size r size z))

  pub drawn_small : terms.generators * terms.consumers ≤ 128
  drawn_small = rw e (mul-le-mul (generators_few r size z) (consumers_few r size z))

module _ (r : Record) (size : ℕ) (z : number_on (closing_rule size) r ≡ 0) {terms : Terms} {counts : Counts} {switch : Switch} {held pending outstanding : List ℕ} (x : StepsRead r terms counts switch held pending outstanding) where
  -- before the switch month the lists that the steps give are the output of the rules
  pub lists_are : {credited charge left out supplied lapsed balance : List ℕ} {due : Bool} → hours_apply switch.month switch.closings ≡ false →
      length held ≡ 8 → Credited 8 held 8 pending terms.rate credited charge →
      Drawn (suppliers (plan_of r)) (place 8 credited) (place 16 outstanding) terms.generators terms.consumers terms.consumers left out supplied →
      due ≡ lapse_due switch.month switch.closings counts.gone terms.cycle →
      balance ≡ (if due then replicate 8 0 else left) → lapsed ≡ (if due then left else replicate 8 0) →
      out ++ five_lists charge lapsed balance outstanding supplied terms.generators terms.consumers ≡ closing_output (figures r)
  unfolding figures lapses
  lists_are {credited} {charge} old z₀ credit drew d after lapse =
      let before : by_hours (figures r) ≡ false = rw x.switch_is at old in
      let due_is : _ ≡ lapses (figures r) = rw (x.switch_is, x.counts_are, x.terms_are) at d in
      let within : Credited 8 r.generators.bank 8 r.generators.pending r.terms.rate credited charge = rw (x.held_is, x.pending_is, x.terms_are) at credit in
      let all = credit_all (rw x.held_is at z₀) (credit_taken r size z) within in
      let fit = (rw (x.terms_are, x.open_is) at drew) in
      rw (x.terms_are, x.open_is)
      (output_is r (generators_few r size z) (consumers_few r size z) (lapses (figures r)) all.0 all.1 fit
      ((rw due_is at lapse) ∙ lapse_takes 8 _ drew.size _) ((rw due_is at after) ∙ lapse_leaves 8 _ drew.size _)) ∙
      sym (output_before_switch (figures r) before)
