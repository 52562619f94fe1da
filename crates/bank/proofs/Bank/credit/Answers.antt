-- `bank::Bank::credit` is step 1: within the limits s balances are charged and credited. Assumes nothing.
use mathlib.Core.Path.{sym, ◌∙◌}
use native.Mathlib.Omega.{arith}
use borrow.Author.Rules.{rules}
use Rattle.bank.specs.Laws.CreditLaws.{credit_start, credit_step, credit_moderate, rate_high, credit_exact}
use Rattle.bank.proofs.Bank.credit.Goals as goal

pub loop-s-init : goal.loop-s-init
loop-s-init g c = credit_start (sym c.takes.ensures ∙ c.if-not-takes.false) (search rules)

pub portion_up-due-requires : goal.portion_up-due-requires
portion_up-due-requires g c =
    let inv = c.loop-s.invariant in
    let h = credit_moderate inv c.loop-s-test.true in
    let r = rate_high inv in
    search rules

pub overflow_sub-self : goal.overflow_sub-self
overflow_sub-self g c = credit_exact c.loop-s.invariant c.portion_up-due.ensures

pub overflow_add-self : goal.overflow_add-self
overflow_add-self g c = omega (arith, credit_moderate c.loop-s.invariant c.loop-s-test.true)

pub loop-s-preserved : goal.loop-s-preserved
loop-s-preserved g c = credit_step c.loop-s.invariant c.loop-s-test.true c.portion_up-due.ensures
