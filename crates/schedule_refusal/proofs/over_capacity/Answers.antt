-- `schedule_refusal::over_capacity` meets its contract: after g turns it is known whether one of the first g generators is over a capacity. Assumes nothing.
use native.Mathlib.Omega.{arith}
use borrow.Author.Rules.{rules}
use Rattle.lists.specs.Laws.TestsLaws.{look_start, look_step, look_done}
use Rattle.agreement_rules.specs.Laws.AgreedReadingLaws.{first_row_at}
use Rattle.agreement_rules.specs.Laws.AgreedRefusals.{over_capacity}
use Rattle.agreement_rules.specs.Laws.AgreedRefusalsLaws.{row_over}
use Rattle.schedule_refusal.proofs.over_capacity.Goals as goal

pub loop-g-init : goal.loop-g-init
loop-g-init c = look_start

pub overflow_mul-g : goal.overflow_mul-g
overflow_mul-g c = let l = c.loop-g in omega (arith, (first_row_at l.g c.requires (search rules)).fits)

pub row_total-total-requires : goal.row_total-total-requires
row_total-total-requires c = let l = c.loop-g in first_row_at l.g c.requires (search rules)

pub loop-g-preserved : goal.loop-g-preserved
loop-g-preserved c =
    let l = c.loop-g in
    look_step l.invariant (search rules) (row_over c.args.agreed _ _ _ _ _ (search rules) (search rules) c.row_total-total.ensures)

pub returns : goal.returns
unfolding over_capacity
returns c = look_done c.loop-g.invariant (search rules)
