-- `schedule_refusal::row_off_link` meets its contract: after c turns it is known whether one of the first c pairs has kW and no link. Assumes nothing.
use mathlib.Core.Path.{refl}
use borrow.Author.Rules.{rules}
use Rattle.lists.specs.Laws.TestsLaws.{look_start, look_step, look_done}
use Rattle.schedule_refusal.proofs.row_off_link.Goals as goal

pub loop-c-init : goal.loop-c-init
loop-c-init c = look_start

pub loop-c-preserved : goal.loop-c-preserved
loop-c-preserved c = look_step c.loop-c.invariant (search rules) refl

pub returns : goal.returns
returns c = look_done c.loop-c.invariant (search rules)
