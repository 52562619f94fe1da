-- `wheel::report` meets its contract, by the answer of the reading. Assumes nothing.
use Rattle.std.proofs.Common.{arith, length-take}
use Rattle.wheel_input.specs.Laws.InputLaws.{input_room}
use Rattle.wheel.specs.Laws.ReportLaws.{shows_refused, shows_account}
use Rattle.wheel.proofs.report.Goals as goal

pub overflow_mul-values : goal.overflow_mul-values
overflow_mul-values c = let m = input_room _ _ _ c.in-Ok.ensures in omega arith

pub slice_bounds-values-end : goal.slice_bounds-values-end
slice_bounds-values-end c = let m = input_room _ _ _ c.in-Ok.ensures in omega (arith, c.read.auto.values)

pub slice_bounds-account-end : goal.slice_bounds-account-end
slice_bounds-account-end c = let m = input_room _ _ _ c.in-Ok.ensures in simp length-take (omega (arith, c.read.auto.values))

pub returns-in-Err : goal.returns-in-Err
returns-in-Err c = shows_refused _ _ c.in-Err.refusal c.in-Err.ensures (rw (← c.number.ensures) c.refused.ensures)

pub returns-in-Ok : goal.returns-in-Ok
returns-in-Ok c = shows_account _ _ _ c.in-Ok.ensures c.account.ensures
