-- `wheel_month::enter_and_close` meets its contract: the lines, and the closing after them. Assumes nothing.
use mathlib.Core.List.{[], ◌∷◌}
use mathlib.Core.Path.{refl}
use native.Mathlib.Omega.{arith}
use Rattle.std.proofs.lemmas.Result.{err_from_is_err_and}
use Rattle.refusal.specs.Laws.NumbersLaws.{number_not_0}
use Rattle.book.specs.BookCalls.{closing}
use Rattle.wheel_month.specs.Laws.CarriedLaws.{carried_then, carried_stop, carried_ready}
use Rattle.wheel_month.proofs.enter_and_close.Goals as goal

pub returns-in_err-enter_lines : goal.returns-in_err-enter_lines
returns-in_err-enter_lines c =
    let p = err_from_is_err_and c.from_residual.result c.from_residual.ensures.1 in
    rw (p.1, p.2) (carried_stop c.in_err-enter_lines.ensures (closing 9 ∷ []) (number_not_0 _))

pub close_month-requires : goal.close_month-requires
close_month-requires c = carried_ready c.in_ok-enter_lines.ensures refl (omega (arith, c.enter_lines.auto.s, c.requires.whole))

pub returns : goal.returns
returns c = carried_then c.in_ok-enter_lines.ensures refl c.close_month.ensures
