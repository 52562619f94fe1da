-- `wheel_month::enter_lines` meets its contract. The loop's invariant: the lines after i values, carried out on the record, carry out all. Assumes nothing.
use mathlib.Core.Path.{refl}
use native.Mathlib.Omega.{arith}
use borrow.Author.Rules.{rules}
use Rattle.std.proofs.lemmas.Result.{err_from_is_err_and}
use Rattle.refusal.specs.Laws.NumbersLaws.{number_not_0}
use Rattle.wheel_month.specs.Laws.Entering.{entering_start, entering_step, entering_stop, entering_done}
use Rattle.wheel_month.proofs.enter_lines.Goals as goal

pub loop-i-init : goal.loop-i-init
loop-i-init c = entering_start c.args.s.now c.args.values.now c.requires

pub returns-in_err-enter_line : goal.returns-in_err-enter_line
returns-in_err-enter_line c =
    let p = err_from_is_err_and c.from_residual.result c.from_residual.ensures.1 in
    rw (p.1, p.2) (entering_stop c.loop-i.invariant c.enter_line.new.s (search rules) c.in_err-enter_line.ensures (number_not_0 _))

pub loop-i-preserved : goal.loop-i-preserved
loop-i-preserved c =
    let entered = c.loop-i.invariant in
    entering_step entered c.enter_line.new.s (search rules) c.in_ok-enter_line.ensures refl (omega (arith, c.enter_line.auto.s, entered.ready.whole))

pub returns : goal.returns
returns c = entering_done c.loop-i.invariant (search rules)
