-- `wheel::account` meets its contract, by what the month's calls gave. Assumes nothing.
use Rattle.wheel.specs.Laws.AccountLaws.{shows_refusal, shows_equation}
use Rattle.wheel.proofs.account.Goals as goal

pub returns-in-Ok : goal.returns-in-Ok
returns-in-Ok c = shows_equation c.args.values.now c.in-Ok.ensures.number c.in-Ok.ensures.holds c.equation.ensures

pub returns-in-Err : goal.returns-in-Err
returns-in-Err c = shows_refusal c.args.values.now c.in-Err.refusal c.in-Err.ensures.number (rw (← c.number.ensures) c.refused.ensures)
