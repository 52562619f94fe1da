-- `wheel_month::month` meets its contract: agreement A, then the lines and the closing on its bytes. Assumes nothing.
use mathlib.Core.Path.{refl}
use borrow.Author.Rules.{rules}
use Rattle.std.proofs.lemmas.Result.{err_from_is_err_and}
use Rattle.wheel_month.specs.Laws.Entering.{month_ready, month_number, month_holds}
use Rattle.wheel_month.proofs.month.Goals as goal

pub enter_and_close-requires : goal.enter_and_close-requires
enter_and_close-requires c = month_ready c.agreement_a.new.s c.agreement_a.ensures (search rules)

pub returns-in_err-enter_and_close : goal.returns-in_err-enter_and_close
returns-in_err-enter_and_close c =
    let p = err_from_is_err_and c.from_residual.result c.from_residual.ensures.1 in
    rw (p.1, p.2) (record { number = month_number c.agreement_a.new.s c.agreement_a.ensures _ _ c.in_err-enter_and_close.ensures; holds = tt })

pub returns : goal.returns
returns c =
    let agreed = c.agreement_a in
    record {
      number = month_number agreed.new.s agreed.ensures _ _ c.in_ok-enter_and_close.ensures;
      holds = month_holds agreed.new.s agreed.ensures _ _ c.in_ok-enter_and_close.ensures refl c.load.ensures;
    }
