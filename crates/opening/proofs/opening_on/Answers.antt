-- `opening::opening_on` meets its contract: an opening without a number is permitted and stored, any other leaves the bytes. Assumes nothing.
use mathlib.Core.Path.{sym}
use Rattle.std.proofs.lemmas.Result.{err_from_is_err_and}
use Rattle.refusal.specs.Laws.NumbersLaws.{number_not_0}
use Rattle.agreement_rules.specs.Laws.OpeningLaws.{accepted_permitted}
use Rattle.opening.specs.Laws.OpenedOnLaws.{opened_refused}
use Rattle.opening.proofs.opening_on.Goals as goal

pub returns-in_err-check : goal.returns-in_err-check
returns-in_err-check c =
    let p = err_from_is_err_and c.from_residual.result c.from_residual.ensures.1 in
    rw (p.1, p.2) (opened_refused c.in_err-check.ensures (number_not_0 _))

pub store_opened-requires : goal.store_opened-requires
store_opened-requires c = (accepted_permitted _ (sym c.in_ok-check.ensures), c.requires)
