-- `schedule::schedule_on` meets its contract: an accepted schedule replaces the former one, a refused one changes nothing. Assumes nothing.
use Rattle.std.proofs.lemmas.Result.{err_from_is_err_and}
use Rattle.refusal.specs.Laws.NumbersLaws.{number_not_0}
use Rattle.record_layout.specs.Laws.OnBytesLaws.{on_refused}
use Rattle.schedule.proofs.schedule_on.Goals as goal

pub returns-in_err-check_on : goal.returns-in_err-check_on
returns-in_err-check_on c =
    let p = err_from_is_err_and c.from_residual.result c.from_residual.ensures.1 in
    rw (p.1, p.2) (on_refused _ _ _ c.in_err-check_on.ensures (number_not_0 _))
