-- `closing::close_on` meets its contract: the lists and the totals of an accepted closing make up the call, and a refused one changes nothing.
use mathlib.Core.Path.{sym}
use borrow.Author.Rules.{rules}
use Rattle.std.proofs.lemmas.Result.{err_from_is_err_and}
use Rattle.refusal.specs.Laws.NumbersLaws.{number_not_0}
use Rattle.record_layout.specs.Laws.OnBytesLaws.{on_refused}
use Rattle.record_layout.specs.Laws.RecordHead.{HeadRead}
use Rattle.closing.specs.Laws.ClosingReady.{listed}
use Rattle.closing.proofs.close_on.Goals as goal

pub returns-in_err-check_on : goal.returns-in_err-check_on
returns-in_err-check_on c =
    let p = err_from_is_err_and c.from_residual.result c.from_residual.ensures.1 in
    rw (p.1, p.2) (on_refused _ _ _ c.in_err-check_on.ensures (number_not_0 _))

pub enter-requires : goal.enter-requires
enter-requires c =
    let head : HeadRead c.args.s.now c.load_terms-terms.result c.load_counts-counts.result = search rules in
    listed _ _ head c.load_switch-switch.ensures (sym c.in_ok-check_on.ensures) c.make_lists.ensures
