-- `record_bytes::storing::store_schedule` meets its contract: the runs are put one after the other. Assumes nothing.
use borrow.Author.Rules.{rules}
use Rattle.lists.specs.Pairs.{joined}
use Rattle.record_layout.specs.Laws.Layout.{laid_run, laid_then, laid_last}
use Rattle.record_bytes.proofs.storing.store_schedule.Goals as goal

pub returns : goal.returns
unfolding joined
returns c =
    laid_then (laid_run {n = 128} (search rules) c.store_run.ensures)
    (laid_last (laid_run {n = 128} (search rules) c.store_run-2.ensures))
