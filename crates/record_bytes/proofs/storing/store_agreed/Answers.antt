-- `record_bytes::storing::store_agreed` meets its contract: the rows side by side are put at place 7. Assumes nothing.
use borrow.Author.Rules.{rules}
use Rattle.record_layout.specs.Laws.Layout.{laid_run}
use Rattle.record_bytes.proofs.storing.store_agreed.Goals as goal

pub returns : goal.returns
returns c =
    rw c.rows-run.ensures at (laid_run {n = 24} (search rules) c.store_run.ensures)
