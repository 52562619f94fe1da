-- `block_delivery::fill_delivered` puts row after row. Assumes nothing.
use borrow.Author.Rules.{rules}
use Rattle.output_lists.specs.Laws.RowsWritten.{rows_start, rows_put, rows_done}
use Rattle.block_delivery.proofs.fill_delivered.Goals as goal

pub loop-g-preserved : goal.loop-g-preserved
loop-g-preserved c = rows_put c.loop-g.invariant (search rules) c.delivered_row.ensures

pub loop-g-init : goal.loop-g-init
loop-g-init c = rows_start (search rules)

pub returns : goal.returns
returns c = rows_done c.loop-g.invariant (search rules)
