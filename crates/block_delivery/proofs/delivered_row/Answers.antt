-- `block_delivery::delivered_row` copies the first m figures. Assumes nothing.
use borrow.Author.Rules.{rules}
use Rattle.lists.specs.Laws.TablesLaws.{fill_start, fill_step, fill_done}
use Rattle.block_delivery.proofs.delivered_row.Goals as goal

pub loop-c-preserved : goal.loop-c-preserved
loop-c-preserved c = fill_step c.loop-c.invariant (search rules) c.from.ensures

pub loop-c-init : goal.loop-c-init
loop-c-init c = fill_start (search rules)

pub returns : goal.returns
returns c = fill_done c.loop-c.invariant (search rules)
