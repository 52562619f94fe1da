-- The loop of `block_delivery::fill_delivered`: what lasts from turn to turn, and what falls.
use Rattle.output_lists.specs.Laws.RowsWritten.{WritingRows}
use Rattle.block_delivery.specs.Laws.DeliveryRows.{figure}
use Rattle.block_delivery.proofs.fill_delivered.Given as goal

abbrev pub invariant-loop-g : goal.invariant-loop-g
invariant-loop-g l = WritingRows l.n l.m (figure l.delivered) l.initial.out l.g l.at l.out
