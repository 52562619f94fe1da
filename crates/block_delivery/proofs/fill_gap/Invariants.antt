-- The loop of `block_delivery::fill_gap`: what lasts from turn to turn, and what falls.
use Rattle.output_lists.specs.Laws.RowsWritten.{WritingRows}
use Rattle.record_layout.specs.OnBytes.{plan_in}
use Rattle.block_delivery.specs.Laws.DeliveryRows.{figure, gap_at}
use Rattle.block_delivery.proofs.fill_gap.Given as goal

abbrev pub invariant-loop-g : goal.invariant-loop-g
invariant-loop-g l = WritingRows l.n l.m (λ i j. gap_at (plan_in l.s) i j (figure l.delivered i j)) l.initial.out l.g l.at l.out
