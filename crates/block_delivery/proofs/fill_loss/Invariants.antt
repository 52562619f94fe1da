-- The loop of `block_delivery::fill_loss`: what lasts from turn to turn, and what falls.
use mathlib.Core.List.{[]}
use lib.ListN.{get_or}
use Rattle.lists.specs.Laws.TablesLaws.{Filling, filled}
use Rattle.output_lists.specs.Laws.RowsWritten.{WritingRows}
use Rattle.energy.specs.Energy.{loss_on, after_loss}
use Rattle.record_layout.specs.OnBytes.{plan_in}
use Rattle.block_delivery.specs.Laws.DeliveryRows.{figure}
use Rattle.block_delivery.proofs.fill_loss.Given as goal

abbrev pub invariant-loop-g : goal.invariant-loop-g
invariant-loop-g l =
    WritingRows l.n l.m (λ i j. loss_on (figure l.initial.parts i j) ((plan_in l.s).loss i j)) l.initial.out l.g l.at l.out ×
    Filling 8 (λ i. filled (get_or l.initial.parts i []) l.m (λ j. after_loss (figure l.initial.parts i j) ((plan_in l.s).loss i j))) l.initial.parts l.g l.parts
