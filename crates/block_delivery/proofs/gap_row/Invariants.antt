-- The loop of `block_delivery::gap_row`: what lasts from turn to turn, and what falls.
use lib.ListN.{get_or}
use Rattle.lists.specs.Laws.TablesLaws.{Filling}
use Rattle.record_layout.specs.OnBytes.{plan_in}
use Rattle.block_delivery.specs.Laws.DeliveryRows.{gap_at}
use Rattle.block_delivery.proofs.gap_row.Given as goal

abbrev pub invariant-loop-c : goal.invariant-loop-c
invariant-loop-c l = Filling l.m (λ j. gap_at (plan_in l.s) l.g j (get_or l.delivered j 0)) l.initial.out l.c l.out
