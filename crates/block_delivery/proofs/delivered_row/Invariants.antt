-- The loop of `block_delivery::delivered_row`: what lasts from turn to turn, and what falls.
use lib.ListN.{get_or}
use Rattle.lists.specs.Laws.TablesLaws.{Filling}
use Rattle.block_delivery.proofs.delivered_row.Given as goal

abbrev pub invariant-loop-c : goal.invariant-loop-c
invariant-loop-c l = Filling l.m (λ j. get_or l.delivered j 0) l.initial.out l.c l.out
