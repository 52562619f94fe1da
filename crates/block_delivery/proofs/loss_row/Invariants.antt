-- The loop of `block_delivery::loss_row`: what lasts from turn to turn, and what falls.
use lib.ListN.{get_or}
use Rattle.lists.specs.Laws.TablesLaws.{Filling}
use Rattle.energy.specs.Energy.{loss_on, after_loss}
use Rattle.record_layout.specs.OnBytes.{plan_in}
use Rattle.block_delivery.proofs.loss_row.Given as goal

abbrev pub invariant-loop-c : goal.invariant-loop-c
invariant-loop-c l =
    Filling l.m (λ j. loss_on (get_or l.initial.parts j 0) ((plan_in l.s).loss l.g j)) l.initial.out l.c l.out × Filling 16 (λ j. after_loss (get_or l.initial.parts j 0) ((plan_in l.s).loss l.g j)) l.initial.parts l.c l.parts
