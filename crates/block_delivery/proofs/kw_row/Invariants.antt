-- The loop of `block_delivery::kw_row`: what lasts from turn to turn, and what falls.
use Rattle.lists.specs.Laws.TablesLaws.{Filling}
use Rattle.record_layout.specs.OnBytes.{plan_in}
use Rattle.block_delivery.proofs.kw_row.Given as goal

abbrev pub invariant-loop-c : goal.invariant-loop-c
invariant-loop-c l = Filling 16 ((plan_in l.s).kw l.g) l.initial.row l.c l.row
