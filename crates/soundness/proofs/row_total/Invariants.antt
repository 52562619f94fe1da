-- The loop of `soundness::row_total`: what lasts from turn to turn, and what falls.
use Rattle.lists.specs.Pairs.{cell}
use Rattle.sound_items.specs.Laws.CappedLaws.{Adding}
use Rattle.record_layout.specs.OnBytes.{record_in}
use Rattle.soundness.proofs.row_total.Given as goal

abbrev pub invariant-loop-c : goal.invariant-loop-c
invariant-loop-c l = Adding l.n (cell 8 16 (record_in l.s).schedule.kw l.g) l.c l.total
