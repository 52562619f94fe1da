-- The loop of `schedule_refusal::row_off_link`: what lasts from turn to turn, and what falls.
use Prim.Native.Nat.{◌+◌, ◌*◌}
use mathlib.Core.Bool.{◌&&◌}
use lib.Dec.{eqb, ltb}
use lib.ListN.{get_or}
use Rattle.lists.specs.Laws.TestsLaws.{Looking}
use Rattle.schedule_refusal.proofs.row_off_link.Given as goal

abbrev pub invariant-loop-c : goal.invariant-loop-c
invariant-loop-c l = Looking l.m (λ j. eqb (get_or l.link (l.g * 16 + j) 0) 0 && ltb 0 (get_or l.kws (l.from + j) 0)) l.c l.found
