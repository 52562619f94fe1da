-- The loop of `soundness::row_sound`: what lasts from turn to turn, and what falls.
use Prim.Native.Nat.{◌+◌, ◌*◌}
use mathlib.Core.Bool.{true}
use Rattle.lists.specs.Laws.TestsLaws.{Testing}
use Rattle.soundness.specs.Laws.PairHeld.{pair_held}
use Rattle.soundness.proofs.row_sound.Given as goal

abbrev pub invariant-loop-c : goal.invariant-loop-c
invariant-loop-c l = Testing l.m (λ i. pair_held l.s true (l.g * 16 + i)) l.c l.ok
