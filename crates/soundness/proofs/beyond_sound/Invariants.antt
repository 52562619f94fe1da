-- The loop of `soundness::beyond_sound`: what lasts from turn to turn, and what falls.
use Prim.Native.Nat.{◌+◌}
use mathlib.Core.Bool.{false}
use lib.Dec.{eqb}
use Rattle.lists.specs.Laws.TestsLaws.{Testing}
use Rattle.soundness.specs.Laws.PairHeld.{pair_held}
use Rattle.soundness.proofs.beyond_sound.Given as goal

abbrev pub invariant-loop-i : goal.invariant-loop-i
invariant-loop-i l = Testing l.n (λ j. pair_held l.s false (l.from + j)) l.i (eqb l.bits 0)
