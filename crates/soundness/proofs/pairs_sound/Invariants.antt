-- The loop of `soundness::pairs_sound`: what lasts from turn to turn, and what falls.
use Prim.Native.Nat.{◌+◌, ◌*◌}
use lib.Dec.{ltb}
use Rattle.lists.specs.Tests.{all}
use Rattle.lists.specs.Laws.TestsLaws.{Testing}
use Rattle.soundness.specs.Laws.PairHeld.{pair_held}
use Rattle.soundness.proofs.pairs_sound.Given as goal

abbrev pub invariant-loop-g : goal.invariant-loop-g
invariant-loop-g l = Testing l.n (λ i. all 16 (λ c. pair_held l.s (ltb c l.m) (i * 16 + c))) l.g l.ok
