-- The loop of `soundness::classes_empty`: what lasts from turn to turn, and what falls.
use mathlib.Core.Bool.{false}
use lib.Dec.{eqb}
use Rattle.lists.specs.Laws.TestsLaws.{Testing}
use Rattle.record.specs.Sound.{classes_sound}
use Rattle.soundness.specs.Laws.ClassesHeld.{class_total}
use Rattle.soundness.proofs.classes_empty.Given as goal

abbrev pub invariant-loop-j : goal.invariant-loop-j
invariant-loop-j l = Testing 32 (λ i. classes_sound false 0 (class_total l.s i)) l.j (eqb l.bits 0)
