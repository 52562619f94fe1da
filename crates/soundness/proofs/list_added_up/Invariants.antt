-- The loop of `soundness::list_added_up`: what lasts from turn to turn, and what falls.
use Prim.Native.Nat.{◌+◌}
use mathlib.Core.Bool.{true}
use lib.ListN.{get_or}
use Rattle.lists.specs.Laws.TestsLaws.{Testing}
use Rattle.record.specs.Sound.{classes_sound}
use Rattle.record_places.specs.RecordSize.{words_in}
use Rattle.soundness.specs.Laws.ClassesHeld.{class_total}
use Rattle.soundness.proofs.list_added_up.Given as goal

abbrev pub invariant-loop-i : goal.invariant-loop-i
invariant-loop-i l = Testing l.n (λ j. classes_sound true (get_or (words_in l.s) (l.at + j) 0) (class_total l.s (l.first + j))) l.i l.ok
