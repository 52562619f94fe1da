-- `soundness::classes_empty` meets its contract. The invariant: `bits` is 0 where each number passed is 0 in all classes. Assumes nothing.
use mathlib.Core.Bool.{false}
use mathlib.Core.Path.{refl}
use borrow.Author.Rules.{rules}
use Rattle.lists.specs.Laws.TestsLaws.{test_start, test_step, test_done}
use Rattle.sound_items.specs.Laws.HoursTests.{classes_next}
use Rattle.soundness.specs.Laws.ClassesHeldLaws.{class_held, none_held}
use Rattle.soundness.proofs.classes_empty.Goals as goal

pub loop-j-init : goal.loop-j-init
loop-j-init c = test_start

pub loop-j-preserved : goal.loop-j-preserved
loop-j-preserved c =
    rw (classes_next _ 0 _ _ _)
    (test_step c.loop-j.invariant (search rules)
    (class_held _ false _ refl c.number_at.ensures c.number_at-in-loop-j.ensures c.number_at-in-loop-j-2.ensures))

pub returns : goal.returns
returns c = none_held _ (test_done c.loop-j.invariant (search rules))
