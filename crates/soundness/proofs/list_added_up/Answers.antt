-- `soundness::list_added_up` meets its contract. The invariant: `ok` says whether each place passed is the sum of its classes. Assumes nothing.
use mathlib.Core.Bool.{true}
use mathlib.Core.Path.{◌∙◌}
use borrow.Author.Rules.{rules}
use Rattle.lists.specs.Laws.TestsLaws.{test_start, test_step, test_done}
use Rattle.soundness.specs.Laws.ClassesHeld.{list_held}
use Rattle.soundness.specs.Laws.ClassesHeldLaws.{class_held}
use Rattle.soundness.proofs.list_added_up.Goals as goal

pub loop-i-init : goal.loop-i-init
loop-i-init c = test_start

pub loop-i-preserved : goal.loop-i-preserved
loop-i-preserved c =
    test_step c.loop-i.invariant (search rules)
    (c.classes_sound-ok.ensures ∙ class_held _ true _ c.number_at.ensures c.number_at-in-loop-i.ensures c.number_at-in-loop-i-2.ensures c.number_at-in-loop-i-3.ensures)

pub returns : goal.returns
unfolding list_held
returns c = test_done c.loop-i.invariant (search rules)
