-- `soundness::beyond_sound` meets its contract. The invariant: `bits` is 0 where each pair passed is as it is beyond the agreement.
use mathlib.Core.Bool.{false}
use borrow.Author.Rules.{rules}
use Rattle.lists.specs.Laws.TestsLaws.{test_start, test_step}
use Rattle.sound_items.specs.Laws.SoundTests.{beyond_next}
use Rattle.soundness.specs.Laws.PlacesHeldLaws.{pair_held_lem}
use Rattle.soundness.proofs.beyond_sound.Goals as goal

pub loop-i-init : goal.loop-i-init
loop-i-init c = test_start

pub loop-i-preserved : goal.loop-i-preserved
loop-i-preserved c =
    rw (beyond_next _ _ _ _ _)
    (test_step c.loop-i.invariant (search rules)
    (pair_held_lem _ false _ (search rules)
    c.number_at.ensures
    c.number_at-in-loop-i.ensures
    c.number_at-in-loop-i-2.ensures
    c.number_at-in-loop-i-3.ensures))
