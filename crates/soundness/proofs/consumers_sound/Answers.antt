-- `soundness::consumers_sound` meets its contract. The invariant: `ok` says whether each consumer passed is sound.
use mathlib.Core.Path.{◌∙◌}
use borrow.Author.Rules.{rules}
use Rattle.lists.specs.Laws.TestsLaws.{test_start, test_step}
use Rattle.sound_items.specs.Laws.SoundTests.{consumer_here}
use Rattle.soundness.proofs.consumers_sound.Goals as goal

pub loop-c-init : goal.loop-c-init
loop-c-init c = test_start

pub loop-c-preserved : goal.loop-c-preserved
loop-c-preserved c =
    test_step c.loop-c.invariant (search rules)
    (c.consumer_sound-ok.ensures ∙ rw c.consumer_terms.ensures (consumer_here _ _ _ _ (search rules)))
