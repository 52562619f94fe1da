-- `soundness::generators_sound` meets its contract. The invariant: `ok` says whether each generator passed is sound.
use mathlib.Core.Path.{◌∙◌}
use borrow.Author.Rules.{rules}
use Rattle.lists.specs.Laws.TestsLaws.{test_start, test_step}
use Rattle.sound_items.specs.Laws.SoundTests.{generator_here}
use Rattle.soundness.proofs.generators_sound.Goals as goal

pub loop-g-init : goal.loop-g-init
loop-g-init c = test_start

pub loop-g-preserved : goal.loop-g-preserved
loop-g-preserved c =
    test_step c.loop-g.invariant (search rules)
    (c.generator_sound-ok.ensures ∙ rw c.generator_terms.ensures (generator_here _ _ _ _ (search rules)))
