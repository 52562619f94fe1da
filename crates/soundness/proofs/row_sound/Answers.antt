-- `soundness::row_sound` meets its contract. The invariant: `ok` says whether each pair passed is sound.
use borrow.Author.Rules.{rules}
use Rattle.lists.specs.Laws.TestsLaws.{test_start, test_step, test_done}
use Rattle.sound_items.specs.Laws.SoundTests.{row_here}
use Rattle.soundness.specs.Laws.PairHeld.{pair_held}
use Rattle.soundness.proofs.row_sound.Goals as goal

pub loop-c-init : goal.loop-c-init
loop-c-init c = test_start

pub loop-c-preserved : goal.loop-c-preserved
loop-c-preserved c = test_step c.loop-c.invariant (search rules) c.pair_within-ok.ensures

pub returns : goal.returns
unfolding pair_held
returns c = row_here _ _ _ _ _ _ (search rules) (test_done c.loop-c.invariant (search rules)) c.beyond_sound.ensures
