-- `soundness::pairs_sound` meets its contract. The invariant: `ok` says whether each row passed is sound.
use borrow.Author.Rules.{rules}
use Rattle.lists.specs.Laws.TestsLaws.{test_start, test_step, test_done}
use Rattle.sound_items.specs.Laws.SoundTests.{pairs_here}
use Rattle.soundness.specs.Laws.PairHeld.{pair_held}
use Rattle.soundness.proofs.pairs_sound.Goals as goal

pub loop-g-init : goal.loop-g-init
loop-g-init c = test_start

pub loop-g-preserved : goal.loop-g-preserved
loop-g-preserved c = test_step c.loop-g.invariant (search rules) c.row_sound-ok.ensures

pub returns : goal.returns
unfolding pair_held
returns c = pairs_here _ _ _ _ _ _ (search rules) (test_done c.loop-g.invariant (search rules)) c.beyond_sound.ensures
