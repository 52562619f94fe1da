-- `soundness::agreed_all_sound` meets its contract. The invariant: `ok` says whether each generator passed is soundly agreed.
use borrow.Author.Rules.{rules}
use Rattle.lists.specs.Laws.TestsLaws.{test_start, test_step}
use Rattle.soundness.proofs.agreed_all_sound.Goals as goal

pub loop-g-init : goal.loop-g-init
loop-g-init c = test_start

pub loop-g-preserved : goal.loop-g-preserved
loop-g-preserved c = test_step c.loop-g.invariant (search rules) c.agreed_at-ok.ensures
