-- `agreed_lists::any_outside` meets its contract: after k turns it is known whether one of the first k numbers lies outside. Assumes nothing.
use mathlib.Core.Path.{refl}
use borrow.Author.Rules.{rules}
use Rattle.lists.specs.Tests.{within}
use Rattle.lists.specs.Laws.TestsLaws.{look_start, look_step, look_done}
use Rattle.agreement_rules.specs.Laws.AgreedRefusals.{outside}
use Rattle.agreed_lists.proofs.any_outside.Goals as goal

pub loop-k-init : goal.loop-k-init
loop-k-init c = look_start

pub loop-k-preserved : goal.loop-k-preserved
unfolding within
loop-k-preserved c = look_step c.loop-k.invariant (search rules) (rw c.from-x.ensures refl)

pub returns : goal.returns
unfolding outside
returns c = look_done c.loop-k.invariant (search rules)
