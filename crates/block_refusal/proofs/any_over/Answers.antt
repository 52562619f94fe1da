-- `block_refusal::any_over` meets its contract: the search finds a reading over the limit where there is one.
use mathlib.Core.Path.{ap}
use Rattle.block_rules.specs.Laws.BlockRefusals.{over_limit}
use Rattle.energy.specs.Limits.{most_reading}
use Rattle.lists.specs.Laws.TestsLaws.{look_start, look_step, look_done}
use lib.Dec.{ltb}
use borrow.Author.Rules.{rules}
use Rattle.block_refusal.proofs.any_over.Goals as goal

pub loop-i-init : goal.loop-i-init
loop-i-init c = look_start

pub loop-i-preserved : goal.loop-i-preserved
loop-i-preserved c = look_step c.loop-i.invariant (search rules) (ap (ltb most_reading) c.from.ensures)

pub returns : goal.returns
unfolding over_limit
returns c = look_done c.loop-i.invariant (search rules)
