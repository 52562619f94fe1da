-- `lists::in_range` meets its contract: it is the definition of `within`. Assumes nothing.
use mathlib.Core.Path.{refl}
use Rattle.lists.specs.Tests.{within}
use Rattle.lists.proofs.in_range.Goals as goal

pub returns : goal.returns
unfolding within
returns c = refl
