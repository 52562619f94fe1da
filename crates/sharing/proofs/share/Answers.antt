-- `sharing::share` is the row-sharing step: the zeros of each refused case, else the table of the parts. Assumes nothing.
use mathlib.Core.Path.{◌∙◌}
use native.Mathlib.Omega.{arith}
use borrow.Author.Rules.{rules}
use Rattle.lists.specs.Tables.{table}
use Rattle.sharing.specs.Laws.ShareLaws.{shared_over_energy, shared_over_capacity, shared_none, shared_within}
use Rattle.sharing.proofs.share.Goals as goal

pub returns-then-from-gt-MOST_READING : goal.returns-then-from-gt-MOST_READING
unfolding table
returns-then-from-gt-MOST_READING c = shared_over_energy _ _ (omega (arith, c.from.ensures))

pub returns-then-all-gt-MOST_CAPACITY : goal.returns-then-all-gt-MOST_CAPACITY
unfolding table
returns-then-all-gt-MOST_CAPACITY c = shared_over_capacity _ _ (omega arith)

pub returns-then-all-eq0 : goal.returns-then-all-eq0
unfolding table
returns-then-all-eq0 c = shared_none _ _ (search rules) (cc)

pub returns : goal.returns
returns c = c.parts.ensures ∙ shared_within _ _ (search rules) (omega arith)
