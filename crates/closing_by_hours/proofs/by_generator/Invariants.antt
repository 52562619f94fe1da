-- The loop of `closing_by_hours::by_generator`: what lasts from turn to turn, and what falls.
use Prim.Native.Nat.{◌≤◌}
use lib.ListN.{replicate}
use Rattle.lists.specs.Laws.TablesLaws.{Filling}
use Rattle.closing_by_hours.specs.Laws.ByGenerator.{excess}
use Rattle.closing_by_hours.proofs.by_generator.Given as goal

abbrev pub invariant-loop-g : goal.invariant-loop-g
invariant-loop-g l = Filling 8 (excess l.more l.less) (replicate 8 0) l.g l.out × (l.g ≤ l.n)
