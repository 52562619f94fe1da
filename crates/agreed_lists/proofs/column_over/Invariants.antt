-- The loop of `agreed_lists::column_over`: what lasts from turn to turn, and what falls.
use lib.Dec.{ltb}
use Rattle.lists.specs.Pairs.{cell}
use Rattle.lists.specs.Laws.TestsLaws.{Looking}
use Rattle.agreed_lists.proofs.column_over.Given as goal

abbrev pub invariant-loop-g : goal.invariant-loop-g
invariant-loop-g l = Looking l.n (λ j. ltb l.most (cell l.n 3 l.list j l.k)) l.g l.found
