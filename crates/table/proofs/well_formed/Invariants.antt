-- The loop of `table::well_formed`: what lasts from turn to turn.
use Rattle.table.specs.Laws.ReaderLoops.{Scanned}
use Rattle.table.proofs.well_formed.Given as goal

abbrev pub invariant-loop-b : goal.invariant-loop-b
invariant-loop-b l = Scanned l.w l.s l.at l.k l.b-index
