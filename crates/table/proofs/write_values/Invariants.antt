-- The loop of `table::write_values`: what lasts from turn to turn.
use Rattle.table.specs.Laws.ReaderLoops.{Writing}
use Rattle.table.proofs.write_values.Given as goal

abbrev pub invariant-loop-b : goal.invariant-loop-b
invariant-loop-b l = Writing l.w l.s l.initial.out l.out l.at l.k l.b-index
