-- The loop of `output_lists::put_column`: what lasts from turn to turn, and what falls.
use Rattle.output_lists.specs.Laws.Columns.{ColumnPut}
use Rattle.output_lists.proofs.put_column.Given as goal

abbrev pub invariant-loop-g : goal.invariant-loop-g
invariant-loop-g l = ColumnPut l.n l.m l.initial.list l.c l.xs l.g l.list
