-- The loop of `output_lists::write_list`: what lasts from turn to turn.
use Rattle.std.proofs.Common.{length, get_or}
use Rattle.lists.specs.Laws.TablesLaws.{Filling}
use Rattle.output_lists.proofs.write_list.Given as goal

abbrev pub invariant-loop-i : goal.invariant-loop-i
invariant-loop-i l = Filling (length l.initial.out) (λ j. get_or l.xs j 0) l.initial.out l.i l.out
