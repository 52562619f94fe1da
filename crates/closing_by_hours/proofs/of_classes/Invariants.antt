-- The loop of `closing_by_hours::of_classes`: what lasts from turn to turn, and what falls.
use Prim.Native.Nat.{◌≤◌}
use lib.ListN.{replicate}
use Rattle.lists.specs.Laws.TablesLaws.{Filling}
use Rattle.record_places.specs.RecordSize.{words_in}
use Rattle.closing_by_hours.specs.Laws.ClassesRead.{class_number}
use Rattle.closing_by_hours.proofs.of_classes.Given as goal

abbrev pub invariant-loop-i : goal.invariant-loop-i
invariant-loop-i l = Filling 24 (class_number (words_in l.s) l.at) (replicate 24 0) l.i l.out × (l.i ≤ l.count)
