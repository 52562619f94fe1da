-- The loop of `agreed_lists::any_outside`: what lasts from turn to turn, and what falls.
use Prim.Native.Nat.{◌+◌}
use mathlib.Core.Bool.{not}
use lib.ListN.{get_or}
use Rattle.lists.specs.Tests.{within}
use Rattle.lists.specs.Laws.TestsLaws.{Looking}
use Rattle.agreed_lists.proofs.any_outside.Given as goal

abbrev pub invariant-loop-k : goal.invariant-loop-k
invariant-loop-k l = Looking l.count (λ j. not (within l.low l.high (get_or l.list (l.from + j) 0))) l.k l.found
