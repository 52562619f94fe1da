-- The loop of `agreed_lists::row_total`: what lasts from turn to turn, and what falls.
use Prim.Native.Nat.{◌+◌}
use lib.ListN.{get_or}
use Rattle.lists.specs.Laws.SumsLaws.{Summing}
use Rattle.agreed_lists.proofs.row_total.Given as goal

abbrev pub invariant-loop-c : goal.invariant-loop-c
invariant-loop-c l = Summing l.m (λ j. get_or l.list (l.from + j) 0) 4_294_967_295 l.c l.total
