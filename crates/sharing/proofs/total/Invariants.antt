-- The loop of `sharing::total`: what lasts from turn to turn, and what falls.
use Rattle.lists.specs.Pairs.{place}
use Rattle.lists.specs.Laws.SumsLaws.{Summing}
use Rattle.sharing.proofs.total.Given as goal

abbrev pub invariant-loop-c : goal.invariant-loop-c
invariant-loop-c l = Summing 16 (place 16 l.kw) 4_294_967_295 l.c l.sum
