-- The loop of `agreed_lists::put_row`: what lasts from turn to turn, and what falls.
use Prim.Native.Nat.{◌+◌}
use lib.ListN.{get_or}
use Rattle.agreement_rules.specs.Laws.AgreedReadingLaws.{Putting}
use Rattle.agreed_lists.proofs.put_row.Given as goal

abbrev pub invariant-loop-c : goal.invariant-loop-c
invariant-loop-c l = Putting l.initial.out l.g l.m (λ j. get_or l.list (l.from + j) 0) l.c l.out
