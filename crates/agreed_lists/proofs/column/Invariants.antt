-- The loop of `agreed_lists::column`: what lasts from turn to turn, and what falls.
use Prim.Native.Nat.{◌+◌, ◌*◌}
use lib.ListN.{get_or}
use Rattle.agreement_rules.specs.Laws.AgreedReadingLaws.{Reading}
use Rattle.agreed_lists.proofs.column.Given as goal

abbrev pub invariant-loop-g : goal.invariant-loop-g
invariant-loop-g l = Reading l.n (λ j. get_or l.list (j * 3 + l.k) 0) l.initial.out l.g l.out
