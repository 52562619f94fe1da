-- The loop of `agreed_lists::spread`: what lasts from turn to turn, and what falls.
use Rattle.agreement_rules.specs.Laws.AgreedReadingLaws.{Spreading}
use Rattle.agreed_lists.proofs.spread.Given as goal

abbrev pub invariant-loop-g : goal.invariant-loop-g
invariant-loop-g l = Spreading l.list l.from l.n l.m l.g l.out
