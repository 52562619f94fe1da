-- The loop of `schedule_refusal::over_capacity`: what lasts from turn to turn, and what falls.
use Rattle.lists.specs.Laws.TestsLaws.{Looking}
use Rattle.agreement_rules.specs.Laws.AgreedRefusals.{over_at}
use Rattle.schedule_refusal.proofs.over_capacity.Given as goal

abbrev pub invariant-loop-g : goal.invariant-loop-g
invariant-loop-g l = Looking l.n (over_at l.agreed l.n l.m l.kws) l.g l.found
