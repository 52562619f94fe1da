-- The loop of `record_runs::replace`: what lasts from turn to turn, and what falls.
use Rattle.record_layout.specs.Laws.NumbersRaised.{from}
use Rattle.record_runs.specs.Laws.Raise.{ReplacedBy}
use Rattle.record_runs.proofs.replace.Given as goal

abbrev pub invariant-loop-i : goal.invariant-loop-i
invariant-loop-i g l = ReplacedBy (goal.F-post g l.number) (from l.at) l.i l.initial.s l.s
