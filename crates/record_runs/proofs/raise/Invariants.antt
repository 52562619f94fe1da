-- The loop of `record_runs::raise`: what lasts from turn to turn, and what falls.
use Rattle.record_layout.specs.Laws.NumbersRaised.{from}
use Rattle.record_runs.specs.Laws.Raise.{RaisedBy}
use Rattle.record_runs.proofs.raise.Given as goal

abbrev pub invariant-loop-i : goal.invariant-loop-i
invariant-loop-i g l = RaisedBy (goal.F-post g l.added) (from l.at) l.i l.initial.s l.s
