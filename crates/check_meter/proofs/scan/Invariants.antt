-- The loop of `check_meter::scan`: what lasts from turn to turn.
use Rattle.std.proofs.Common.{length}
use Rattle.check_meter.specs.Laws.DaysScanned.{Scanning}
use Rattle.check_meter.proofs.scan.Given as goal

abbrev pub invariant-loop-x : goal.invariant-loop-x
invariant-loop-x l = Scanning l.tolerance l.main l.check l.found (length l.yielded)
