-- The loop of `wheel_month::enter_lines`: what lasts from turn to turn, and what falls.
use Prim.Native.Nat.{◌-◌}
use lib.ListN.{length}
use Rattle.wheel_month.specs.Laws.Entering.{Entering}
use Rattle.wheel_month.proofs.enter_lines.Given as goal

abbrev pub invariant-loop-i : goal.invariant-loop-i
invariant-loop-i l = Entering l.initial.s l.values l.s l.i

abbrev pub decreases-loop-i : goal.decreases-loop-i
decreases-loop-i l = length l.values - l.i
