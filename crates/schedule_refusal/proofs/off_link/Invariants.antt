-- The loop of `schedule_refusal::off_link`: what lasts from turn to turn, and what falls.
use mathlib.Core.Bool.{◌&&◌}
use lib.Dec.{eqb, ltb}
use Rattle.lists.specs.Pairs.{cell}
use Rattle.lists.specs.Tests.{some}
use Rattle.lists.specs.Laws.TestsLaws.{Looking}
use Rattle.schedule_refusal.proofs.off_link.Given as goal

abbrev pub invariant-loop-g : goal.invariant-loop-g
invariant-loop-g l = Looking l.n (λ j. some l.m (λ d. eqb (cell 8 16 l.link j d) 0 && ltb 0 (cell l.n l.m l.kws j d))) l.g l.found
