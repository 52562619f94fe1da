-- The loop of `block_refusal::any_over`: what lasts from turn to turn, and what falls.
use Rattle.energy.specs.Limits.{most_reading}
use Rattle.lists.specs.Laws.TestsLaws.{Looking}
use lib.ListN.{length, get_or}
use lib.Dec.{ltb}
use Rattle.block_refusal.proofs.any_over.Given as goal

abbrev pub invariant-loop-i : goal.invariant-loop-i
invariant-loop-i l = Looking (length l.readings) (λ j. ltb most_reading (get_or l.readings j 0)) l.i l.found
