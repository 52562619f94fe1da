-- The loop of `class_bank::serve`: what lasts from turn to turn.
use Rattle.order.specs.Laws.KeptOrder.{from_back}
use Rattle.class_bank.specs.Laws.Serving.{Going}
use Rattle.class_bank.proofs.serve.Given as goal

abbrev pub invariant-loop-i : goal.invariant-loop-i
invariant-loop-i l = Going l.k (from_back l.keys) l.want l.initial.has l.keys l.has l.left l.i
