-- The loop of `class_bank::draw`: what lasts from turn to turn.
use Rattle.order.specs.Laws.KeptOrder.{from_back, turns_in}
use Rattle.class_bank.specs.Laws.Serving.{Settling}
use Rattle.class_bank.proofs.draw.Given as goal

abbrev pub invariant-loop-k : goal.invariant-loop-k
invariant-loop-k l = Settling (turns_in (from_back l.keys)) l.fn.bank.balance l.fn.want l.bank.balance l.left l.k
