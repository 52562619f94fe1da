-- The loop of `closing_lists::draw_all`: what lasts from turn to turn.
use Rattle.lists.specs.Pairs.{place}
use Rattle.record.specs.Plan.{suppliers}
use Rattle.record_layout.specs.OnBytes.{plan_in}
use Rattle.closing_lists.specs.Laws.DrawingSteps.{Drawn}
use Rattle.closing_lists.proofs.draw_all.Given as goal

abbrev pub invariant-loop-c : goal.invariant-loop-c
invariant-loop-c l = Drawn (suppliers (plan_in l.s)) (place 8 l.initial.bank.balance) (place 16 l.outstanding) l.n l.m l.c l.bank.balance l.drawn l.supplied
