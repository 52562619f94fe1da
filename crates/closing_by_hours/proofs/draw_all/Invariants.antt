-- The loop of `closing_by_hours::draw_all`: what lasts from turn to turn.
use Rattle.record_layout.specs.OnBytes.{book_in}
use Rattle.closing_by_hours.specs.Laws.HoursDrawing.{Drawn}
use Rattle.closing_by_hours.proofs.draw_all.Given as goal

abbrev pub invariant-loop-c : goal.invariant-loop-c
invariant-loop-c l = Drawn (book_in l.s) l.n l.m l.c l.bank.balance l.drawn l.supplied
