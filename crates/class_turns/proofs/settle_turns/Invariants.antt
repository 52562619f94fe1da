-- The loop of `class_turns::settle_turns`: what lasts from turn to turn.
use Rattle.record_layout.specs.OnBytes.{book_in}
use Rattle.class_turns.specs.Laws.TurnsSettled.{TurnsSettled}
use Rattle.class_turns.proofs.settle_turns.Given as goal

abbrev pub invariant-loop-t : goal.invariant-loop-t
invariant-loop-t l = TurnsSettled (book_in l.s) l.t l.bank.balance l.lacking
