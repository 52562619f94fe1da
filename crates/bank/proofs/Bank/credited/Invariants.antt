-- The loop of `bank::Bank::credited`: what lasts from turn to turn.
use Rattle.bank.specs.Laws.CreditLaws.{Crediting}
use Rattle.bank.proofs.Bank.credited.Given as goal

abbrev pub invariant-loop-s : goal.invariant-loop-s
invariant-loop-s g l = Crediting g.row.N l.fn.self.balance l.count l.pending l.rate l.s l.balance l.charge
