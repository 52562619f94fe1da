-- `class_bank::give_both` meets its contract: a generator gives of the class, then of peak. Assumes nothing.
use native.Mathlib.Omega.{arith}
use Rattle.class_bank.specs.Laws.Serving.{gave_peak}
use Rattle.class_bank.proofs.give_both.Goals as goal

pub returns-then-k-eq2 : goal.returns-then-k-eq2
returns-then-k-eq2 c = gave_peak _ (omega (arith, c.if-k-eq2.true, c.requires.1)) c.give-left.ensures
