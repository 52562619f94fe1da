-- The loop of `bank::Bank::takes`: what lasts from turn to turn.
use Prim.Native.Nat.{◌+◌}
use lib.Dec.{leb}
use Rattle.lists.specs.Laws.TestsLaws.{Testing}
use Rattle.lists.specs.Pairs.{place}
use Rattle.energy.specs.Limits.{most_figure}
use Rattle.bank.proofs.Bank.takes.Given as goal

abbrev pub invariant-loop-s : goal.invariant-loop-s
invariant-loop-s g l = Testing l.count (λ i. leb (place g.row.N l.self.balance i + place g.row.N l.pending i) most_figure) l.s l.ok
