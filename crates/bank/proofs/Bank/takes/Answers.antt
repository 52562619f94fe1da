-- `bank::Bank::takes` tests each balance with what is pending, and the rate. Assumes nothing.
use mathlib.Core.Path.{◌∙◌, ap}
use mathlib.Core.Bool.{Bool, ◌&&◌}
use lib.Dec.{leb}
use borrow.Author.Tests.{le-leb, lt-leb}
use Rattle.lists.specs.Laws.TestsLaws.{test_start, test_step, test_done}
use Rattle.lists.specs.Laws.PairsLaws.{place_in}
use Rattle.energy.specs.Limits.{most_rate}
use Rattle.bank.specs.Laws.CreditLaws.{creditable}
use borrow.Author.Rules.{rules}
use Rattle.bank.proofs.Bank.takes.Goals as goal

pub returns-then-count : goal.returns-then-count
unfolding creditable
returns-then-count g c = rw (lt-leb c.args.count g.row.N c.if-count.true)

pub loop-s-init : goal.loop-s-init
loop-s-init g c = test_start

pub loop-s-preserved : goal.loop-s-preserved
loop-s-preserved g c =
    let l = c.loop-s in
    test_step l.invariant (search rules) (c.within-ok.ensures ∙ rw (place_in g.row.N c.args.self.now.balance l.s (search rules), place_in g.row.N _ l.s (search rules)))

pub returns : goal.returns
unfolding creditable
returns g c =
    rw (le-leb c.args.count g.row.N c.if-count.false) (ap (λ (b : Bool). leb c.args.rate most_rate && b) (test_done c.loop-s.invariant (search rules)))
