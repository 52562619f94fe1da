-- `wheel_month::agreement_a` meets its contract: no number applies to the opening or the schedule of agreement A. Assumes nothing.
use borrow.Author.Rules.{rules}
use Rattle.book.specs.AgreementA.{agreement_a}
use Rattle.wheel_month.specs.Laws.Entering.{agreement_held}
use Rattle.wheel_month.proofs.agreement_a.Goals as goal

pub returns : goal.returns
unfolding agreement_a
returns c =
    agreement_held c.opening_on.ensures (search rules) c.schedule_on.ensures
