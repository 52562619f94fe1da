-- `bank::lapse_due` meets its contract: the three tests of the definition. Assumes nothing.
use Rattle.closing_rules.specs.Closing.{lapse_due}
use Rattle.bank.proofs.lapse_due.Goals as goal

pub returns : goal.returns
unfolding lapse_due
returns c = rw (c.apply.ensures, c.before_switch.ensures, c.cycle_ends.ensures)
