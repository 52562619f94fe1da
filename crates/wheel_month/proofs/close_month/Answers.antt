-- `wheel_month::close_month` meets its contract: one closing. Assumes nothing.
use Rattle.book.specs.BookCalls.{closing, rule_of}
use Rattle.wheel_month.specs.Laws.CarriedLaws.{carried_on}
use Rattle.wheel_month.proofs.close_month.Goals as goal

pub returns : goal.returns
unfolding rule_of
returns c = carried_on (closing 9) c.requires c.close_on.ensures
