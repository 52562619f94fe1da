-- `closing_totals::clear_class` meets its contract: three lists are cleared. Assumes nothing.
use Rattle.closing_totals.specs.Laws.ClosingTotalsLaws.{class_all}
use Rattle.closing_totals.proofs.clear_class.Goals as goal

pub returns : goal.returns
returns c = let a = c.args in class_all a.n a.m a.start a.s.now c.clear.ensures c.clear-2.ensures c.clear-3.ensures
