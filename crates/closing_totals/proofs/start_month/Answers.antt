-- `closing_totals::start_month` meets its contract: three counts are written. Assumes nothing.
use Rattle.closing_totals.specs.Laws.ClosingTotalsLaws.{counts_all}
use Rattle.closing_totals.proofs.start_month.Goals as goal

pub returns : goal.returns
returns c =
    counts_all _ c.requires.0 c.requires.1.0 c.months_gone-gone.ensures c.put_at.ensures.0 c.put_at-2.ensures.0 c.put_at-3.ensures.0
