-- `closing_totals::replace_stocks` meets its contract: three lists are replaced. Assumes nothing.
use Rattle.std.proofs.Common.{rules}
use Rattle.record_runs.specs.Laws.RaiseLaws.{replaced_by}
use Rattle.closing_totals.specs.Laws.ClosingTotalsLaws.{stocks_all}
use Rattle.closing_totals.proofs.replace_stocks.Goals as goal

pub returns : goal.returns
returns c =
    let a = c.args in
    stocks_all a.n a.m a.out.now a.s.now (replaced_by _ c.replace.ensures (λ i r l gives. search rules)) c.clear.ensures c.clear-2.ensures
