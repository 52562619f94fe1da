-- `block_totals::raise_class` meets its contract: pending, and open behind it. Assumes nothing.
use Rattle.std.proofs.Common.{rules, arith}
use Rattle.record_runs.specs.Laws.RaiseLaws.{fewer, raised_by}
use Rattle.block_totals.specs.Laws.BlockTotalsLaws.{behind, stocks_all}
use Rattle.block_totals.proofs.raise_class.Goals as goal

pub raise-requires-2-clause-placed : goal.raise-requires-2-clause-placed
raise-requires-2-clause-placed c =
    let lists = c.requires.1.1 in
    fewer _ _ (omega (arith, lists.consumers_few)) (omega arith) (behind _ _ 16 (omega arith) (omega (arith, lists.generators_few)) (omega arith) c.requires.0 c.raise.ensures.is)

pub returns : goal.returns
returns c =
    let a = c.args in
    stocks_all a.n a.m a.out.now a.start
    (raised_by _ c.raise.ensures (λ i r l gives. rw (← (c.kinds-kinds.ensures i (omega arith))) (search rules)))
    (raised_by _ c.raise-2.ensures (λ i r l gives. search rules))
