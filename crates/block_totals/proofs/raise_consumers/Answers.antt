-- `block_totals::raise_consumers` meets its contract: each list stands behind those that are raised before it. Assumes nothing.
use Rattle.std.proofs.Common.{rules, arith}
use Rattle.record_runs.specs.Laws.RaiseLaws.{next_list, fewer, raised_by}
use Rattle.block_totals.specs.Laws.BlockTotalsLaws.{consumers_all}
use Rattle.block_totals.proofs.raise_consumers.Goals as goal

pub raise-requires-2-clause-placed : goal.raise-requires-2-clause-placed
raise-requires-2-clause-placed c =
    let few = c.requires.1.1.consumers_few in
    fewer _ _ few (omega arith) (next_list 16 16 few (omega arith) c.requires.0 c.raise.ensures.is)

pub raise-requires-3-clause-placed : goal.raise-requires-3-clause-placed
raise-requires-3-clause-placed c =
    let few = c.requires.1.1.consumers_few in
    let two = next_list 16 16 few (omega arith) c.requires.0 c.raise.ensures.is in
    fewer _ _ few (omega arith) (next_list 16 16 few (omega arith) two c.raise-2.ensures.is)

pub raise-requires-4-clause-placed : goal.raise-requires-4-clause-placed
raise-requires-4-clause-placed c =
    let few = c.requires.1.1.consumers_few in
    let two = next_list 16 16 few (omega arith) c.requires.0 c.raise.ensures.is in
    let three = next_list 16 16 few (omega arith) two c.raise-2.ensures.is in
    fewer _ _ few (omega arith) (next_list 48 16 (omega arith) (omega arith) three c.raise-3.ensures.is)

pub returns : goal.returns
returns c =
    let a = c.args in
    consumers_all a.n a.m a.exit.now a.out.now a.s.now
    (raised_by _ c.raise.ensures (λ i r l gives. search rules))
    (raised_by _ c.raise-2.ensures (λ i r l gives. search rules))
    (raised_by _ c.raise-3.ensures (λ i r l gives. search rules))
    (raised_by _ c.raise-4.ensures (λ i r l gives. search rules))
