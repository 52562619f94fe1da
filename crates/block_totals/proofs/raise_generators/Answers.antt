-- `block_totals::raise_generators` meets its contract: each list stands behind those that are raised before it. Assumes nothing.
use Rattle.std.proofs.Common.{true, rules, arith, ◌*◌}
use Rattle.record_runs.specs.Laws.RaiseLaws.{next_list, fewer, raised_by}
use Rattle.block_totals.specs.Laws.BlockTotalsLaws.{generators_all, row_stays}
use Rattle.block_totals.proofs.raise_generators.Goals as goal

pub raise-requires-2-clause-placed : goal.raise-requires-2-clause-placed
raise-requires-2-clause-placed c =
    let few = c.requires.1.1.generators_few in
    fewer _ _ few (omega arith) (next_list 8 8 few (omega arith) c.requires.0 c.raise.ensures.is)

pub raise-requires-3-clause-placed : goal.raise-requires-3-clause-placed
raise-requires-3-clause-placed c =
    let few = c.requires.1.1.generators_few in
    let two = next_list 8 8 few (omega arith) c.requires.0 c.raise.ensures.is in
    fewer _ _ few (omega arith) (next_list 8 8 few (omega arith) two c.raise-2.ensures.is)

pub raise-requires-4-clause-placed : goal.raise-requires-4-clause-placed
raise-requires-4-clause-placed c =
    let few = c.requires.1.1.generators_few in
    let two = next_list 8 8 few (omega arith) c.requires.0 c.raise.ensures.is in
    let three = next_list 8 8 few (omega arith) two c.raise-2.ensures.is in
    fewer _ _ few (omega arith) (next_list 8 8 few (omega arith) three c.raise-3.ensures.is)

pub raise-requires-5-clause-placed : goal.raise-requires-5-clause-placed
raise-requires-5-clause-placed c =
    let few = c.requires.1.1.generators_few in
    let two = next_list 8 8 few (omega arith) c.requires.0 c.raise.ensures.is in
    let three = next_list 8 8 few (omega arith) two c.raise-2.ensures.is in
    let four = next_list 8 8 few (omega arith) three c.raise-3.ensures.is in
    fewer _ _ few (omega arith) (next_list 8 8 few (omega arith) four c.raise-4.ensures.is)

pub raise-requires-6-clause-placed : goal.raise-requires-6-clause-placed
raise-requires-6-clause-placed c =
    let few = c.requires.1.1.generators_few in
    let two = next_list 8 8 few (omega arith) c.requires.0 c.raise.ensures.is in
    let three = next_list 8 8 few (omega arith) two c.raise-2.ensures.is in
    let four = next_list 8 8 few (omega arith) three c.raise-3.ensures.is in
    let five = next_list 8 8 few (omega arith) four c.raise-4.ensures.is in
    fewer _ _ few (omega arith) (next_list 40 8 (omega arith) (omega arith) five c.raise-5.ensures.is)

pub returns : goal.returns
returns c =
    let a = c.args in
    let few = c.requires.1.1.generators_few in
    generators_all a.n a.m a.entry.now a.out.now a.s.now
    (raised_by _ c.raise.ensures (λ i r l gives. search rules))
    (raised_by _ c.raise-2.ensures (λ i r l gives. search rules))
    (raised_by _ c.raise-3.ensures (λ i r l gives. search rules))
    (raised_by _ c.raise-4.ensures (λ i r l gives. search rules))
    (raised_by _ c.raise-5.ensures (λ i r l gives. rw (← (c.kinds-kinds.ensures i (omega arith))) (search rules)))
    (raised_by _ c.raise-6.ensures
    (λ i r l gives. rw (row_stays true a.m a.out.now (2 * (a.n * a.m)) i c.raise-5.ensures.is (omega arith) (omega arith), ← (c.kinds-kinds.ensures i (omega arith))) (search rules)))
