-- `closing_totals::raise_totals` meets its contract: each list stands behind those that are raised before it. Assumes nothing.
use Rattle.std.proofs.Common.{rules, arith}
use Rattle.record_runs.specs.Laws.RaiseLaws.{next_list, fewer, raised_by}
use Rattle.closing_totals.specs.Laws.ClosingTotalsLaws.{totals_all}
use Rattle.closing_totals.proofs.raise_totals.Goals as goal

pub raise-requires-2-clause-placed : goal.raise-requires-2-clause-placed
raise-requires-2-clause-placed c =
    let few = c.requires.1.generators_few in
    fewer _ _ few (omega arith) (next_list 8 8 few (omega arith) c.requires.0 c.raise.ensures.is)

pub raise-requires-3-clause-placed : goal.raise-requires-3-clause-placed
raise-requires-3-clause-placed c =
    let few = c.requires.1.generators_few in
    let charged = next_list 8 8 few (omega arith) c.requires.0 c.raise.ensures.is in
    fewer _ _ few (omega arith) (next_list 8 8 few (omega arith) charged c.raise-2.ensures.is)

pub raise-requires-4-clause-placed : goal.raise-requires-4-clause-placed
raise-requires-4-clause-placed c =
    let few = c.requires.1.generators_few in
    let charged = next_list 8 8 few (omega arith) c.requires.0 c.raise.ensures.is in
    let gave = next_list 8 8 few (omega arith) charged c.raise-2.ensures.is in
    fewer _ _ (omega (arith, c.requires.1.consumers_few)) (omega arith) (next_list 72 48 (omega arith) (omega arith) gave c.raise-3.ensures.is)

pub raise-requires-5-clause-placed : goal.raise-requires-5-clause-placed
raise-requires-5-clause-placed c =
    let few = c.requires.1.generators_few in
    let charged = next_list 8 8 few (omega arith) c.requires.0 c.raise.ensures.is in
    let gave = next_list 8 8 few (omega arith) charged c.raise-2.ensures.is in
    let lapsed = next_list 72 48 (omega arith) (omega arith) gave c.raise-3.ensures.is in
    let taken = c.requires.1.consumers_few in
    fewer _ _ taken (omega arith) (next_list 16 16 taken (omega arith) lapsed c.raise-4.ensures.is)

pub returns : goal.returns
returns c =
    let a = c.args in
    totals_all a.n a.m a.out.now a.s.now
    (raised_by _ c.raise.ensures (λ i r l gives. search rules))
    (raised_by _ c.raise-2.ensures (λ i r l gives. search rules))
    (raised_by _ c.raise-3.ensures (λ i r l gives. search rules))
    (raised_by _ c.raise-4.ensures (λ i r l gives. search rules))
    (raised_by _ c.raise-5.ensures (λ i r l gives. search rules))
