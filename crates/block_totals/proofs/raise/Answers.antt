-- `block_totals::raise` meets its contract: generators' totals, consumers' totals, counts, the class of hours. Assumes nothing.
use Prim.Native.Nat.{ℕ}
use mathlib.Core.Path.{◌≡◌, ap, ◌∙◌}
use mathlib.Core.List.{List}
use native.Mathlib.Omega.{arith}
use Rattle.block_totals.specs.Laws.BlockAfterLaws.{bytes_after, totals_raisable, classes_raisable, counts_low, entry_sized, exit_sized, lists_stand}
use Rattle.block_totals.specs.Laws.BlockTotals.{generators_raised, consumers_raised, counts_raised, hours_raised}
use Rattle.block_totals.specs.Laws.BlockTotalsLaws.{generators_behind}
use Rattle.record_places.specs.RecordSize.{words_in}
use Rattle.block_totals.proofs.raise.Goals as goal

pub raise_generators-requires : goal.raise_generators-requires
raise_generators-requires c =
    let settled = c.requires in
    (totals_raisable settled, (entry_sized settled, lists_stand settled))

pub raise_consumers-requires : goal.raise_consumers-requires
raise_consumers-requires c =
    let settled = c.requires in
    let lists = lists_stand settled in
    (generators_behind _ _ _ _ lists.generators_few (totals_raisable settled) c.raise_generators.ensures c.raise_generators.auto.s, (exit_sized settled, lists))

pub overflow_add-counts : goal.overflow_add-counts
overflow_add-counts c = omega (arith, counts_low c.requires)

pub overflow_add-counts-2 : goal.overflow_add-counts-2
overflow_add-counts-2 c = omega (arith, counts_low c.requires)

pub raise_hours-requires : goal.raise_hours-requires
unfolding counts_raised
raise_hours-requires c =
    let raised : let a = c.args in words_in c.put_at-2.new.s ≡ counts_raised a.counts (consumers_raised a.n a.m a.exit.now a.out.now (generators_raised a.n a.m a.entry.now a.out.now (words_in a.s.now))) = c.put_at-2.ensures.0 ∙ rw (c.put_at.ensures.0, c.raise_consumers.ensures, c.raise_generators.ensures) in
    let settled = c.requires in
    (classes_raisable settled _ c.put_at-2.ensures.1 raised, lists_stand settled)

pub returns : goal.returns
unfolding counts_raised
returns c =
    let raised : let a = c.args in words_in c.put_at-2.new.s ≡ counts_raised a.counts (consumers_raised a.n a.m a.exit.now a.out.now (generators_raised a.n a.m a.entry.now a.out.now (words_in a.s.now))) = c.put_at-2.ensures.0 ∙ rw (c.put_at.ensures.0, c.raise_consumers.ensures, c.raise_generators.ensures) in
    let a = c.args in
    let hours = ap (λ (ws : List ℕ). hours_raised a.n a.m a.out.now ws a.counts.monthblocks) raised in
    bytes_after c.requires _ (c.raise_hours.auto.s ∙ c.put_at-2.ensures.1) (λ i. omega (arith, c.type_inv.s i)) (c.raise_hours.ensures ∙ hours)
