-- `block_delivery::share_rows` is rules 1 and 2, generator by generator. Assumes nothing.
use Prim.Native.Nat.{ℕ}
use mathlib.Core.Path.{◌≡◌, sym, ◌∙◌}
use mathlib.Core.List.{[]}
use native.Mathlib.Omega.{arith}
use borrow.Author.Rules.{rules}
use lib.ListN.{get_or}
use Rattle.lists.specs.Laws.TablesLaws.{fill_start, fill_step, fill_length, fill_done, filled_before}
use Rattle.lists.specs.Laws.PairsLaws.{place_in}
use Rattle.record.specs.Plan.{Plan}
use Rattle.block_rules.specs.Delivery.{counted, unaccounted}
use Rattle.block_rules.proofs.DeliveryLaws.{counted_le}
use Rattle.record_layout.specs.OnBytes.{plan_in}
use Rattle.block_delivery.specs.Laws.DeliveryLent.{entries_in}
use Rattle.block_delivery.specs.Laws.DeliveryRowLaws.{kw_high, scheduled_low, counted_here, parts_here}
use Rattle.block_delivery.proofs.share_rows.Goals as goal

pub kw_row-row-requires : goal.kw_row-row-requires
kw_row-row-requires c =
    let plan : Plan = plan_in c.args.s.now in
    let entries : ℕ → ℕ = entries_in c.args.s.now c.args.entry.now in
    let generator : ℕ = c.loop-g.g in
    (search rules, (search rules, kw_high plan entries c.requires.0.deliverable generator))

pub counted_at-counts-requires : goal.counted_at-counts-requires
counted_at-counts-requires c =
    let plan : Plan = plan_in c.args.s.now in
    let entries : ℕ → ℕ = entries_in c.args.s.now c.args.entry.now in
    let generator : ℕ = c.loop-g.g in
    (search rules, (search rules, scheduled_low plan entries c.requires.0.deliverable generator c.kw_row-row.ensures))

pub overflow_sub-reading : goal.overflow_sub-reading
overflow_sub-reading c =
    let plan : Plan = plan_in c.args.s.now in
    let entries : ℕ → ℕ = entries_in c.args.s.now c.args.entry.now in
    let generator : ℕ = c.loop-g.g in
    let reading_is : get_or c.args.entry.now generator 0 ≡ entries generator = sym (place_in plan.G c.args.entry.now generator (search rules)) in
    let counted_is : c.counted_at-counts.result ≡ counted plan generator (entries generator) = counted_here plan entries c.requires.0.deliverable generator c.kw_row-row.ensures reading_is c.counted_at-counts.ensures in
    omega (arith, counted_is, reading_is, counted_le plan generator (entries generator))

pub loop-g-preserved : goal.loop-g-preserved
unfolding unaccounted
loop-g-preserved c =
    let plan : Plan = plan_in c.args.s.now in
    let entries : ℕ → ℕ = entries_in c.args.s.now c.args.entry.now in
    let generator : ℕ = c.loop-g.g in
    let reading_is : get_or c.args.entry.now generator 0 ≡ entries generator = sym (place_in plan.G c.args.entry.now generator (search rules)) in
    let counted_is : c.counted_at-counts.result ≡ counted plan generator (entries generator) = counted_here plan entries c.requires.0.deliverable generator c.kw_row-row.ensures reading_is c.counted_at-counts.ensures in
    let ready = c.requires.0 in
    let v = c.loop-g.invariant in (
      fill_step v.0 (search rules) (c.from.ensures ∙ rw (counted_is, reading_is)),
      fill_step v.1 (omega (arith, ready.n_is, ready.deliverable.G_high)) (parts_here plan entries ready.deliverable generator c.kw_row-row.ensures counted_is c.share.ensures),
    )

pub returns : goal.returns
returns c =
    let v = c.loop-g.invariant in
    (fill_done v.0 (search rules), record { size = fill_length v.1; row_is = λ g b. rw v.1.is (filled_before _ _ _ g [] (omega arith)) })

pub loop-g-init : goal.loop-g-init
loop-g-init c = (fill_start (search rules), fill_start (search rules))
