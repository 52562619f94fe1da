-- `block_delivery::loss_row` is rule 3, part by part. Assumes nothing.
use Prim.Native.Nat.{ℕ, ◌≤◌}
use mathlib.Core.Path.{◌≡◌, ◌∙◌}
use native.Mathlib.Omega.{arith}
use borrow.Author.Rules.{rules}
use lib.ListN.{get_or}
use Rattle.lists.specs.Laws.TablesLaws.{fill_start, fill_step, fill_here, fill_done}
use Rattle.energy.specs.Energy.{loss_on}
use Rattle.energy.specs.Laws.EnergyLaws.{loss_le}
use Rattle.energy.specs.Limits.{most_loss}
use Rattle.record_layout.specs.OnBytes.{plan_in}
use Rattle.block_delivery.proofs.loss_row.Goals as goal

pub loop-c-preserved : goal.loop-c-preserved
loop-c-preserved c =
    let part : ℕ = get_or c.args.parts.now c.loop-c.c 0 in
    let part_here : get_or c.loop-c.parts c.loop-c.c 0 ≡ part = fill_here c.loop-c.invariant.1 in
    let rate : ℕ = (plan_in c.args.s.now).loss c.args.g c.loop-c.c in
    let taken : (c.lossy_at-lossy.result.energy.0 ≡ part) × (c.lossy_at-lossy.result.rate ≡ rate) = (omega (arith, part_here), omega arith) in
    let less_is : c.loss-less.result.0 ≡ loss_on part rate = let t = taken in c.loss-less.ensures ∙ rw (t.0, t.1) in
    let v = c.loop-c.invariant in
    (fill_step v.0 (search rules) (c.from.ensures ∙ less_is), fill_step v.1 (omega arith) (rw (part_here, less_is)))

pub returns : goal.returns
returns c =
    let v = c.loop-c.invariant in
    let e : c.loop-c.c ≡ c.args.m = omega (arith, v.0.within) in
    (fill_done v.0 (search rules), rw e at v.1.is)

pub loop-c-init : goal.loop-c-init
loop-c-init c = (fill_start (search rules), fill_start (search rules))

pub overflow_sub-parts : goal.overflow_sub-parts
overflow_sub-parts c =
    let part : ℕ = get_or c.args.parts.now c.loop-c.c 0 in
    let part_here : get_or c.loop-c.parts c.loop-c.c 0 ≡ part = fill_here c.loop-c.invariant.1 in
    let rate : ℕ = (plan_in c.args.s.now).loss c.args.g c.loop-c.c in
    let rate_high : rate ≤ most_loss = c.requires.0.loss_high c.args.g c.loop-c.c in
    let taken : (c.lossy_at-lossy.result.energy.0 ≡ part) × (c.lossy_at-lossy.result.rate ≡ rate) = (omega (arith, part_here), omega arith) in
    let less_is : c.loss-less.result.0 ≡ loss_on part rate = let t = taken in c.loss-less.ensures ∙ rw (t.0, t.1) in
    let less_low : c.loss-less.result.0 ≤ part = omega (arith, less_is, loss_le part rate (omega (arith, rate_high))) in
    omega (arith, less_low, part_here)
