-- `closing_by_hours::draw_all` is steps 2 and 3: c consumers have drawn. Assumes nothing.
use native.Mathlib.Omega.{arith}
use Rattle.std.proofs.Common.{◌∙◌}
use Rattle.bank.specs.Laws.BankLaws.{givers_within}
use Rattle.record.specs.Stored.{figures}
use Rattle.record.specs.Laws.SoundLaws.{orderable}
use Rattle.closing_by_hours.specs.Laws.HoursDrawing.{drawing_start, apart, lacking_sum, drawing_step, few, narrow, turned, lacking_fits}
use Rattle.closing_by_hours.proofs.draw_all.Goals as goal

pub loop-c-init : goal.loop-c-init
loop-c-init c = let p = c.requires.0 in drawing_start _ p.size p.stock_is c.requires.1

pub suppliers_at-suppliers-requires : goal.suppliers_at-suppliers-requires
unfolding figures
suppliers_at-suppliers-requires c =
    let p = c.requires.0 in
    record { whole = p.whole; n_is = p.n_is; n_high = few p; c_high = omega (arith, c.loop-c-test.true, narrow p); orderable = orderable _ p.facts }

pub by_generator-column-requires : goal.by_generator-column-requires
unfolding figures
by_generator-column-requires c =
    let p = c.requires.0 in
    let inv = c.loop-c.invariant in
    let turn = turned p c.loop-c-test.true inv c.wanted_at.ensures (rw (givers_within _ c.keys.ensures.turns c.keys.ensures.few ∙ c.suppliers_at-suppliers.ensures.turns) at c.draw-turn.ensures) in
    (few p, apart _ p.facts _ _ (few p) _ _ inv.size turn.size inv.left_is turn.left_is)

pub overflow_add-supplied : goal.overflow_add-supplied
unfolding figures
overflow_add-supplied c =
    let p = c.requires.0 in
    let turn = turned p c.loop-c-test.true c.loop-c.invariant c.wanted_at.ensures (rw (givers_within _ c.keys.ensures.turns c.keys.ensures.few ∙ c.suppliers_at-suppliers.ensures.turns) at c.draw-turn.ensures) in
    omega (arith, lacking_fits p turn)

pub overflow_add-supplied-in-loop-c : goal.overflow_add-supplied-in-loop-c
unfolding figures
overflow_add-supplied-in-loop-c c =
    let p = c.requires.0 in
    let turn = turned p c.loop-c-test.true c.loop-c.invariant c.wanted_at.ensures (rw (givers_within _ c.keys.ensures.turns c.keys.ensures.few ∙ c.suppliers_at-suppliers.ensures.turns) at c.draw-turn.ensures) in
    omega (arith, lacking_fits p turn)

pub loop-c-preserved : goal.loop-c-preserved
unfolding figures
loop-c-preserved c =
    let p = c.requires.0 in
    let turn = turned p c.loop-c-test.true c.loop-c.invariant c.wanted_at.ensures (rw (givers_within _ c.keys.ensures.turns c.keys.ensures.few ∙ c.suppliers_at-suppliers.ensures.turns) at c.draw-turn.ensures) in
    drawing_step _ p.facts c.loop-c-test.true (narrow p) (few p) c.loop-c.invariant turn c.by_generator-column.ensures c.put_column.ensures (lacking_sum _ _ turn)
