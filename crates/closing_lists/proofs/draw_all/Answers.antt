-- `closing_lists::draw_all` is steps 2 and 3: c consumers have drawn. Assumes nothing.
use mathlib.Core.Path.{◌≡◌, sym, ◌∙◌}
use Rattle.lists.specs.Laws.PairsLaws.{place_in}
use Rattle.bank.specs.Laws.BankLaws.{givers_within}
use Rattle.closing_lists.specs.Laws.DrawingSteps.{drawing_start, drawing_step}
use native.Mathlib.Omega.{arith}
use borrow.Author.Rules.{rules}
use Rattle.closing_lists.proofs.draw_all.Goals as goal

pub loop-c-init : goal.loop-c-init
loop-c-init c = drawing_start _ _ _ _ _ c.requires.1.1.0 c.requires.1.1.1

pub suppliers_at-suppliers-requires : goal.suppliers_at-suppliers-requires
suppliers_at-suppliers-requires i =
    let p = i.requires.1.0 in
    record { whole = i.requires.0; n_is = p.G_is; n_high = p.G_high; c_high = search rules; orderable = p.orderable }

pub put_column-requires : goal.put_column-requires
put_column-requires c =
    let p = c.requires.1.0 in
    (c.loop-c.invariant.drawn_is.size, (p.G_high, (p.C_high, c.loop-c-test.true)))

pub loop-c-preserved : goal.loop-c-preserved
loop-c-preserved c =
    let p = c.requires.1.0 in
    drawing_step _ _ _ _ _ c.loop-c-test.true p.C_high p.G_high c.loop-c.invariant (sym (place_in 16 _ _ (omega (arith, c.loop-c-test.true, p.C_high))))
    (rw (givers_within _ c.keys.ensures.turns c.keys.ensures.few ∙ c.suppliers_at-suppliers.ensures.turns) at c.draw-turn.ensures) c.put_column.ensures

pub shape_of-drawn : goal.shape_of-drawn
shape_of-drawn c = c.loop-c.invariant.drawn_is.size ∙ sym c.requires.1.1.1

pub returns : goal.returns
returns c =
    let e : c.loop-c.c ≡ c.args.m = omega arith in
    rw e at c.loop-c.invariant
