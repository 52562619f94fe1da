-- `block_delivery::fill_loss` takes the losses off row after row. Assumes nothing.
use Prim.Native.Nat.{ℕ}
use mathlib.Core.Path.{◌≡◌, ap, ◌∙◌}
use mathlib.Core.List.{List, []}
use native.Mathlib.Omega.{arith}
use borrow.Author.Rules.{rules}
use lib.ListN.{get_or}
use Rattle.lists.specs.Laws.TablesLaws.{filled_later, filled_before, fill_start, fill_step}
use Rattle.output_lists.specs.Laws.RowsWritten.{rows_start, rows_put, rows_done}
use Rattle.block_delivery.proofs.fill_loss.Goals as goal

pub loss_row-requires : goal.loss_row-requires
loss_row-requires c =
    let row_here : get_or c.loop-g.parts c.loop-g.g [] ≡ get_or c.args.parts.now c.loop-g.g [] = let l = c.loop-g in ap (λ (rows : List (List ℕ)). get_or rows l.g []) l.invariant.1.is ∙ filled_later c.args.parts.now l.g _ l.g [] (omega arith) in
    let p = c.requires in
    (p.0, (search rules, (rw row_here (p.1.1.0.row_size c.loop-g.g (search rules)), search rules)))

pub loop-g-preserved : goal.loop-g-preserved
loop-g-preserved c =
    let row_here : get_or c.loop-g.parts c.loop-g.g [] ≡ get_or c.args.parts.now c.loop-g.g [] = let l = c.loop-g in ap (λ (rows : List (List ℕ)). get_or rows l.g []) l.invariant.1.is ∙ filled_later c.args.parts.now l.g _ l.g [] (omega arith) in
    let v = c.loop-g.invariant in
    (rows_put v.0 (search rules) (rw row_here at c.loss_row.ensures.0), fill_step v.1 (search rules) (rw row_here at c.loss_row.ensures.1))

pub returns : goal.returns
returns c =
    let v = c.loop-g.invariant in
    (rows_done v.0 (search rules), record { at = λ g j k l. rw v.1.is (ap (λ (row : List ℕ). get_or row j 0) (filled_before _ _ _ g [] (omega arith)) ∙ filled_before _ _ _ j 0 l) })

pub loop-g-init : goal.loop-g-init
loop-g-init c = (rows_start (search rules), fill_start (search rules))
