-- `closing_lists::write_lists` meets its contract: five lists stand one after the other in the slice. Assumes nothing.
use mathlib.Core.Path.{refl, sym}
use native.Mathlib.Nat.{zero-add}
use Rattle.output_lists.specs.Laws.StretchesWritten.{written_none, written_put, written_all}
use Rattle.closing_lists.specs.Laws.ClosingWritten.{five_lists}
use native.Mathlib.Omega.{arith}
use borrow.Author.Rules.{rules}
use Rattle.closing_lists.proofs.write_lists.Goals as goal

pub slice_bounds-put_list-end-5 : goal.slice_bounds-put_list-end-5
slice_bounds-put_list-end-5 c = let s = c.well_formed in search rules

pub put_list-requires-5 : goal.put_list-requires-5
put_list-requires-5 c = search rules

pub returns : goal.returns
unfolding five_lists
returns c =
    let w₁ = written_put (written_none c.args.out.now) c.put_list.ensures refl in
    let w₂ = written_put w₁ c.put_list-2.ensures (sym (zero-add _)) in
    let w₃ = written_put w₂ c.put_list-3.ensures refl in
    let w₄ = written_put w₃ c.put_list-4.ensures refl in
    let w₅ = written_put w₄ c.put_list-5.ensures refl in
    written_all w₅ (omega (arith, c.requires.size))
