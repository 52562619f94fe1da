-- `block_figures::scheduled_kw` is the sum of the row, and no sum on the way is over the limit. Assumes nothing.
use Prim.Native.Nat.{ℕ, ◌+◌}
use mathlib.Core.Path.{◌≡◌, sym, ◌∙◌, ap}
use native.Mathlib.Omega.{arith}
use borrow.Author.Rules.{rules}
use lib.ListN.{get_or}
use Rattle.lists.specs.Pairs.{place}
use Rattle.lists.specs.Laws.PairsLaws.{place_in}
use Rattle.lists.specs.Sums.{sum}
use Rattle.lists.specs.Laws.SumsLaws.{sum_none, sum_more, sum_to}
use Rattle.block_figures.proofs.scheduled_kw.Goals as goal

pub loop-c-init : goal.loop-c-init
loop-c-init c = (search rules, sym (sum_none _))

pub overflow_add-sum : goal.overflow_add-sum
overflow_add-sum c =
    let sum_next : c.loop-c.sum + get_or c.args.row c.loop-c.c 0 ≡ sum (c.loop-c.c + 1) (place 16 c.args.row) = let row = c.args.row in let i = c.loop-c.c in omega (arith, sum_more i (place 16 row), place_in 16 row i (omega arith)) in
    omega (arith, sum_next, sum_to (c.loop-c.c + 1) 16 (place 16 c.args.row) (omega arith))

pub loop-c-preserved : goal.loop-c-preserved
loop-c-preserved c =
    let sum_next : c.loop-c.sum + get_or c.args.row c.loop-c.c 0 ≡ sum (c.loop-c.c + 1) (place 16 c.args.row) = let row = c.args.row in let i = c.loop-c.c in omega (arith, sum_more i (place 16 row), place_in 16 row i (omega arith)) in
    (search rules, sum_next)

pub returns : goal.returns
returns c = c.loop-c.invariant.1 ∙ ap (λ (k : ℕ). sum k (place 16 c.args.row)) (omega arith)
