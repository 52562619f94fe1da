-- `agreed_lists::row_total` meets its contract: the sum so far, which sixteen numbers of 32 bits keep below 64 bits. Assumes nothing.
use Prim.Native.Nat.{◌+◌}
use native.Mathlib.Omega.{arith}
use borrow.Author.Rules.{rules}
use Rattle.lists.specs.Laws.SumsLaws.{sum_start, sum_step, sum_done}
use Rattle.agreed_lists.proofs.row_total.Goals as goal

pub loop-c-init : goal.loop-c-init
loop-c-init c = sum_start

pub overflow_add-total : goal.overflow_add-total
overflow_add-total c = let l = c.loop-c in
    omega (arith, c.from-total.ensures, l.invariant.cap, c.shared_slice_known-in-loop-c-1.given (c.args.from + l.c))

pub loop-c-preserved : goal.loop-c-preserved
loop-c-preserved c = let l = c.loop-c in
    let b = c.shared_slice_known-in-loop-c-1.given (c.args.from + l.c) in
    sum_step l.invariant (search rules) c.from-total.ensures (omega (arith, c.from-total.ensures, b))

pub returns : goal.returns
returns c = sum_done c.loop-c.invariant (search rules)
