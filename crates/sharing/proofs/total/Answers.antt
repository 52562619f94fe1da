-- `sharing::total` is the sum of the sixteen figures; each is below 2^32, so that the sum fits 64 bits. Assumes nothing.
use mathlib.Core.Path.{sym}
use native.Mathlib.Omega.{arith}
use mir.Syntax.{w32}
use mir.Val.{Fits}
use borrow.Author.Rules.{rules}
use lib.ListN.{get_or}
use Rattle.lists.specs.Laws.PairsLaws.{place_in}
use Rattle.lists.specs.Laws.SumsLaws.{sum_start, sum_step, sum_done}
use Rattle.sharing.proofs.total.Goals as goal

pub loop-c-init : goal.loop-c-init
loop-c-init c = sum_start

pub overflow_add-sum : goal.overflow_add-sum
overflow_add-sum c = let b : Fits w32 (get_or c.args.kw c.loop-c.c 0) = search rules in omega arith

pub loop-c-preserved : goal.loop-c-preserved
loop-c-preserved c =
    let kw = c.args.kw in
    let i = c.loop-c.c in
    let b : Fits w32 (get_or kw i 0) = search rules in
    sum_step c.loop-c.invariant (search rules) (sym (place_in 16 kw i (search rules))) (omega arith)

pub returns : goal.returns
returns c = sum_done c.loop-c.invariant (search rules)
