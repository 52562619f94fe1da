-- `sharing::parts` is the table of the parts: what the figures passed bear together is the running share, and never more than the whole. Assumes nothing.
use Rattle.lists.specs.Laws.TablesLaws.{fill_done}
use Rattle.sharing.specs.Laws.ShareLaws.{sharing_start, next_le, product_le, share_le, share_rises, sharing_step, sharing_skip}
use native.Mathlib.Omega.{arith}
use borrow.Author.Rules.{rules}
use Rattle.sharing.proofs.parts.Goals as goal
use Rattle.sharing.proofs.parts.Goals.{then-kw-c-gt0, else-kw-c-gt0}

pub loop-c-init : goal.loop-c-init
loop-c-init c = sharing_start

pub overflow_add-sum : goal.overflow_add-sum
overflow_add-sum c = omega (arith, next_le c.requires c.loop-c.invariant c.loop-c-test.true)

pub overflow_mul-share : goal.overflow_mul-share
overflow_mul-share c = omega (arith, product_le c.requires c.loop-c.invariant c.loop-c-test.true)

pub overflow_sub-out : goal.overflow_sub-out
overflow_sub-out c = share_rises c.requires c.loop-c.invariant c.loop-c-test.true

pub overflow_cast-out : goal.overflow_cast-out
overflow_cast-out c = omega (arith, share_le c.requires c.loop-c.invariant c.loop-c-test.true)

pub loop-c-preserved : goal.loop-c-preserved
loop-c-preserved c =
    let h = c.requires in
    let i = c.loop-c.invariant in
    elim c.if-kw-c-gt0.branch [
      | then-kw-c-gt0 w ↦ rw (w.out-is, w.sum-is, w.last-is) (sharing_step h i c.loop-c-test.true)
      | else-kw-c-gt0 w ↦ rw (w.out-is, w.sum-is, w.last-is) (sharing_skip h i c.loop-c-test.true w.if-kw-c-gt0.false)
    ]

pub returns : goal.returns
returns c = fill_done c.loop-c.invariant.made (search rules)
