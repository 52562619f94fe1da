-- `wheeling::block_on_inputs` meets its contract: the block on the record that the bytes hold, and its output written where it is accepted.
use borrow.Author.Rules.{rules}
use native.Mathlib.Omega.{arith}
use mathlib.Core.Path.{sym}
use lib.ListN.{length-take}
use Rattle.wheeling_rules.specs.Laws.BytesReadLaws.{left_size, left_room}
use Rattle.wheeling_rules.specs.Laws.WheelingLaws.{block_fits, block_written}
use Rattle.wheeling.proofs.block_on_inputs.Goals as goal

pub slice_bounds-block_on-end : goal.slice_bounds-block_on-end
slice_bounds-block_on-end c = simp length-take (omega (arith, c.room-n.ensures.within))

pub slice_bounds-give-end : goal.slice_bounds-give-end
slice_bounds-give-end c =
    sym (left_size _ c.room-n.ensures (search rules) c.block_on-outcome.new.out c.block_on-outcome.auto.out)

pub give-requires : goal.give-requires
give-requires c =
    let h = c.room-n.ensures in
    rw c.shown.ensures (left_room _ h (search rules) c.block_on-outcome.new.out c.block_on-outcome.auto.out, block_fits _ _ _ h (search rules) c.block_on-outcome.ensures)

pub returns : goal.returns
returns c =
    block_written _ _ _ c.room-n.ensures (search rules) c.block_on-outcome.ensures c.block_on-outcome.auto.out (rw c.shown.ensures at c.give.ensures)
