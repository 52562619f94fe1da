-- `wheeling::wheeling_close` meets its contract: closing on the record that the bytes hold.
use borrow.Author.Rules.{rules}
use native.Mathlib.Omega.{arith}
use mathlib.Core.Path.{sym}
use lib.ListN.{length-take}
use Rattle.wheeling_rules.specs.Laws.BytesReadLaws.{left_size, left_room}
use Rattle.wheeling_rules.specs.Laws.WheelingLaws.{closing_fits, closing_on_bytes, on_other}
use Rattle.wheeling.proofs.wheeling_close.Goals as goal

pub slice_bounds-close_on-end : goal.slice_bounds-close_on-end
slice_bounds-close_on-end c = simp length-take (omega (arith, c.room-n.ensures.within))

pub slice_bounds-give-end : goal.slice_bounds-give-end
slice_bounds-give-end c =
    sym (left_size _ c.room-n.ensures (search rules) c.close_on-outcome.new.out c.close_on-outcome.auto.out)

pub give-requires : goal.give-requires
give-requires c =
    let h = c.room-n.ensures in
    rw c.shown.ensures (left_room _ h (search rules) c.close_on-outcome.new.out c.close_on-outcome.auto.out, closing_fits _ h (search rules) c.close_on-outcome.ensures)

pub returns-then-record-eq-RECORD_BYTES : goal.returns-then-record-eq-RECORD_BYTES
returns-then-record-eq-RECORD_BYTES c =
    closing_on_bytes _ c.room-n.ensures (search rules) c.close_on-outcome.ensures c.if-record-eq-RECORD_BYTES.true c.close_on-outcome.auto.out (rw c.shown.ensures at c.give.ensures)

pub returns : goal.returns
returns c = rw c.number.ensures (on_other c.if-record-eq-RECORD_BYTES.false)
