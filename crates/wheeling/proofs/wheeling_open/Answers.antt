-- `wheeling::wheeling_open` meets its contract: opening on the numbers that the bytes hold. Assumes nothing.
use native.Mathlib.Omega.{arith}
use lib.ListN.{length-take}
use Rattle.wheeling_rules.specs.Laws.WheelingLaws.{opening_on_bytes, on_other}
use Rattle.wheeling.proofs.wheeling_open.Goals as goal

pub slice_bounds-asked-end : goal.slice_bounds-asked-end
slice_bounds-asked-end c = simp length-take (omega (arith, c.read_input-n.ensures.within, c.read_input-n.ensures.size))

pub slice_bounds-asked-end-then-record-eq-RECORD_BYTES : goal.slice_bounds-asked-end-then-record-eq-RECORD_BYTES
slice_bounds-asked-end-then-record-eq-RECORD_BYTES c = simp length-take (omega (arith, c.read_input-m.ensures.within, c.read_input-m.ensures.size))

pub returns-then-record-eq-RECORD_BYTES : goal.returns-then-record-eq-RECORD_BYTES
returns-then-record-eq-RECORD_BYTES c =
    rw c.shown.ensures (opening_on_bytes _ _ _ _ _ _ _ _ c.if-record-eq-RECORD_BYTES.true c.read_input-n.ensures.alike c.read_input-m.ensures.alike c.opening_on.ensures)

pub returns : goal.returns
returns c = rw c.number.ensures (on_other c.if-record-eq-RECORD_BYTES.false)
