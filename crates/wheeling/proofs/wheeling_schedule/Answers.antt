-- `wheeling::wheeling_schedule` meets its contract: schedule on the record and the numbers that the bytes hold. Assumes nothing.
use native.Mathlib.Omega.{arith}
use lib.ListN.{length-take}
use Rattle.wheeling_rules.specs.Laws.WheelingLaws.{schedule_on_bytes, on_other}
use Rattle.wheeling.proofs.wheeling_schedule.Goals as goal

pub slice_bounds-schedule_on-end : goal.slice_bounds-schedule_on-end
slice_bounds-schedule_on-end c =
    simp length-take (omega (arith, c.read_input-n.ensures.within, c.read_input-n.ensures.size))

pub slice_bounds-schedule_on-end-then-record-eq-RECORD_BYTES : goal.slice_bounds-schedule_on-end-then-record-eq-RECORD_BYTES
slice_bounds-schedule_on-end-then-record-eq-RECORD_BYTES c = simp length-take (omega (arith, c.read_input-m.ensures.within, c.read_input-m.ensures.size))

pub returns-then-record-eq-RECORD_BYTES : goal.returns-then-record-eq-RECORD_BYTES
returns-then-record-eq-RECORD_BYTES c =
    rw c.shown.ensures (schedule_on_bytes _ _ c.if-record-eq-RECORD_BYTES.true c.read_input-n.ensures.alike c.read_input-m.ensures.alike c.schedule_on.ensures)

pub returns : goal.returns
returns c = rw c.number.ensures (on_other c.if-record-eq-RECORD_BYTES.false)
