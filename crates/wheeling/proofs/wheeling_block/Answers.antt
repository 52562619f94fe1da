-- `wheeling::wheeling_block` meets its contract: block on the record and the numbers that the bytes hold.
use native.Mathlib.Omega.{arith}
use lib.ListN.{length-take}
use Rattle.wheeling_rules.specs.Laws.WheelingLaws.{block_on_bytes, on_other}
use Rattle.wheeling.proofs.wheeling_block.Goals as goal

pub slice_bounds-block_on_inputs-end : goal.slice_bounds-block_on_inputs-end
slice_bounds-block_on_inputs-end c =
    simp length-take (omega (arith, c.read_input-n.ensures.within, c.read_input-n.ensures.size))

pub slice_bounds-block_on_inputs-end-then-record-eq-RECORD_BYTES : goal.slice_bounds-block_on_inputs-end-then-record-eq-RECORD_BYTES
slice_bounds-block_on_inputs-end-then-record-eq-RECORD_BYTES c = simp length-take (omega (arith, c.read_input-m.ensures.within, c.read_input-m.ensures.size))

pub returns-then-record-eq-RECORD_BYTES : goal.returns-then-record-eq-RECORD_BYTES
returns-then-record-eq-RECORD_BYTES c =
    block_on_bytes _ _ c.if-record-eq-RECORD_BYTES.true c.read_input-n.ensures.alike c.read_input-m.ensures.alike c.block_on_inputs.ensures

pub returns : goal.returns
returns c = rw c.number.ensures (on_other c.if-record-eq-RECORD_BYTES.false)
