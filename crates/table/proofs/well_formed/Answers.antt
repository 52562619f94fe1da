-- `table::well_formed` meets its contract. The loop's invariant: what is to come decides as the whole text does. Assumes nothing.
use Rattle.std.proofs.Common.{◌∙◌, get_or, arith}
use Rattle.table.specs.Laws.ReaderLoops.{ended_few, scan_step, scan_done}
use Rattle.table.proofs.well_formed.Goals as goal

pub overflow_add-k : goal.overflow_add-k
overflow_add-k c = omega (arith, ended_few (get_or c.args.s.now c.loop-b.b-index 0))

pub loop-b-preserved : goal.loop-b-preserved
loop-b-preserved c =
    scan_step
    c.loop-b.invariant
    c.loop-b-test.true
    (rw c.separator_after-sep.ensures at c.next_byte-at.ensures)
    c.values_ended-k.ensures

pub returns : goal.returns
returns c = c.whole_lines.ensures ∙ scan_done c.loop-b.invariant c.loop-b-test.false
