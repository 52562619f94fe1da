-- `table::write_values` meets its contract. The loop's invariant: the values passed are laid, and what is to come holds the others. Assumes nothing.
use Rattle.std.proofs.Common.{sym, get_or, arith}
use Rattle.lists.specs.Tests.{within}
use Rattle.table_scan.specs.Values.{is_digit}
use Rattle.table.specs.Table.{from_start}
use Rattle.table.specs.Laws.ReaderLoops.{ended_few, writing_start, writing_digit, writing_end, writing_room, writing_done}
use Rattle.table.proofs.write_values.Goals as goal
use Rattle.table.proofs.write_values.Goals.{then-not-is_ascii_digit, else-not-is_ascii_digit}

pub loop-b-init : goal.loop-b-init
loop-b-init c = writing_start c.requires.formed c.requires.room

pub bounds-out-k : goal.bounds-out-k
unfolding is_digit within
bounds-out-k c = writing_room c.loop-b.invariant c.loop-b-test.true (sym c.if-not-is_ascii_digit.ensures.value)

pub overflow_add-k : goal.overflow_add-k
overflow_add-k c = omega (arith, ended_few (get_or c.args.s.now c.loop-b.b-index 0))

pub loop-b-preserved : goal.loop-b-preserved
unfolding is_digit within
loop-b-preserved c =
    let n = rw c.separator_after-sep.ensures at c.next_byte-at.ensures in
    elim c.if-not-is_ascii_digit.branch [
      | then-not-is_ascii_digit w ↦
          rw w.out-is
          (writing_end
          c.loop-b.invariant
          c.loop-b-test.true
          (sym w.if-not-is_ascii_digit.ensures.value)
          w.value_so_far.ensures
          n
          c.values_ended-k.ensures)
      | else-not-is_ascii_digit w ↦
          rw w.out-is
          (writing_digit
          c.loop-b.invariant
          c.loop-b-test.true
          (sym w.if-not-is_ascii_digit.ensures.value)
          n
          c.values_ended-k.ensures)
    ]

pub returns : goal.returns
unfolding from_start
returns c = writing_done c.loop-b.invariant c.loop-b-test.false
