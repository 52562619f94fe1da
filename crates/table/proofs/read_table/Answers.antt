-- `table::read_table` meets its contract, by the refusals 2 and 14, and the later lines where neither applies. Assumes nothing.
use Rattle.std.proofs.Common.{sym, arith}
use Rattle.table.specs.Laws.TableLaws.{ranged}
use Rattle.table.specs.Laws.ReaderMeets.{meets_2, meets_14, meets}
use Rattle.table.proofs.read_table.Goals as goal

pub returns-then-not-in_range : goal.returns-then-not-in_range
returns-then-not-in_range c = meets_2 _ _ _ _ (sym c.if-not-in_range.ensures)

pub later_lines-requires : goal.later_lines-requires
later_lines-requires c = sym c.if-not-in_range.ensures

pub returns-in_default : goal.returns-in_default
returns-in_default c = meets_14 _ _ _ _ (sym c.if-not-in_range.ensures) c.in_default.ensures

pub overflow_add-g : goal.overflow_add-g
overflow_add-g c = let a = ranged _ _ (sym c.if-not-in_range.ensures) in omega arith

pub read_lines-requires : goal.read_lines-requires
read_lines-requires c = let a = ranged _ _ (sym c.if-not-in_range.ensures) in omega arith

pub returns : goal.returns
returns c = meets _ _ _ (sym c.if-not-in_range.ensures) c.in-Some.ensures.0 (rw c.in-Some.ensures.1 at c.read_lines.ensures)
