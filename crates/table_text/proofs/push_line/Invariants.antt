-- The loop of `table_text::push_line`: the first j values are written.
use Rattle.std.proofs.Common.{◌≡◌, ◌++◌, length, take}
use Rattle.table_text.specs.TableText.{printed}
use Rattle.table_text.proofs.push_line.Given as goal

abbrev pub invariant-loop-j : goal.invariant-loop-j
invariant-loop-j g l = l.text.items ≡ l.fn.text.items ++ printed (length l.values) 0 (take l.j l.values)
