-- The loop of `table_text::names_line`: the first j names are written.
use Rattle.std.proofs.Common.{◌≡◌}
use Rattle.table_text.specs.TableText.{names}
use Rattle.table_text.proofs.names_line.Given as goal

abbrev pub invariant-loop-j : goal.invariant-loop-j
invariant-loop-j l = l.line.items ≡ names l.g l.w l.j
