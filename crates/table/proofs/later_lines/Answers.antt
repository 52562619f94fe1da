-- `table::later_lines` meets its contract, by std's test of the text's start. Assumes nothing.
use Rattle.std.proofs.Common.{rules}
use Rattle.table.specs.Table.{starts_with_names, later_lines}
use Rattle.table.specs.Laws.TableLaws.{ranged}
use Rattle.table.specs.Laws.ReaderMeets.{starts_is}
use Rattle.table.proofs.later_lines.Goals as goal

pub names_line-requires : goal.names_line-requires
names_line-requires c = let r = ranged _ _ c.requires in (r.g_high, r.c_high)

pub returns : goal.returns
unfolding starts_with_names later_lines
returns c =
    let h = rw (c.as_slice.ensures.value, c.names_line.ensures, starts_is) at c.strip_prefix.ensures.cases in
    search rules
