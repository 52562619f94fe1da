-- The number that a slice begins with, at u64: its eight bytes. Assumes nothing.
use Rattle.std.proofs.Common.{arith}
use Rattle.lists.specs.Tables.{table}
use Rattle.lists.specs.Laws.TablesLaws.{take_table}
use Rattle.codec.specs.Bytes.{number}
use Rattle.codec.proofs.U64Number.read_first.Goals as goal

pub returns : goal.returns
unfolding number table
returns c = rw (take_table 0 8 c.args.s.now c.requires) (omega arith)
