-- `output_lists::put_column` meets its contract: g places of the column are written. Assumes nothing.
use Rattle.std.proofs.Common.{refl, arith}
use Rattle.output_lists.specs.Laws.ColumnsLaws.{put_step}
use Rattle.output_lists.proofs.put_column.Goals as goal

pub loop-g-preserved : goal.loop-g-preserved
loop-g-preserved c = put_step c.loop-g.invariant (omega arith) (omega arith) refl
