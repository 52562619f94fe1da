-- `block_totals::underdrawn_by_kind` meets its contract, by the kind. Assumes nothing.
use Rattle.std.proofs.Common.{sym, ◌∙◌}
use Rattle.block_totals.specs.Laws.BlockTotalsLaws.{kind_asked, kind_not_asked}
use Rattle.block_totals.proofs.underdrawn_by_kind.Goals as goal

pub returns-then-banked-deemed-clause-sum : goal.returns-then-banked-deemed-clause-sum
returns-then-banked-deemed-clause-sum c = c.row_sum.ensures.sum ∙ sym (kind_asked c.args.deemed c.args.kind _ c.if-banked-deemed.true)

pub returns-else-banked-deemed-clause-sum : goal.returns-else-banked-deemed-clause-sum
returns-else-banked-deemed-clause-sum c = sym (kind_not_asked c.args.deemed c.args.kind _ c.if-banked-deemed.false)
