-- `block_delivery::gap_row` is rule 4, pair by pair. Assumes nothing.
use mathlib.Core.Path.{◌∙◌}
use borrow.Author.Rules.{rules}
use Rattle.lists.specs.Laws.TablesLaws.{fill_start, fill_step, fill_done}
use Rattle.block_delivery.proofs.gap_row.Goals as goal

pub loop-c-preserved : goal.loop-c-preserved
loop-c-preserved c =
    fill_step c.loop-c.invariant (search rules)
    (c.from.ensures ∙ c.gap.ensures _ c.kind_at-kind.ensures ∙ rw (c.rate_at-rate.ensures, c.quarter_hour-scheduled.ensures, c.kw_at.ensures))

pub loop-c-init : goal.loop-c-init
loop-c-init c = fill_start (search rules)

pub returns : goal.returns
returns c = fill_done c.loop-c.invariant (search rules)
