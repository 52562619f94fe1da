-- `record_bytes::agreed_rows::rows` meets its contract: the first g rows are laid side by side. Assumes nothing.
use mathlib.Core.Path.{sym, ◌∙◌}
use native.Mathlib.Omega.{arith}
use borrow.Author.Rules.{rules}
use Rattle.lists.specs.Laws.PairsLaws.{pairs_table}
use Rattle.lists.specs.Laws.TablesLaws.{fill_start, fill_done}
use Rattle.record_layout.specs.Laws.Layout.{row_step}
use Rattle.record_bytes.proofs.agreed_rows.rows.Goals as goal

pub loop-g-init : goal.loop-g-init
loop-g-init c = (fill_start (search rules), search rules)

pub loop-g-preserved : goal.loop-g-preserved
loop-g-preserved c = (row_step _ c.loop-g.invariant.0 (search rules), search rules)

pub returns : goal.returns
returns c = fill_done c.loop-g.invariant.0 (omega arith) ∙ sym (pairs_table 8 3 _)
