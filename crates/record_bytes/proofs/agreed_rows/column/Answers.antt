-- `record_bytes::agreed_rows::column` meets its contract: a call gives the number of its row. Assumes nothing.
use Rattle.std.proofs.Common.{rules, ◌∙◌, sym}
use Rattle.lists.specs.Laws.PairsLaws.{cell_in}
use Rattle.lists.specs.Laws.FromFnLaws.{from_fn_table}
use Rattle.record_bytes.proofs.agreed_rows.column.Goals as goal

pub returns : goal.returns
returns c = from_fn_table 0 _ c.from_fn.ensures.items (λ i y q l called. (search rules ∙ sym (cell_in 8 3 c.args.rows i c.args.k l c.requires), search rules))
