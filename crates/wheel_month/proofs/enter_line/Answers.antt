-- `wheel_month::enter_line` meets its contract: one block. Assumes nothing.
use mathlib.Core.List.{[], ◌∷◌}
use Rattle.book.specs.BookCalls.{block, rule_of}
use Rattle.wheel_month.specs.Laws.CarriedLaws.{carried_on}
use Rattle.wheel_month.proofs.enter_line.Goals as goal

pub returns : goal.returns
unfolding rule_of
returns c =
    carried_on (block (c.args.e ∷ []) (c.args.r1 ∷ c.args.r2 ∷ []) 11) c.requires c.block_on.ensures
