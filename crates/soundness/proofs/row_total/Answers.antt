-- `soundness::row_total` meets its contract: the capped kW of a row stand for their sum. The invariant: so do those passed.
use mathlib.Core.Path.{sym, ◌∙◌}
use borrow.Author.Rules.{rules}
use Rattle.lists.specs.Laws.PairsLaws.{cell_in}
use Rattle.sound_items.specs.Laws.CappedLaws.{add_start, add_step}
use Rattle.soundness.specs.Laws.PlacesHeldLaws.{kw_held}
use Rattle.soundness.proofs.row_total.Goals as goal

pub loop-c-init : goal.loop-c-init
loop-c-init c = add_start

pub loop-c-preserved : goal.loop-c-preserved
loop-c-preserved c =
    add_step c.loop-c.invariant (search rules)
    (cell_in 8 16 _ _ _ (search rules) (search rules) ∙ sym (c.number_at.ensures ∙ kw_held _ _ (search rules)))
    c.capped-total.ensures
