-- `soundness::agreed_at` meets its contract: the test of a generator's three numbers and of the kW of its row.
use mathlib.Core.Path.{◌∙◌}
use Rattle.soundness.specs.Laws.PlacesHeldLaws.{agreed_held}
use Rattle.soundness.proofs.agreed_at.Goals as goal

pub returns : goal.returns
returns c =
    c.agreed_sound.ensures ∙
    agreed_held _ _ _ _ c.requires.1.0
    c.number_at.ensures
    c.number_at-2.ensures
    c.number_at-3.ensures
    (rw (← c.columns_within-columns.ensures) c.row_total-total.ensures)
