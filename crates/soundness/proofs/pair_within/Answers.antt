-- `soundness::pair_within` meets its contract: the test of the four numbers of a pair.
use mathlib.Core.Bool.{true}
use mathlib.Core.Path.{◌∙◌}
use Rattle.soundness.specs.Laws.PlacesHeldLaws.{pair_held_lem}
use Rattle.soundness.proofs.pair_within.Goals as goal

pub returns : goal.returns
returns c =
    c.pair_sound.ensures ∙
    pair_held_lem _ true _ c.requires.1
    c.number_at.ensures
    c.number_at-2.ensures
    c.number_at-3.ensures
    c.number_at-4.ensures
