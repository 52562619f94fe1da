-- `sound_items::classes_sound` meets its contract: the sum of the three classes, each step tested for having wrapped. Assumes nothing.
use Rattle.std.proofs.Common.{rules}
use Rattle.sound_items.specs.Laws.HoursTests.{classes_added}
use Rattle.sound_items.proofs.classes_sound.Goals as goal

pub returns : goal.returns
returns c =
    classes_added _ _ _ _ (search rules) (search rules) (search rules) (search rules)
    c.wrapping_add_u64-two.ensures.value
    c.wrapping_add_u64-three.ensures.value
