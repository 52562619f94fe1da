-- `soundness::hours_sound` meets its contract: the switch is read at its place, and with it is known which test of the classes applies. Assumes nothing.
use Rattle.soundness.specs.Laws.ClassesHeldLaws.{hours_held}
use Rattle.soundness.proofs.hours_sound.Goals as goal

pub returns : goal.returns
returns c =
    hours_held _ c.requires.1
    (λ i. record { month = c.number_at.ensures i; closings = c.number_at-2.ensures i })
    c.apply-hours.ensures
    c.switch_sound.ensures
    c.classes_all_sound.ensures
