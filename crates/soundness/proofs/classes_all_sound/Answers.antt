-- `soundness::classes_all_sound` meets its contract: by hours list by list, before in one go. Assumes nothing.
use Rattle.soundness.specs.Laws.ClassesHeld.{classes_held}
use Rattle.soundness.proofs.classes_all_sound.Goals as goal

pub returns-then-hours : goal.returns-then-hours
unfolding classes_held
returns-then-hours c =
    rw (c.if-hours.true, c.list_added_up.ensures, c.list_added_up-then-hours.ensures, c.list_added_up-then-hours-2.ensures)
