-- `sound_items::agreed_sound` meets its contract: it is the definition of `agreed_sound`, test by test.
use Rattle.record.specs.Sound.{agreed_sound}
use Rattle.sound_items.specs.Laws.SoundTests.{within_both}
use Rattle.sound_items.proofs.agreed_sound.Goals as goal

pub returns : goal.returns
unfolding agreed_sound
returns c = rw (← (within_both _ _ _), c.only_if.ensures, c.only_if-2.ensures, c.only_if-3.ensures)
