-- `sound_items::counts_sound` meets its contract: it is the definition of `counts_sound`, test by test.
use Rattle.sound_items.specs.Laws.SoundTests.{counts_test}
use Rattle.record.specs.Sound.{counts_sound}
use Rattle.sound_items.proofs.counts_sound.Goals as goal

pub returns : goal.returns
unfolding counts_test counts_sound
returns c =
    rw (c.in_range.ensures, c.in_range-2.ensures, c.in_range-3.ensures)
