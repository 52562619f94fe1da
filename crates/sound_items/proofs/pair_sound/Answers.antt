-- `sound_items::pair_sound` meets its contract: it is the definition of `pair_sound`, test by test.
use Rattle.record.specs.Sound.{pair_sound}
use Rattle.sound_items.proofs.pair_sound.Goals as goal

pub returns : goal.returns
unfolding pair_sound
returns c = rw (c.only_if.ensures, c.only_if-2.ensures, c.only_if-3.ensures, c.only_if-4.ensures)
