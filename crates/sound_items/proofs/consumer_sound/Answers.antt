-- `sound_items::consumer_sound` meets its contract: no sum of five capped terms wraps, and it compares with metered as the whole sum does.
use Rattle.std.proofs.Common.{true, refl}
use Rattle.record.specs.Sound.{consumer_sound}
use Rattle.sound_items.specs.Laws.TotalsBeyondLaws.{consumer_beyond}
use Rattle.sound_items.specs.Laws.CappedLaws.{capped_equation, clip_add}
use Rattle.sound_items.proofs.consumer_sound.Goals as goal

pub returns-then-inside : goal.returns-then-inside
unfolding consumer_sound
returns-then-inside c =
    rw c.if-inside.true (capped_equation true _ _ refl c.requires
    (clip_add (clip_add (clip_add (clip_add c.capped.ensures.cut
    c.capped-then-inside.ensures)
    c.capped-then-inside-2.ensures)
    c.capped-then-inside-3.ensures)
    c.capped-then-inside-4.ensures))

pub returns-else-inside : goal.returns-else-inside
returns-else-inside c = rw c.if-inside.false (consumer_beyond _ _)
