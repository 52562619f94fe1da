-- `sound_items::generator_sound` meets its contract: no sum of nine capped terms wraps, and it compares with injected as the whole sum does.
use Rattle.std.proofs.Common.{true, refl}
use Rattle.record.specs.Sound.{generator_sound}
use Rattle.sound_items.specs.Laws.TotalsBeyondLaws.{generator_beyond}
use Rattle.sound_items.specs.Laws.CappedLaws.{capped_equation, clip_add}
use Rattle.sound_items.proofs.generator_sound.Goals as goal

pub returns-then-inside : goal.returns-then-inside
unfolding generator_sound
returns-then-inside c =
    rw c.if-inside.true (capped_equation true _ _ refl c.requires
    (clip_add (clip_add (clip_add (clip_add (clip_add (clip_add (clip_add (clip_add c.capped.ensures.cut
    c.capped-then-inside.ensures)
    c.capped-then-inside-2.ensures)
    c.capped-then-inside-3.ensures)
    c.capped-then-inside-4.ensures)
    c.capped-then-inside-5.ensures)
    c.capped-then-inside-6.ensures)
    c.capped-then-inside-7.ensures)
    c.capped-then-inside-8.ensures))

pub returns-else-inside : goal.returns-else-inside
returns-else-inside c =
    rw c.if-inside.false (generator_beyond _ _)
