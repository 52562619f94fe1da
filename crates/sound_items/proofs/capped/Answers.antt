-- `sound_items::capped` meets its contract: a number below the cap stays, any other becomes the cap.
use Rattle.std.proofs.Common.{arith}
use Rattle.sound_items.specs.Laws.CappedLaws.{clip_low, clip_high}
use Rattle.sound_items.proofs.capped.Goals as goal

pub returns-then-x-lt-CAP : goal.returns-then-x-lt-CAP
returns-then-x-lt-CAP c = clip_low (omega arith)

pub returns-else-x-lt-CAP : goal.returns-else-x-lt-CAP
returns-else-x-lt-CAP c = clip_high (omega arith)
