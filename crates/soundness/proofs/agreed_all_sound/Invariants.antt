-- The loop of `soundness::agreed_all_sound`: what lasts from turn to turn, and what falls.
use lib.Dec.{ltb}
use Rattle.lists.specs.Laws.TestsLaws.{Testing}
use Rattle.record.specs.Sound.{limit}
use Rattle.sound_items.specs.Laws.SoundTests.{agreed_test}
use Rattle.record_layout.specs.OnBytes.{record_in}
use Rattle.soundness.proofs.agreed_all_sound.Given as goal

abbrev pub invariant-loop-g : goal.invariant-loop-g
invariant-loop-g l = Testing 8 (λ h. agreed_test (record_in l.s).agreed (record_in l.s).schedule.kw l.n (limit (ltb h l.n) l.m) h) l.g l.ok
