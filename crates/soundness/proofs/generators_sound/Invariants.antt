-- The loop of `soundness::generators_sound`: what lasts from turn to turn, and what falls.
use Rattle.lists.specs.Laws.TestsLaws.{Testing}
use Rattle.sound_items.specs.Laws.SoundTests.{generator_test}
use Rattle.record_layout.specs.OnBytes.{record_in}
use Rattle.soundness.proofs.generators_sound.Given as goal

abbrev pub invariant-loop-g : goal.invariant-loop-g
invariant-loop-g l = Testing 8 (generator_test (record_in l.s).generators l.n l.blocks) l.g l.ok
