-- The loop of `soundness::consumers_sound`: what lasts from turn to turn, and what falls.
use Rattle.lists.specs.Laws.TestsLaws.{Testing}
use Rattle.sound_items.specs.Laws.SoundTests.{consumer_test}
use Rattle.record_layout.specs.OnBytes.{record_in}
use Rattle.soundness.proofs.consumers_sound.Given as goal

abbrev pub invariant-loop-c : goal.invariant-loop-c
invariant-loop-c l = Testing 16 (consumer_test (record_in l.s).consumers l.m l.blocks) l.c l.ok
