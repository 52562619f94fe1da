-- The test of a pair of the record that bytes hold. Assumes nothing.
use Rattle.std.specs.Prelude.{ℕ, Bool, List}
use Rattle.sound_items.specs.Laws.SoundTests.{pair_read}
use Rattle.record_layout.specs.OnBytes.{record_in}

-- the test of place k of its pair lists
unfoldable pub pair_held : List ℕ → Bool → ℕ → Bool
pair_held s inside k = pair_read (record_in s).links.link (record_in s).links.loss (record_in s).schedule.kw (record_in s).schedule.rank inside k
