-- A generator's kind where the record has it, by the place that the code reads. Assumes nothing.
use Rattle.std.specs.Prelude.{ℕ, ◌+◌, ◌*◌, ◌<◌, List, ◌≡◌, get_or}
use Rattle.std.proofs.Common.{◌∙◌}
use Rattle.lists.specs.Laws.PairsLaws.{place_in}
use Rattle.record.specs.Stored.{plan_of}
use Rattle.record_layout.specs.Laws.FigurePlaces.{kind_place}
use Rattle.record_layout.specs.OnBytes.{plan_in, record_in}
use Rattle.record_places.specs.RecordSize.{words_in}
use Rattle.record_places.specs.Laws.Places.{agreed_at}

pub kind_at : (s : List ℕ) (g : ℕ) → g < 8 → (plan_in s).kind g ≡ get_or (words_in s) (agreed_at + g * 3) 0
unfolding plan_of
kind_at s g h = place_in 8 (record_in s).agreed.kind g h ∙ kind_place (words_in s) g h
