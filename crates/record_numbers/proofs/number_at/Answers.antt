-- `record_numbers::number_at` meets its contract: the eight bytes there are the number's. Assumes nothing.
use mathlib.Core.Path.{sym, ◌∙◌}
use Rattle.std.proofs.lemmas.List.{take_rest}
use Rattle.codec.specs.Laws.BytesLaws.{decode_at}
use Rattle.record_places.specs.RecordSize.{record_numbers}
use Rattle.record_numbers.proofs.number_at.Goals as goal

pub returns : goal.returns
returns c = (rw take_rest at c.read_first.ensures) ∙ sym (decode_at 8 record_numbers _ _ c.requires.1)
