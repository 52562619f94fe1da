-- `record_numbers::put_at` meets its contract: one number's bytes are replaced. Assumes nothing.
use mathlib.Core.Path.{ap, ◌∙◌}
use native.Mathlib.Omega.{arith}
use borrow.Author.Rules.{rules}
use Rattle.codec.specs.Bytes.{decode}
use Rattle.codec.specs.Laws.BytesLaws.{decode_sets}
use Rattle.record_places.specs.RecordSize.{record_numbers}
use Rattle.record_numbers.proofs.put_at.Goals as goal

pub returns : goal.returns
returns c =
    (ap (decode 8 record_numbers) c.put8.ensures ∙ decode_sets 8 record_numbers _ _ _ c.requires.1 c.requires.0 (omega arith), search rules)
