-- `record_bytes::loading::load_list` meets its contract: the numbers of a part of the bytes are a part of the numbers. Assumes nothing.
use Rattle.std.proofs.Common.{ℕ, ◌+◌, ◌-◌, ◌*◌, ◌≡◌, ◌∙◌, sym, arith}
use Rattle.std.proofs.lemmas.List.{length-replicate}
use Rattle.codec.specs.Laws.BytesLaws.{decode_part}
use Rattle.record_places.specs.RecordSize.{record_numbers}
use Rattle.record_bytes.proofs.loading.load_list.Goals as goal

pub returns : goal.returns
returns g c =
    let at = c.args.at in
    let n = g.row.N in
    let bytes : (at + n) * 8 - at * 8 ≡ n * 8 = omega arith in
    (rw (length-replicate {A = ℕ} n 0, bytes) at c.read.ensures) ∙ sym (decode_part 8 record_numbers at n c.args.s.now c.requires.1)
