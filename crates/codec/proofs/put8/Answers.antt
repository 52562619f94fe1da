-- `codec::put8` meets its contract: the number's low bytes are those of `to_le_bytes`. Assumes nothing.
use Rattle.std.proofs.Common.{ℕ, ◌≡◌, arith, ◌∙◌}
use Rattle.std.specs.Int.{to_le_bytes, w64}
use Rattle.std.proofs.Math.Nat.{div-div-eq-div-mul}
use Rattle.codec.specs.Bytes.{bytes}
use Rattle.codec.specs.Laws.BytesLaws.{length_bytes}
use Rattle.codec.specs.Laws.BytesPut.{put_over}
use Rattle.codec.proofs.put8.Goals as goal

low_bytes : (w : ℕ) → to_le_bytes w64 w ≡ bytes 8 w
unfolding bytes
low_bytes w = simp div-div-eq-div-mul

pub returns : goal.returns
returns c =
    let e : c.copy_from_slice.new.self ≡ bytes 8 c.args.w = c.copy_from_slice.ensures.after ∙ c.to_le_bytes.ensures ∙ low_bytes c.args.w in
    rw e (put_over _ 8 _ _ (length_bytes 8 c.args.w) (omega arith))
