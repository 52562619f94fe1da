-- The loop of `codec::read`: the numbers read so far. Assumes nothing.
use Rattle.std.proofs.Common.{◌≡◌, take}
use Rattle.codec.specs.Bytes.{decode_as}
use Rattle.codec.proofs.read.Given as goal

abbrev pub invariant-loop-i : goal.invariant-loop-i
invariant-loop-i g l = take l.i l.out ≡ decode_as g.N.Number.of_bytes g.N.Number.WIDTH l.i l.s
