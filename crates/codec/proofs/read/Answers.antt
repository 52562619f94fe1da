-- `codec::read` meets its contract: the first i numbers are read. Assumes nothing.
use Rattle.std.proofs.Common.{refl, arith}
use Rattle.std.proofs.lemmas.List.{take_rest}
use Rattle.codec.specs.Bytes.{decode_as}
use Rattle.codec.specs.Laws.BytesPut.{read_more}
use Rattle.codec.proofs.read.Goals as goal

pub loop-i-init : goal.loop-i-init
unfolding decode_as
loop-i-init g c = refl

pub loop-i-preserved : goal.loop-i-preserved
loop-i-preserved g c =
    read_more _ _ _ _ _ _ c.loop-i.invariant (omega arith) (simp (take_rest, c.WIDTH.ensures) at c.read_first.ensures)
