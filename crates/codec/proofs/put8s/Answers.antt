-- `codec::put8s` meets its contract: the first i numbers are written. Assumes nothing.
use Rattle.std.proofs.Common.{arith, add-zero}
use Rattle.codec.specs.Laws.BytesPut.{put_none, put_one, put_more}
use Rattle.codec.proofs.put8s.Goals as goal

pub loop-i-init : goal.loop-i-init
loop-i-init c = rw add-zero put_none

pub loop-i-preserved : goal.loop-i-preserved
loop-i-preserved c =
    put_more c.args.ws.now c.loop-i.i (omega arith) c.loop-i.invariant
    (rw c.put8.ensures (put_one 8 _ _ _ (omega arith) (c.type_inv.ws c.loop-i.i).fits))
