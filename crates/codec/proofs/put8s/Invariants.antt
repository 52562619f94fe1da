-- The loop of `codec::put8s`: the numbers written so far. Assumes nothing.
use Rattle.std.proofs.Common.{◌+◌, take}
use Rattle.codec.specs.Laws.BytesPut.{Put}
use Rattle.codec.proofs.put8s.Given as goal

abbrev pub invariant-loop-i : goal.invariant-loop-i
invariant-loop-i l = Put 8 l.at (l.at + l.i) (take l.i l.ws) l.initial.s l.s
