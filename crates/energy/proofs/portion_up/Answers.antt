-- `energy::portion_up` is the portion rounded up, and its product fits 64 bits. Assumes nothing.
use native.Mathlib.Nat.{mul-le-mul}
use native.Mathlib.Omega.{arith}
use Rattle.energy.specs.Energy.{portion_up}
use Rattle.energy.proofs.portion_up.Goals as goal

pub overflow_mul-result : goal.overflow_mul-result
overflow_mul-result c = omega (arith, mul-le-mul c.requires.energy c.requires.rate)

pub overflow_add-result : goal.overflow_add-result
overflow_add-result c = omega (arith, mul-le-mul c.requires.energy c.requires.rate)

pub returns : goal.returns
unfolding portion_up
returns c = omega arith
