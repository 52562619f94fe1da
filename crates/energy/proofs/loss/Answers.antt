-- `energy::loss` is rule 3's loss: whole ten-thousands and the remainder lose it together, and neither product leaves 32 bits. Assumes nothing.
use Prim.Native.Nat.{ℕ, ◌+◌, ◌*◌, ◌≤◌}
use mathlib.Core.Path.{◌≡◌, sym, ap, ◌∙◌}
use native.Mathlib.Nat.{mul-le-mul}
use native.Mathlib.Omega.{arith}
use Rattle.energy.specs.Energy.{loss_on}
use Rattle.energy.specs.Limits.{most_loss}
use Rattle.energy.specs.Laws.EnergyLaws.{loss_split}
use Rattle.energy.proofs.loss.Goals as goal
use Rattle.energy.proofs.loss.Goals.{After-in_ten_thousands-whole}

-- once the energy is split
module _ (k : After-in_ten_thousands-whole) where
  abbrev whole : ℕ
  whole = k.in_ten_thousands-whole.result.whole

  abbrev rest : ℕ
  rest = k.in_ten_thousands-whole.result.rest

  abbrev rate : ℕ
  rate = k.args.rate

  low : (whole ≤ 430_000) × (rest ≤ 10_000)
  low = (omega arith, omega arith)

  products : (whole * rate ≤ 430_000 * most_loss) × (rest * rate ≤ 10_000 * most_loss)
  products = (mul-le-mul low.0 k.requires, mul-le-mul low.1 k.requires)

  together : whole * rate + loss_on rest rate ≡ loss_on k.args.x.0 rate
  together = sym (loss_split whole rest rate) ∙ ap (λ (x : ℕ). loss_on x rate) (omega arith)

pub overflow_mul-result : goal.overflow_mul-result
unfolding loss_on
overflow_mul-result c = omega (arith, products c)

pub overflow_mul-result-2 : goal.overflow_mul-result-2
unfolding loss_on
overflow_mul-result-2 c = omega (arith, products c)

pub overflow_add-result : goal.overflow_add-result
unfolding loss_on
overflow_add-result c = omega (arith, products c)

pub overflow_add-result-2 : goal.overflow_add-result-2
unfolding loss_on
overflow_add-result-2 c = omega (arith, products c)

pub returns : goal.returns
unfolding loss_on
returns c = omega (arith, together c, products c)
