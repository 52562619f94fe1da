-- Laws of the charge and of the loss. Callers know the loss by three of them only: it is at most the whole, and what it leaves never falls as the
-- energy rises, and rises by at most 1 Wh for each Wh. Assumes nothing.
use Rattle.std.specs.Prelude.{ℕ, ◌+◌, ◌-◌, ◌*◌, ◌<◌, ◌≤◌, ◌≡◌}
use Rattle.std.proofs.Common.{sym, ap, ◌∙◌, arith, add-mul, mul_assoc}
use Rattle.std.proofs.Math.Nat.{mul-le-mul_left}
use Rattle.energy.specs.Energy.{portion_up, loss_on, after_loss}

pub portion_le : (x rate : ℕ) → rate ≤ 10_000 → portion_up x rate ≤ x
unfolding portion_up
portion_le x rate h = omega (arith, mul-le-mul_left x h)

pub portion_zero : (rate : ℕ) → portion_up 0 rate ≡ 0
unfolding portion_up
portion_zero rate = omega arith

-- "To the nearest watt-hour, halves up", in ten-thousandths of a watt-hour: the loss is at most half a watt-hour more than the rate takes of x, and
-- less than half of one below it; and no other number is.
pub loss_nearest : (x rate : ℕ) → (10_000 * loss_on x rate ≤ x * rate + 5_000) × (x * rate < 10_000 * loss_on x rate + 5_000)
unfolding loss_on
loss_nearest x rate = (omega arith, omega arith)

pub loss_only : (x rate n : ℕ) → 10_000 * n ≤ x * rate + 5_000 → x * rate < 10_000 * n + 5_000 → n ≡ loss_on x rate
unfolding loss_on
loss_only x rate n most least = omega (arith, most, least)

-- The loss on whole ten-thousands is a whole number, so that only the remainder's is rounded (document 02, F-4).
pub loss_split : (whole rest rate : ℕ) → loss_on (10_000 * whole + rest) rate ≡ whole * rate + loss_on rest rate
unfolding loss_on
loss_split whole rest rate = omega (arith, add-mul (10_000 * whole) rest rate, mul_assoc 10_000 whole rate)

pub loss_le : (x rate : ℕ) → rate ≤ 10_000 → loss_on x rate ≤ x
unfolding loss_on
loss_le x rate h = omega (arith, mul-le-mul_left x h)

pub loss_zero : (rate : ℕ) → loss_on 0 rate ≡ 0
unfolding loss_on
loss_zero rate = omega arith

module _ (x y rate : ℕ) (h : rate ≤ 10_000) (l : x ≤ y) where
  product : y * rate ≡ (y - x) * rate + x * rate
  product =
      let e : (y - x) + x ≡ y = omega arith in
      ap (λ (z : ℕ). z * rate) (sym e) ∙ add-mul (y - x) x rate

  pub after_loss_up : after_loss x rate ≤ after_loss y rate
  unfolding loss_on
  after_loss_up = omega (arith, product, mul-le-mul_left (y - x) h)

  pub after_loss_step : after_loss y rate ≤ after_loss x rate + (y - x)
  unfolding loss_on
  after_loss_step = omega (arith, product, mul-le-mul_left x h)

  -- from the laws above alone: the loss does not fall as the energy rises
  pub loss_rises : loss_on x rate ≤ loss_on y rate
  loss_rises = omega (arith, after_loss_step, loss_le x rate h, loss_le y rate h)
