-- Rules 1 to 4 in a block's output slice, before its consumers are settled: underdrawn's stretch holds what is delivered, and
-- shortfall's how much less that is than what is scheduled at exit. Assumes nothing.
use Rattle.std.specs.Prelude.{ℕ, ◌+◌, ◌-◌, ◌*◌, ◌<◌, List, ◌≡◌, length, get_or}
use Rattle.record.specs.Plan.{Plan}
use Rattle.block_rules.specs.Delivery.{unaccounted, loss_of, delivered, at_exit}

pub record DeliveredIn (p : Plan) (E : ℕ → ℕ) (out : List ℕ) : Type 0 where
  pub size : length out ≡ 4 * (p.G * p.C) + p.G + p.C
  pub loss_is : (g c : ℕ) → g < p.G → c < p.C → get_or out (g * p.C + c) 0 ≡ loss_of p g (E g) c
  pub delivered_is : (g c : ℕ) → g < p.G → c < p.C → get_or out (2 * (p.G * p.C) + (g * p.C + c)) 0 ≡ delivered p g (E g) c
  pub gap_is : (g c : ℕ) → g < p.G → c < p.C → get_or out (3 * (p.G * p.C) + (g * p.C + c)) 0 ≡ at_exit p g (E g) c - delivered p g (E g) c
  pub unaccounted_is : (g : ℕ) → g < p.G → get_or out (4 * (p.G * p.C) + g) 0 ≡ unaccounted p g (E g)
