-- What rules 1 to 4 ask of a plan and its entry readings. Assumes nothing.
use Rattle.std.specs.Prelude.{ℕ, ◌≤◌, ◌⊎◌, ◌≡◌}
use Rattle.energy.specs.Limits.{most_generators, most_consumers, most_capacity, most_loss, most_reading}
use Rattle.record.specs.Plan.{Plan, scheduled}

-- what a sound record and accepted readings give
pub record Deliverable (p : Plan) (E : ℕ → ℕ) : Type 0 where
  pub G_high : p.G ≤ most_generators
  pub C_high : p.C ≤ most_consumers
  pub loss_high : (g c : ℕ) → p.loss g c ≤ most_loss
  pub scheduled_high : (g : ℕ) → scheduled p g ≤ most_capacity
  pub kw_beyond : (g c : ℕ) → (p.G ≤ g) ⊎ (p.C ≤ c) → p.kw g c ≡ 0
  pub entry_high : (g : ℕ) → E g ≤ most_reading
  pub entry_beyond : (g : ℕ) → p.G ≤ g → E g ≡ 0
