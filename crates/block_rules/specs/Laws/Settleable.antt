-- What rules 5 to 7 ask of a plan and its readings. Assumes nothing.
use Rattle.std.specs.Prelude.{ℕ, ◌≤◌, ◌≡◌}
use Rattle.energy.specs.Limits.{most_reading}
use Rattle.record.specs.Plan.{Plan}
use Rattle.block_rules.specs.Laws.Deliverable.{Deliverable}

-- what a sound record and accepted readings give
pub record Settleable (p : Plan) (E R : ℕ → ℕ) : Type 0 where
  pub entries : Deliverable p E
  pub exit_high : (c : ℕ) → R c ≤ most_reading
  pub exit_beyond : (c : ℕ) → p.C ≤ c → R c ≡ 0
