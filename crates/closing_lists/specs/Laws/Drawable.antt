-- What drawing asks of a plan. Assumes nothing.
use Rattle.std.specs.Prelude.{ℕ, ◌≤◌, ◌≡◌}
use Rattle.record.specs.Plan.{Plan}
use Rattle.record.specs.Laws.Orderable.{Orderable}

-- what a sound record gives to n generators and m consumers
pub record Drawable (p : Plan) (n m : ℕ) : Type 0 where
  pub G_is : n ≡ p.G
  pub G_high : n ≤ 8
  pub C_high : m ≤ 16
  pub orderable : Orderable p
