-- Bounds by which sums of a record's numbers fit 64 bits. Assumes nothing.
use Rattle.std.specs.Prelude.{ℕ, ◌≤◌, List, get_or}
use Rattle.energy.specs.Limits.{most_figure}

pub record Moderate (xs : List ℕ) : Type 0 where
  pub at : (i : ℕ) → get_or xs i 0 ≤ most_figure
