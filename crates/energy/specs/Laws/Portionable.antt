-- What callers of the charge have to show. Assumes nothing.
use Rattle.std.specs.Prelude.{ℕ, ◌≤◌}
use Rattle.energy.specs.Limits.{most_rate, most_figure}

-- An energy and a rate whose product fits 64 bits.
pub record Portionable (x r : ℕ) : Type 0 where
  pub energy : x ≤ most_figure
  pub rate : r ≤ most_rate
