-- What callers of this crate's functions have to show. Assumes nothing.
use Rattle.std.specs.Prelude.{ℕ, ◌≤◌, ◌<◌, ◌≡◌, List}
use Rattle.lists.specs.Sums.{sum}
use Rattle.lists.specs.Pairs.{place}
use Rattle.energy.specs.Limits.{most_reading, most_capacity, most_consumers}

-- An energy within its limit, and kW figures whose sum is within its limit and is not 0.
pub record Shareable (K total : ℕ) (kw : List ℕ) : Type 0 where
  pub energy : K ≤ most_reading
  pub whole : total ≡ sum most_consumers (place most_consumers kw)
  pub some : 0 < total
  pub capacity : total ≤ most_capacity
