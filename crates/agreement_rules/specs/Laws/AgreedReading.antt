-- How the lists of a call are read into a record's places. Assumes nothing.
use Rattle.std.specs.Prelude.{ℕ, ◌+◌, ◌*◌, ◌≤◌, ◌<◌, ◌≡◌, ◌&&◌, List, eqb, ltb, length, if◌then◌else◌}
use Rattle.lists.specs.Pairs.{cell, pairs}
use Rattle.energy.specs.Limits.{most_generators, most_consumers}

-- xs has three numbers for each of n generators, and k is one of the three
pub record Threes (xs : List ℕ) (n k : ℕ) : Type 0 where
  pub size : length xs ≡ 3 * n
  pub few : n ≤ most_generators
  pub third : k < 3

-- xs has a row of m numbers from a place on
pub record RowAt (xs : List ℕ) (from m : ℕ) : Type 0 where
  pub fits : from + m ≤ length xs
  pub few : m ≤ most_consumers

-- xs has n rows of m numbers from a place on
pub record RowsAt (xs : List ℕ) (from n m : ℕ) : Type 0 where
  pub fits : from + n * m ≤ length xs
  pub few_rows : n ≤ most_generators
  pub few : m ≤ most_consumers

-- the stored pair list l, with m new numbers in row g
unfoldable pub row_put : List ℕ → ℕ → ℕ → (ℕ → ℕ) → List ℕ
row_put l g m row = pairs 8 16 (λ h c. if eqb h g && ltb c m then row c else cell 8 16 l h c)
