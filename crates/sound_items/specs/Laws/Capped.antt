-- Sums that cannot wrap: each term is cut at a number that no sound figure reaches. Assumes nothing.
use Rattle.std.specs.Prelude.{◌≡◌, ℕ, ◌≤◌, min, List}
use Rattle.lists.specs.Sums.{sum}
use Rattle.lists.specs.Pairs.{cell}

abbrev pub cap : ℕ
cap = 1_000_000_000_000_000_000

unfoldable pub AsFar : ℕ → ℕ → Type 0
AsFar s t = min s cap ≡ min t cap

-- s stands for t in every comparison with a number below the cap; a record, so that `omega` does not meet the minima unasked
pub record Cut (s t : ℕ) : Type 0 where
  pub is : AsFar s t

-- r is x, cut at the cap
pub record Clipped (x r : ℕ) : Type 0 where
  pub cut : Cut r x
  pub small : r ≤ cap

-- s stands for the kW of generator g for the first n consumers
pub record RowTotal (kw : List ℕ) (g n s : ℕ) : Type 0 where
  pub cut : Cut s (sum n (cell 8 16 kw g))
