-- What the output of an accepted block gives the month, for G generators and C consumers (document 01, "Block": the output's
-- lists). Assumes nothing.
use Rattle.std.specs.Prelude.{ℕ, ◌+◌, ◌*◌, List, get_or}
use Rattle.lists.specs.Sums.{sum}

module _ (G C : ℕ) (out : List ℕ) where
  -- underdrawn, the third pair list: of generator g, over all consumers
  unfoldable pub underdrawn_in : ℕ → ℕ
  underdrawn_in g = sum C (λ c. get_or out (2 * (G * C) + (g * C + c)) 0)

  -- remainder, the last list: of consumer c
  unfoldable pub remainder_in : ℕ → ℕ
  remainder_in c = get_or out (4 * (G * C) + G + c) 0
