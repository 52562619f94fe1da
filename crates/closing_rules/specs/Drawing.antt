-- Step 2 of a closing: turn after turn somebody draws on stocks, by the list of those that serve the turn. Assumes nothing.
use Rattle.std.specs.Prelude.{ℕ, zero, suc, List}
use Rattle.order_rules.specs.Settle.{given, kept, unmet}

-- who serves each turn, in their order; what each has at first; what each turn wants
module _ (serving : ℕ → List ℕ) (stock want : ℕ → ℕ) where
  -- the stocks when the turn comes
  unfoldable pub stock_at : ℕ → ℕ → ℕ
  stock_at zero = stock
  stock_at (suc t) = kept (serving t) (stock_at t) (want t)

  unfoldable pub drawn_at : ℕ → ℕ → ℕ
  drawn_at s t = given (serving t) (stock_at t) (want t) s

  -- what nobody gives
  unfoldable pub missing_at : ℕ → ℕ
  missing_at t = unmet (serving t) (stock_at t) (want t)
