-- What a print holds. Assumes nothing.
use Rattle.std.specs.Prelude.{ℕ, ◌≤◌, ◌≡◌, List, length, take, get_or}
use Rattle.wheel_print.specs.declared.Printed.{Printed}

-- the bytes to print are xs; those behind them are 0
pub record Shows (p : Printed) (xs : List ℕ) : Type 0 where
  pub fits : p.size ≤ length p.bytes
  pub is : take p.size p.bytes ≡ xs
  pub rest : (k : ℕ) → p.size ≤ k → get_or p.bytes k 0 ≡ 0
