-- A column of a list of n rows of w numbers, by itself and where the list is a stretch of a slice. Assumes nothing.
use Rattle.std.specs.Prelude.{ℕ, ◌+◌, ◌*◌, ◌≤◌, ◌<◌, ◌≡◌, List, length, get_or}

-- m' is m with the first k numbers of xs in column c
pub record ColumnPut (n w : ℕ) (m : List ℕ) (c : ℕ) (xs : List ℕ) (k : ℕ) (m' : List ℕ) : Type 0 where
  pub size : length m' ≡ n * w
  pub here : (g : ℕ) → g < k → get_or m' (g * w + c) 0 ≡ get_or xs g 0
  pub other : (g x : ℕ) → g < n → x < w → (x ≡ c → ⊥) → get_or m' (g * w + x) 0 ≡ get_or m (g * w + x) 0

-- m' is m with f's numbers in column c
pub record ColumnNow (n w c : ℕ) (f : ℕ → ℕ) (m m' : List ℕ) : Type 0 where
  pub size : length m' ≡ n * w
  pub here : (g : ℕ) → g < n → get_or m' (g * w + c) 0 ≡ f g
  pub other : (g x : ℕ) → g < n → x < w → (x ≡ c → ⊥) → get_or m' (g * w + x) 0 ≡ get_or m (g * w + x) 0

-- Where the list stands from place o on: out' is out with f's numbers in column c.
pub record ColumnAt (n w o c : ℕ) (f : ℕ → ℕ) (out out' : List ℕ) : Type 0 where
  pub size : length out' ≡ length out
  pub here : (g : ℕ) → g < n → get_or out' (o + (g * w + c)) 0 ≡ f g
  pub other : (g x : ℕ) → g < n → x < w → (x ≡ c → ⊥) → get_or out' (o + (g * w + x)) 0 ≡ get_or out (o + (g * w + x)) 0
  pub before : (k : ℕ) → k < o → get_or out' k 0 ≡ get_or out k 0
  pub after : (k : ℕ) → o + n * w ≤ k → get_or out' k 0 ≡ get_or out k 0

-- the first c columns of the list are f's
pub record Columns (n w : ℕ) (f : ℕ → ℕ → ℕ) (c : ℕ) (m : List ℕ) : Type 0 where
  pub size : length m ≡ n * w
  pub done : (g x : ℕ) → g < n → x < c → get_or m (g * w + x) 0 ≡ f g x
