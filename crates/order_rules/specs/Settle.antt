-- Settling in an order: the one step that set-off, shortfall and drawing share. Assumes nothing.
use Rattle.std.specs.Prelude.{ℕ, ◌-◌, min, List, [], ◌∷◌, eqb, if◌then◌else◌}

-- what each generator has left, and what is left to supply
pub record Rest : Type 0 where
  pub has : ℕ → ℕ
  pub want : ℕ

-- `has` with x less at g
unfoldable pub lower : (ℕ → ℕ) → ℕ → ℕ → ℕ → ℕ
lower has g x h = if eqb h g then has h - x else has h

-- One generator after another gives the smaller of what it has and what is left to supply.
unfoldable pub settle : List ℕ → (ℕ → ℕ) → ℕ → Rest
settle [] has want = record { has = has; want = want }
settle (g ∷ gs) has want = let x = min (has g) want in settle gs (lower has g x) (want - x)

-- what generator g gives
unfoldable pub given : List ℕ → (ℕ → ℕ) → ℕ → ℕ → ℕ
given gs has want g = has g - (settle gs has want).has g

-- what it keeps
unfoldable pub kept : List ℕ → (ℕ → ℕ) → ℕ → ℕ → ℕ
kept gs has want g = (settle gs has want).has g

-- what nobody gives
unfoldable pub unmet : List ℕ → (ℕ → ℕ) → ℕ → ℕ
unmet gs has want = (settle gs has want).want
