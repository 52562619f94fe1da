-- Lists by place and lists by pair, read as functions that are 0 beyond the list's stated size. Assumes nothing.
use Rattle.std.specs.Prelude.{ℕ, zero, suc, ◌+◌, ◌*◌, ◌&&◌, List, [], ◌∷◌, ◌++◌, ltb, get_or, if◌then◌else◌}
use Rattle.lists.specs.Tables.{table}

-- number i of a list of n numbers
unfoldable pub place : ℕ → List ℕ → ℕ → ℕ
place n xs i = if ltb i n then get_or xs i 0 else 0

-- number c of row g in a list of n rows of w numbers
unfoldable pub cell : ℕ → ℕ → List ℕ → ℕ → ℕ → ℕ
cell n w xs g c = if ltb g n && ltb c w then get_or xs (g * w + c) 0 else 0

-- the list of n rows of w numbers: f 0 0, …, f 0 (w - 1), f 1 0, …
unfoldable pub pairs : ℕ → ℕ → (ℕ → ℕ → ℕ) → List ℕ
pairs zero w f = []
pairs (suc n) w f = pairs n w f ++ table w (f n)

-- lists one after the other
unfoldable pub joined : List (List ℕ) → List ℕ
joined [] = []
joined (xs ∷ xss) = xs ++ joined xss
