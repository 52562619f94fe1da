-- The lists of a closing's output after drawn's, written from arrays of the record's width. Assumes nothing.
use Rattle.std.specs.Prelude.{ℕ, ◌+◌, ◌*◌, ◌≤◌, ◌≡◌, List, [], ◌∷◌, length, get_or}
use Rattle.lists.specs.Tables.{table}
use Rattle.lists.specs.Pairs.{joined}

-- their stretches have the stated length
pub record OutputRoom (o : List ℕ) (n m : ℕ) : Type 0 where
  pub size : length o ≡ 3 * n + 2 * m
  pub rows : n ≤ 8
  pub columns : m ≤ 16

unfoldable pub five_lists : List ℕ → List ℕ → List ℕ → List ℕ → List ℕ → ℕ → ℕ → List ℕ
five_lists charge lapsed balance outstanding supplied n m =
    joined
    (table n (λ g. get_or charge g 0) ∷
    table n (λ g. get_or lapsed g 0) ∷
    table n (λ g. get_or balance g 0) ∷
    table m (λ c. get_or outstanding c 0) ∷
    table m (λ c. get_or supplied c 0) ∷
    [])
