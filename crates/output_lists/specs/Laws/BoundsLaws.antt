-- Where the bounds hold. Assumes nothing.
use Rattle.std.specs.Prelude.{ℕ, zero, suc, ◌*◌, ◌/◌, ◌%◌, ◌<◌, ◌≤◌, List, [], ◌∷◌, ◌++◌, get_or}
use Rattle.std.proofs.Common.{arith}
use Rattle.lists.specs.Tables.{table}
use Rattle.lists.specs.Laws.TablesLaws.{table_bound}
use Rattle.lists.specs.Pairs.{pairs, joined}
use Rattle.lists.specs.Laws.PairsLaws.{pairs_table}
use Rattle.energy.specs.Limits.{most_figure}
use Rattle.output_lists.specs.Laws.Bounds.{Moderate}

pub moderate_table : (n : ℕ) (f : ℕ → ℕ) → ((i : ℕ) → i < n → f i ≤ most_figure) → Moderate (table n f)
moderate_table n f h = record { at = table_bound n f most_figure h }

pub moderate_rows : (n w : ℕ) (f : ℕ → ℕ → ℕ) → ((g c : ℕ) → f g c ≤ most_figure) → Moderate (pairs n w f)
moderate_rows n w f h = rw pairs_table (moderate_table (n * w) (λ k. f (k / w) (k % w)) (λ k l. h (k / w) (k % w)))

moderate_append : (xs ys : List ℕ) → Moderate xs → Moderate ys → Moderate (xs ++ ys)
moderate_append xs ys h k = record { at = go xs h.at }
  where
    go : (zs : List ℕ) → ((i : ℕ) → get_or zs i 0 ≤ most_figure) → (i : ℕ) → get_or (zs ++ ys) i 0 ≤ most_figure
    go [] l i = k.at i
    go (z ∷ zs) l zero = l 0
    go (z ∷ zs) l (suc i) = go zs (λ j. l (suc j)) i

-- an output's lists, one after the other
pub data Moderates : List (List ℕ) → Type 0 where
  no_more : Moderates []
  and_then : {xs : List ℕ} {xss : List (List ℕ)} → Moderate xs → Moderates xss → Moderates (xs ∷ xss)

pub moderate_joined : {xss : List (List ℕ)} → Moderates xss → Moderate (joined xss)
unfolding joined
moderate_joined no_more = record { at = λ i. omega arith }
moderate_joined (and_then {xs} {xss} h k) = moderate_append xs (joined xss) h (moderate_joined k)
