-- Lists by generator and class added up by generator. Assumes nothing.
use Rattle.std.specs.Prelude.{ℕ, ◌+◌, ◌-◌, ◌*◌, ◌≤◌, ◌<◌, ◌≡◌, refl, List, length, get_or, set, replicate}
use Rattle.std.proofs.Common.{ap, ◌∙◌}
use Rattle.lists.specs.Laws.TablesLaws.{Filling, fill_start, fill_step, filled}
use Rattle.energy.specs.Limits.{most_figure}

-- how much more generator g has in the first list than in the second, over its three classes
unfoldable pub excess : List ℕ → List ℕ → ℕ → ℕ
excess more less g =
    get_or more (g * 3) 0 - get_or less (g * 3) 0 + (get_or more (g * 3 + 1) 0 - get_or less (g * 3 + 1) 0) + (get_or more (g * 3 + 2) 0 - get_or less (g * 3 + 2) 0)

-- the numbers of a list added up for the first n generators
abbrev pub summed : List ℕ → ℕ → List ℕ
summed xs n = filled (replicate 8 0) n (excess xs (replicate 24 0))

-- two lists of 24, the first nowhere less than the second, whose numbers of the first n generators add up to no more than a sound record's
pub record Exceeds (more less : List ℕ) (n : ℕ) : Type 0 where
  pub size : length more ≡ 24
  pub size' : length less ≡ 24
  pub le : (s : ℕ) → get_or less s 0 ≤ get_or more s 0
  pub low : (g : ℕ) → g < n → get_or more (g * 3) 0 + get_or more (g * 3 + 1) 0 + get_or more (g * 3 + 2) 0 ≤ most_figure

pub adding_start : (more less : List ℕ) → Filling 8 (excess more less) (replicate 8 0) 0 (replicate 8 0)
adding_start more less = fill_start refl

pub adding_step : (more less : List ℕ) {out : List ℕ} {g x : ℕ} → Filling 8 (excess more less) (replicate 8 0) g out → g < 8 →
    x ≡ get_or more (g * 3) 0 - get_or less (g * 3) 0 + (get_or more (g * 3 + 1) 0 - get_or less (g * 3 + 1) 0) + (get_or more (g * 3 + 2) 0 - get_or less (g * 3 + 2) 0) →
    Filling 8 (excess more less) (replicate 8 0) (g + 1) (set out g x)
unfolding excess
adding_step more less h l e = fill_step h l e

pub adding_done : (more less : List ℕ) {out : List ℕ} {g n : ℕ} → Filling 8 (excess more less) (replicate 8 0) g out → g ≡ n → out ≡ filled (replicate 8 0) n (excess more less)
adding_done more less h e = h.is ∙ ap (λ (k : ℕ). filled (replicate 8 0) k (excess more less)) e
