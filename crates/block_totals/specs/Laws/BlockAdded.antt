-- What a block adds to the totals, place by place: as code adds it, from the lists of the output, and as the rules do. Assumes nothing.
use Rattle.std.specs.Prelude.{ℕ, ◌+◌, ◌*◌, ◌≤◌, ◌<◌, ◌≡◌, Bool, List, ◌⊎◌, get_or}
use Rattle.std.proofs.Common.{inl, inr, arith, zero-add}
use Rattle.lists.specs.Sums.{sum}
use Rattle.lists.specs.Laws.SumsLaws.{sum_cong, sum_zero}
use Rattle.record.specs.Plan.{Plan}
use Rattle.block_rules.specs.Delivery.{loss_of}
use Rattle.block_rules.specs.Settlement.{underdrawn}
use Rattle.block_rules.specs.Block.{underdrawn_sum}
use Rattle.block_rules.specs.Laws.Settleable.{Settleable}
use Rattle.block_rules.proofs.BlockBeyond.{underdrawn_beyond}
use Rattle.block_rules.specs.Laws.OutputPlaces.{Output}
use Rattle.record_runs.specs.Laws.Raise.{row_sum, column_sum}
use Rattle.block_totals.specs.Laws.BlockTotals.{by_kind}
use Rattle.block_totals.specs.Laws.BlockTotalsLaws.{by_kind_le}

module _ (p : Plan) (E R : ℕ → ℕ) (out : List ℕ) (o : Output p E R out) (h : Settleable p E R) where
  pub row : (first : ℕ) (f : ℕ → ℕ → ℕ) → ((g c : ℕ) → g < p.G → c < p.C → get_or out (first + (g * p.C + c)) 0 ≡ f g c) →
      (g : ℕ) → g < p.G → row_sum p.C out first g ≡ sum p.C (λ c. f g c)
  row first f is g l = sum_cong p.C _ (λ c. f g c) (λ c k. is g c l k)

  pub column : (first : ℕ) (f : ℕ → ℕ → ℕ) → ((g c : ℕ) → g < p.G → c < p.C → get_or out (first + (g * p.C + c)) 0 ≡ f g c) →
      (c : ℕ) → c < p.C → column_sum p.G p.C out first c ≡ sum p.G (λ g. f g c)
  column first f is c l = sum_cong p.G _ (λ g. f g c) (λ g k. is g c k l)

  pub lost : (g : ℕ) → g < p.G → row_sum p.C out 0 g ≡ sum p.C (λ c. loss_of p g (E g) c)
  lost = row 0 (λ g c. loss_of p g (E g) c) (λ g c k l. rw zero-add (o.loss_is g c k l))

  pub no_row : (f : ℕ → ℕ → ℕ) → ((g c : ℕ) → (p.G ≤ g) ⊎ (p.C ≤ c) → f g c ≡ 0) → (g : ℕ) → p.G ≤ g → sum p.C (λ c. f g c) ≡ 0
  no_row f z g l = sum_zero p.C (λ c. f g c) (λ c k. z g c (inl l))

  pub no_column : (f : ℕ → ℕ → ℕ) → ((g c : ℕ) → (p.G ≤ g) ⊎ (p.C ≤ c) → f g c ≡ 0) → (c : ℕ) → p.C ≤ c → sum p.G (λ g. f g c) ≡ 0
  no_column f z c l = sum_zero p.G (λ g. f g c) (λ g k. z g c (inr l))

  -- underdrawn energy by kind, as code adds it and as the rules do
  pub by_kind_lem : (t : Bool) (kind : ℕ → ℕ) → ((g : ℕ) → g < p.G → kind g ≡ p.kind g) →
      (g : ℕ) → g < p.G → by_kind t (kind g) (row_sum p.C out (2 * (p.G * p.C)) g) ≡ by_kind t (p.kind g) (underdrawn_sum p E R g)
  by_kind_lem t kind is g l = rw (is g l, row (2 * (p.G * p.C)) (λ g c. underdrawn p E c (R c) g) o.under_is g l)

  pub no_kind : (t : Bool) (g : ℕ) → p.G ≤ g → by_kind t (p.kind g) (underdrawn_sum p E R g) ≡ 0
  no_kind t g l =
      omega (arith, by_kind_le t (p.kind g) (underdrawn_sum p E R g), no_row (λ g c. underdrawn p E c (R c) g) (λ g c z. underdrawn_beyond p E h.entries g c z (R c)) g l)
