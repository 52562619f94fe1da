-- A chain (0..n).map(f) gives f 0, …, f (n - 1), and what it sums to. Assumes nothing.
use Rattle.std.specs.Prelude.{ℕ, ◌+◌, ◌<◌, ◌≡◌, List, map, Option}
use Rattle.std.specs.List.{range_with_len, fold}
use Rattle.std.specs.Fn.{Mut, Called}
use Rattle.std.specs.Iterator.{Drains}
use Rattle.std.specs.Iterator.Adapters.{map_source, map_callee}
use Rattle.std.specs.Iterator.Runs.{EachRunFrom}
use Rattle.std.specs.Bool.{⊤}
use Rattle.std.specs.declared.iter.Map.{Map}
use Rattle.std.specs.declared.ops.Range.{Range}
use Rattle.std.proofs.Common.{◌∙◌, ap, arith}
use Rattle.std.proofs.iter.Yields.{nat_range_steps}
use Rattle.std.proofs.lemmas.Iterator.{YieldsList, maps, YieldsList-from_map, YieldsList-from_range}
use Rattle.std.proofs.lemmas.Iterator.Consumers.{sum_from_yields_List, fits_from_yields_list}
use Rattle.std.proofs.lemmas.List.FromFn.{length-map-range_with_len, get_or-map-range_with_len}
use Rattle.std.specs.List as L
use Rattle.lists.specs.Sums.{sum}
use Rattle.lists.specs.Laws.TablesLaws.{is_table}
use Rattle.lists.specs.Laws.SliceLaws.{sum_table}

-- every run of calls from s gives f 0, …, f (n - 1), and then none
pub record GivesRange {S A : Type 0} (steps : S → Option A → S → Type 0) (s : S) (n : ℕ) (f : ℕ → A) : Type 0 where
  chain : YieldsList steps (λ r. r) s (map f (range_with_len 0 n))

-- where a call at i gives f i, and leaves the closure as it was
pub gives_range : {F A : Type 0} {g : Mut F (ℕ × Unit {0}) A} {s : Map (Range ℕ) F} {c : F} {n : ℕ} (f : ℕ → A) →
    map_source s ≡ record { start = 0; end = n } → map_callee s ≡ c → ((i : ℕ) (r : A) (q : F) → Called g c (i, tt) r q → (q ≡ c) × (r ≡ f i)) →
    GivesRange (maps nat_range_steps g) s n f
gives_range {g = g} {n = n} f source callee gives =
    record { chain = YieldsList-from_map g f (YieldsList-from_range 0 n n source (omega arith)) callee gives }

sum_range : (n : ℕ) (f : ℕ → ℕ) → L.sum (map f (range_with_len 0 n)) ≡ sum n f
sum_range n f =
    ap L.sum (is_table 0 n f (map f (range_with_len 0 n)) (length-map-range_with_len f 0 n) (λ k l. get_or-map-range_with_len f 0 n k k 0 l (omega arith))) ∙ sum_table n f

-- what `sum` requires of such a chain, and what it returns
module _ {S : Type 0} {steps : S → Option ℕ → S → Type 0} {s : S} {n : ℕ} {f : ℕ → ℕ} where
  pub range_fits : {top : ℕ} → GivesRange steps s n f → sum n f < top → EachRunFrom steps s (λ p. fold (λ a x. a + x) 0 p.items < top)
  range_fits {top} h l = fits_from_yields_list s top h.chain (rw (sum_range n f) l)

  pub range_sum : {r : ℕ} → GivesRange steps s n f → ((xs : List ℕ) × (⊤ → Drains steps s xs) × (r ≡ fold (λ a x. a + x) 0 xs)) → r ≡ sum n f
  range_sum {r} h ran = sum_from_yields_List s r ran h.chain ∙ sum_range n f
