-- An array that `array::from_fn` fills is the table of what its closure gives. Assumes nothing.
use Rattle.std.specs.Prelude.{ℕ, zero, suc, ◌+◌, ◌≤◌, ◌<◌, ◌≡◌, refl, List, get_or}
use Rattle.std.proofs.Common.{◌∙◌, subst, ⊎_elim, eq-or-lt_of_le, arith}
use Rattle.std.specs.Array.{IsFromFnResult, IsFromFnResultFrom}
use Rattle.std.specs.Fn.{Mut, Called}
use Rattle.lists.specs.Tables.{table}
use Rattle.lists.specs.Laws.TablesLaws.{is_table}

-- A call at i gives f i, and leaves the closure as it was.
pub from_fn_table : {F A : Type 0} {g : Mut F (ℕ × Unit {0}) A} {s : F} {ys : List A} {n : ℕ} (d : A) (f : ℕ → A) →
    IsFromFnResult g s ys n → ((i : ℕ) (y : A) (q : F) → i < n → Called g s (i, tt) y q → (y ≡ f i) × (q ≡ s)) → ys ≡ table n f
from_fn_table {F} {A} {g} {s} {ys} {n} d f r h = is_table d n f ys r.long (λ k l. filled 0 n (omega arith) s refl r.each k (omega arith) l)
  where
    filled : (i m : ℕ) → i + m ≡ n → (q : F) → q ≡ s → IsFromFnResultFrom g q ys i m → (k : ℕ) → i ≤ k → k < n → get_or ys k d ≡ f k
    filled i zero e q same t k a b = absurd (omega arith)
    filled i (suc m) e q same t k a b =
        let told = h i t.1 t.0 (omega arith) (subst (λ (x : F). Called g x (i, tt) t.1 t.0) same t.3) in
        ⊎_elim
        (λ (p : i ≡ k). rw (← p) (t.2.1 d ∙ told.0))
        (λ (l : i < k). filled (i + 1) m (omega arith) t.0 told.1 t.4 k (omega arith) b)
        (eq-or-lt_of_le a)
