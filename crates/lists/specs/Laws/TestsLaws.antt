-- Laws of tests, and those by which a loop of tests is proved. Assumes nothing.
use Rattle.std.specs.Prelude.{◌≡◌, refl, Bool, true, false, ◌&&◌, ◌||◌, List, [], ◌∷◌, ℕ, zero, suc, ◌+◌, ◌*◌, ◌≤◌, ◌<◌, leb, get_or}
use Rattle.std.proofs.Common.{◌∙◌, sym, ap, true≢false, ⊎_elim, eq-or-lt_of_le, add-suc, add-zero, suc-mul, zero-mul, add-one, arith, leb-true, le-leb}
use Rattle.std.proofs.lemmas.Bool.{false≢true}
use Rattle.std.proofs.Math.ListN.{get_or-eq_default}
use Rattle.lists.specs.Tests.{all, some, within}

-- two tests that hold where the other does
pub same_test : (p q : Bool) → (p ≡ true → q ≡ true) → (q ≡ true → p ≡ true) → p ≡ q
same_test true q h k = sym (h refl)
same_test false true h k = k refl
same_test false false h k = refl

pub and_left : (a b : Bool) → a && b ≡ true → a ≡ true
and_left true b e = refl
and_left false b e = e

pub and_right : (a b : Bool) → a && b ≡ true → b ≡ true
and_right true b e = e
and_right false b e = absurd (false≢true e)

pub and_both : {a b : Bool} → a ≡ true → b ≡ true → a && b ≡ true
and_both {a} {b} p q = rw (p, q)

pub and_assoc : (a b c : Bool) → (a && b) && c ≡ a && (b && c)
and_assoc true b c = refl
and_assoc false b c = refl

pub all_at : (n : ℕ) (p : ℕ → Bool) → all n p ≡ true → (i : ℕ) → i < n → p i ≡ true
unfolding all
all_at zero p e i h = absurd (omega arith)
all_at (suc n) p e i h =
    ⊎_elim
    (λ (q : i ≡ n). ap p q ∙ and_right (all n p) (p n) e)
    (λ (l : i < n). all_at n p (and_left (all n p) (p n) e) i l)
    (eq-or-lt_of_le (omega arith))

pub all_from : (n : ℕ) (p : ℕ → Bool) → ((i : ℕ) → i < n → p i ≡ true) → all n p ≡ true
unfolding all
all_from zero p h = refl
all_from (suc n) p h = and_both (all_from n p (λ i l. h i (omega arith))) (h n (omega arith))

pub all_same : (n : ℕ) (p q : ℕ → Bool) → ((i : ℕ) → i < n → p i ≡ q i) → all n p ≡ all n q
unfolding all
all_same zero p q h = refl
all_same (suc n) p q h = rw (all_same n p q (λ i l. h i (omega arith)), h n (omega arith)) refl

pub all_plus : (m n : ℕ) (p : ℕ → Bool) → all (m + n) p ≡ all m p && all n (λ i. p (m + i))
unfolding all
all_plus m zero p = rw add-zero (last (all m p))
  where
    last : (b : Bool) → b ≡ b && true
    last true = refl
    last false = refl
all_plus m (suc n) p = rw (add-suc, all_plus m n p) (and_assoc (all m p) (all n (λ i. p (m + i))) (p (m + n)))

-- a test of each pair, row by row
pub all_rows : (n w : ℕ) (p : ℕ → Bool) → all (n * w) p ≡ all n (λ g. all w (λ c. p (g * w + c)))
unfolding all
all_rows zero w p = rw zero-mul refl
all_rows (suc n) w p = rw (suc-mul, all_plus, all_rows n w p) refl

-- The invariant of a loop that tests the first k places: i places are passed, ok says whether all of them hold.
pub record Testing (k : ℕ) (p : ℕ → Bool) (i : ℕ) (ok : Bool) : Type 0 where
  pub within : i ≤ k
  pub is : ok ≡ all i p

pub test_start : {k : ℕ} {p : ℕ → Bool} → Testing k p 0 true
unfolding all
test_start {k} {p} = record { within = omega arith; is = refl }

pub test_step : {k : ℕ} {p : ℕ → Bool} {i : ℕ} {ok v : Bool} → Testing k p i ok → i < k → v ≡ p i → Testing k p (i + 1) (ok && v)
unfolding all
test_step {k} {p} {i} {ok} {v} h l e = record { within = omega arith; is = rw (add-one, h.is, e) refl }

pub test_done : {k : ℕ} {p : ℕ → Bool} {i : ℕ} {ok : Bool} → Testing k p i ok → k ≤ i → ok ≡ all k p
test_done {k} {p} {i} {ok} h l = let q : i ≡ k = omega (arith, h.within) in h.is ∙ ap (λ (m : ℕ). all m p) q

-- ---- a row of tests, a && b && c && ..

abbrev pub chain : Bool → List Bool → Bool
chain a [] = a
chain a (b ∷ bs) = chain (a && b) bs

chain_first : (a : Bool) (bs : List Bool) → chain a bs ≡ true → a ≡ true
chain_first a [] e = e
chain_first a (b ∷ bs) e = and_left a b (chain_first (a && b) bs e)

-- each of them holds
pub chain_at : (a : Bool) (bs : List Bool) → chain a bs ≡ true → (i : ℕ) → get_or (a ∷ bs) i true ≡ true
chain_at a bs e zero = chain_first a bs e
chain_at a [] e (suc i) = get_or-eq_default [] true {n = i} (omega arith)
chain_at a (b ∷ bs) e (suc zero) = and_right a b (chain_first (a && b) bs e)
chain_at a (b ∷ bs) e (suc (suc i)) = chain_at (a && b) bs e (suc i)

or_assoc : (a b c : Bool) → (a || b) || c ≡ a || (b || c)
or_assoc true b c = refl
or_assoc false b c = refl

or_none : (b : Bool) → b ≡ b || false
or_none true = refl
or_none false = refl

pub or_left : (a b : Bool) → a || b ≡ false → a ≡ false
or_left true b e = e
or_left false b e = refl

pub or_right : (a b : Bool) → a || b ≡ false → b ≡ false
or_right true b e = absurd (true≢false e)
or_right false b e = e

-- where it holds nowhere
pub some_none : (n : ℕ) (p : ℕ → Bool) → some n p ≡ false → (i : ℕ) → i < n → p i ≡ false
unfolding some
some_none zero p e i h = absurd (omega arith)
some_none (suc n) p e i h =
    ⊎_elim
    (λ (q : i ≡ n). ap p q ∙ or_right (some n p) (p n) e)
    (λ (l : i < n). some_none n p (or_left (some n p) (p n) e) i l)
    (eq-or-lt_of_le (omega arith))

pub some_never : (n : ℕ) (p : ℕ → Bool) → ((i : ℕ) → i < n → p i ≡ false) → some n p ≡ false
unfolding some
some_never zero p h = refl
some_never (suc n) p h = rw (some_never n p (λ i l. h i (omega arith)), h n (omega arith)) refl

pub some_same : (n : ℕ) (p q : ℕ → Bool) → ((i : ℕ) → i < n → p i ≡ q i) → some n p ≡ some n q
unfolding some
some_same zero p q h = refl
some_same (suc n) p q h = rw (some_same n p q (λ i l. h i (omega arith)), h n (omega arith)) refl

pub some_plus : (m n : ℕ) (p : ℕ → Bool) → some (m + n) p ≡ some m p || some n (λ i. p (m + i))
unfolding some
some_plus m zero p = rw add-zero (or_none (some m p))
some_plus m (suc n) p = rw (add-suc, some_plus m n p) (or_assoc (some m p) (some n (λ i. p (m + i))) (p (m + n)))

pub some_rows : (n w : ℕ) (p : ℕ → Bool) → some (n * w) p ≡ some n (λ g. some w (λ c. p (g * w + c)))
unfolding some
some_rows zero w p = rw zero-mul refl
some_rows (suc n) w p = rw (suc-mul, some_plus, some_rows n w p) refl

-- The invariant of a loop that looks through the first k places: i places are passed, found says whether one of them holds.
pub record Looking (k : ℕ) (p : ℕ → Bool) (i : ℕ) (found : Bool) : Type 0 where
  pub within : i ≤ k
  pub is : found ≡ some i p

pub look_start : {k : ℕ} {p : ℕ → Bool} → Looking k p 0 false
unfolding some
look_start {k} {p} = record { within = omega arith; is = refl }

pub look_step : {k : ℕ} {p : ℕ → Bool} {i : ℕ} {found v : Bool} → Looking k p i found → i < k → v ≡ p i → Looking k p (i + 1) (found || v)
unfolding some
look_step {k} {p} {i} {found} {v} h l e = record { within = omega arith; is = rw (add-one, h.is, e) refl }

pub look_done : {k : ℕ} {p : ℕ → Bool} {i : ℕ} {found : Bool} → Looking k p i found → k ≤ i → found ≡ some k p
look_done {k} {p} {i} {found} h l = let q : i ≡ k = omega (arith, h.within) in h.is ∙ ap (λ (m : ℕ). some m p) q

-- ---- a number in a range

pub within_low : (lo hi n : ℕ) → within lo hi n ≡ true → lo ≤ n
unfolding within
within_low lo hi n e = leb-true lo n (and_left (leb lo n) (leb n hi) e)

pub within_high : (lo hi n : ℕ) → within lo hi n ≡ true → n ≤ hi
unfolding within
within_high lo hi n e = leb-true n hi (and_right (leb lo n) (leb n hi) e)

pub within_from : (lo hi n : ℕ) → lo ≤ n → n ≤ hi → within lo hi n ≡ true
unfolding within
within_from lo hi n h k = and_both (le-leb lo n h) (le-leb n hi k)
