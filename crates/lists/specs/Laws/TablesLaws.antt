-- Laws of lists given by a rule, and those by which a loop that fills a list is proved. Assumes nothing.
use Rattle.std.specs.Prelude.{◌≡◌, refl, List, [], ◌∷◌, ◌++◌, ℕ, zero, suc, ◌+◌, ◌-◌, ◌≤◌, ◌<◌, length, take, drop, set, get_or, replicate}
use Rattle.std.proofs.Common.{ap, sym, ◌∙◌, ⊎_elim, append_assoc, append-nil, add-one, eq-or-lt_of_le, eq-zero-or-pos, arith, length-append, length-drop, drop_of_length-le, ext_get_or, get_or-append-add, get_or-take, get_or-drop, length-take-le, drop-cons}
use Rattle.std.proofs.Math.ListN.{get_or-append, get_or-eq_default}
use Rattle.std.proofs.lemmas.List.{get_or_at, set_at}
use Rattle.lists.specs.Tables.{table}

pub length_table : {A : Type 0} (n : ℕ) (f : ℕ → A) → length (table n f) ≡ n
unfolding table
length_table zero f = refl
length_table (suc n) f = omega (arith, length-append (table n f) (f n ∷ []), length_table n f)

pub get_or_table : {A : Type 0} (n : ℕ) (f : ℕ → A) (k : ℕ) (d : A) → k < n → get_or (table n f) k d ≡ f k
unfolding table
get_or_table zero f k d h = absurd (omega arith)
get_or_table (suc n) f k d h =
    ⊎_elim
    (λ (e : k ≡ n). rw e (get_or_at (table n f) (f n) [] d n (length_table n f)))
    (λ (l : k < n). get_or-append (table n f) (f n ∷ []) d k (omega (arith, length_table n f)) ∙ get_or_table n f k d l)
    (eq-or-lt_of_le (omega arith))

-- a list of n places is the table of a rule that gives each of its places
pub is_table : {A : Type 0} (d : A) (n : ℕ) (f : ℕ → A) (l : List A) → length l ≡ n → ((k : ℕ) → k < n → get_or l k d ≡ f k) → l ≡ table n f
is_table d n f l e h =
    ext_get_or d l (table n f) (e ∙ sym (length_table n f)) (λ k b. h k (omega arith) ∙ sym (get_or_table n f k d (omega arith)))

-- the first n places of a list, by the rule that reads it
pub take_table : {A : Type 0} (d : A) (n : ℕ) (l : List A) → n ≤ length l → take n l ≡ table n (λ i. get_or l i d)
take_table d n l h = is_table d n _ (take n l) (length-take-le n l h) (λ i b. get_or-take n l i d b)

pub table_same : {A : Type 0} (n : ℕ) (f g : ℕ → A) → ((k : ℕ) → k < n → f k ≡ g k) → table n f ≡ table n g
unfolding table
table_same zero f g h = refl
table_same (suc n) f g h = rw (table_same n f g (λ k b. h k (omega arith)), h n (omega arith)) refl

-- the first i places by the rule f, the others as in l
unfoldable pub filled : {A : Type 0} → List A → ℕ → (ℕ → A) → List A
filled l i f = table i f ++ drop i l

pub filled_none : {A : Type 0} (l : List A) (f : ℕ → A) → filled l 0 f ≡ l
unfolding filled table
filled_none [] f = refl
filled_none (x ∷ l) f = refl

pub filled_more : {A : Type 0} (l : List A) (i : ℕ) (f : ℕ → A) → i < length l → set (filled l i f) i (f i) ≡ filled l (i + 1) f
unfolding filled table
filled_more l i f h =
    rw (add-one, drop-cons l i (f i), append_assoc) (set_at (table i f) (get_or l i (f i)) (drop (suc i) l) (f i) i (length_table i f))

pub filled_all : {A : Type 0} (l : List A) (f : ℕ → A) (n : ℕ) → length l ≡ n → filled l n f ≡ table n f
unfolding filled
filled_all l f n e = rw (drop_of_length-le l {i = n} (omega arith), append-nil)

pub length_filled : {A : Type 0} (l : List A) (i : ℕ) (f : ℕ → A) → i ≤ length l → length (filled l i f) ≡ length l
unfolding filled
length_filled l i f h = simp (length-append, length_table, length-drop) (omega arith)

-- what is not yet passed
pub filled_later : {A : Type 0} (l : List A) (i : ℕ) (f : ℕ → A) (k : ℕ) (d : A) → i ≤ k → get_or (filled l i f) k d ≡ get_or l k d
unfolding filled
filled_later l i f k d h =
    let e : length (table i f) + (k - i) ≡ k = omega (arith, length_table i f) in
    let e' : i + (k - i) ≡ k = omega arith in
    (rw e at (get_or-append-add (table i f) (drop i l) (k - i) d)) ∙ get_or-drop i l (k - i) d ∙ ap (λ (m : ℕ). get_or l m d) e'

-- what is passed
pub filled_before : {A : Type 0} (l : List A) (i : ℕ) (f : ℕ → A) (k : ℕ) (d : A) → k < i → get_or (filled l i f) k d ≡ f k
unfolding filled
filled_before l i f k d h = get_or-append (table i f) (drop i l) d k (omega (arith, length_table i f)) ∙ get_or_table i f k d h

-- The invariant of a loop that fills the first k places of a list by the rule f: l is the list as it was, i places are passed, n is the list now.
pub record Filling {A : Type 0} (k : ℕ) (f : ℕ → A) (l : List A) (i : ℕ) (n : List A) : Type 0 where
  pub within : i ≤ k
  pub size : length l ≡ k
  pub is : n ≡ filled l i f

pub fill_start : {A : Type 0} {k : ℕ} {f : ℕ → A} {l : List A} → length l ≡ k → Filling k f l 0 l
fill_start {k} {f} {l} h = record { within = omega arith; size = h; is = sym (filled_none l f) }

pub fill_step : {A : Type 0} {k : ℕ} {f : ℕ → A} {l n : List A} {i : ℕ} {v : A} → Filling k f l i n → i < k → v ≡ f i → Filling k f l (i + 1) (set n i v)
fill_step {k} {f} {l} {n} {i} {v} h b w =
    record { within = omega arith; size = h.size; is = rw (h.is, w) (filled_more l i f (omega (arith, h.size))) }

-- the place that the loop has come to is still as it was
pub fill_here : {k : ℕ} {f : ℕ → ℕ} {l n : List ℕ} {i : ℕ} → Filling k f l i n → get_or n i 0 ≡ get_or l i 0
fill_here {k} {f} {l} {n} {i} h = ap (λ (m : List ℕ). get_or m i 0) h.is ∙ filled_later l i f i 0 (omega arith)

pub fill_length : {A : Type 0} {k : ℕ} {f : ℕ → A} {l n : List A} {i : ℕ} → Filling k f l i n → length n ≡ k
fill_length {k} {f} {l} {n} {i} h = ap length h.is ∙ length_filled l i f (omega (arith, h.size, h.within)) ∙ h.size

pub fill_done : {A : Type 0} {k : ℕ} {f : ℕ → A} {l n : List A} {i : ℕ} → Filling k f l i n → k ≤ i → n ≡ table k f
fill_done {k} {f} {l} {n} {i} h b = let p : i ≡ k = omega (arith, h.within) in h.is ∙ ap (λ (m : ℕ). filled l m f) p ∙ filled_all l f k h.size

-- a bound on each place is a bound on each number read from the list, past its end too
pub table_bound : (n : ℕ) (f : ℕ → ℕ) (b : ℕ) → ((k : ℕ) → k < n → f k ≤ b) → (i : ℕ) → get_or (table n f) i 0 ≤ b
table_bound n f b h i =
    ⊎_elim
    (λ (e : n - i ≡ 0). omega (arith, get_or-eq_default (table n f) 0 {n = i} (omega (arith, length_table n f))))
    (λ (p : 0 < n - i). let l : i < n = omega arith in omega (arith, get_or_table n f i 0 l, h i l))
    (eq-zero-or-pos (n - i))

-- no number of a list of zeros is any but 0
pub zeros_at : (n i : ℕ) → get_or {A = ℕ} (replicate n 0) i 0 ≡ 0
zeros_at zero i = refl
zeros_at (suc n) zero = refl
zeros_at (suc n) (suc i) = zeros_at n i
