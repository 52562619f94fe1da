-- Laws of sums, and those by which a loop that adds is proved. Assumes nothing.
use Rattle.std.specs.Prelude.{◌≡◌, refl, ℕ, zero, suc, ◌+◌, ◌-◌, ◌*◌, ◌/◌, ◌≤◌, ◌<◌}
use Rattle.std.proofs.Common.{◌∙◌, sym, ap, add-one, add-zero, add-suc, zero-mul, suc-mul, mul-add, mul-one, eq-or-lt_of_le, ⊎_elim, le_trans, le_of_eq, le-div_iff_mul-le, div-mul-le_self, eq-zero-or-pos, arith}
use Rattle.std.proofs.Math.Nat.{div-zero}
use Rattle.lists.specs.Sums.{sum}

pub sum_none : (f : ℕ → ℕ) → sum 0 f ≡ 0
unfolding sum
sum_none f = refl

pub sum_more : (n : ℕ) (f : ℕ → ℕ) → sum (n + 1) f ≡ sum n f + f n
unfolding sum
sum_more n f = rw add-one

pub sum_up : (n k : ℕ) (f : ℕ → ℕ) → sum n f ≤ sum (n + k) f
unfolding sum
sum_up n zero f = rw add-zero (omega arith)
sum_up n (suc k) f = rw add-suc (omega (arith, sum_up n k f))

pub sum_to : (n m : ℕ) (f : ℕ → ℕ) → n ≤ m → sum n f ≤ sum m f
sum_to n m f h = rw (← (e)) (sum_up n (m - n) f)
  where
    e : n + (m - n) ≡ m
    e = omega arith

pub sum_plus : (m n : ℕ) (f : ℕ → ℕ) → sum (m + n) f ≡ sum m f + sum n (λ i. f (m + i))
unfolding sum
sum_plus m zero f = rw add-zero (omega arith)
sum_plus m (suc n) f = rw add-suc (omega (arith, sum_plus m n f))

-- a sum over n rows of w numbers
pub sum_rows : (n w : ℕ) (f : ℕ → ℕ) → sum (n * w) f ≡ sum n (λ i. sum w (λ j. f (i * w + j)))
unfolding sum
sum_rows zero w f = rw zero-mul
sum_rows (suc n) w f = ap (λ (k : ℕ). sum k f) (suc-mul n w) ∙ sum_plus (n * w) w f ∙ ap (λ (x : ℕ). x + sum w (λ j. f (n * w + j))) (sum_rows n w f)

pub sum_cap : (n b : ℕ) (f : ℕ → ℕ) → ((k : ℕ) → k < n → f k ≤ b) → sum n f ≤ n * b
unfolding sum
sum_cap zero b f h = omega arith
sum_cap (suc n) b f h = omega (arith, sum_cap n b f (λ k l. h k (omega arith)), h n (omega arith), suc-mul n b)

pub sum_cong : (n : ℕ) (f g : ℕ → ℕ) → ((k : ℕ) → k < n → f k ≡ g k) → sum n f ≡ sum n g
unfolding sum
sum_cong zero f g h = refl
sum_cong (suc n) f g h = omega (arith, sum_cong n f g (λ k l. h k (omega arith)), h n (omega arith))

pub sum_add : (n : ℕ) (f g : ℕ → ℕ) → sum n (λ k. f k + g k) ≡ sum n f + sum n g
unfolding sum
sum_add zero f g = refl
sum_add (suc n) f g = omega (arith, sum_add n f g)

pub sum_zero : (n : ℕ) (f : ℕ → ℕ) → ((k : ℕ) → k < n → f k ≡ 0) → sum n f ≡ 0
unfolding sum
sum_zero zero f h = refl
sum_zero (suc n) f h = omega (arith, sum_zero n f (λ k l. h k (omega arith)), h n (omega arith))

-- a sum with one place other than 0
pub sum_one : (n : ℕ) (f : ℕ → ℕ) (j : ℕ) → j < n → ((k : ℕ) → k < n → (k ≡ j → ⊥) → f k ≡ 0) → sum n f ≡ f j
unfolding sum
sum_one zero f j h z = absurd (omega arith)
sum_one (suc n) f j h z =
    ⊎_elim
    (λ (e : j ≡ n). rw e (omega (arith, sum_zero n f (λ k l. z k (omega arith) (λ p. omega arith)))))
    (λ (l : j < n). omega (arith, sum_one n f j l (λ k b. z k (omega arith)), z n (omega arith) (λ p. omega arith)))
    (eq-or-lt_of_le (omega arith))

-- The invariant of a loop that sums f over the first k places, each at most b: i places are passed, s is the sum so far.
pub record Summing (k : ℕ) (f : ℕ → ℕ) (b : ℕ) (i : ℕ) (s : ℕ) : Type 0 where
  pub within : i ≤ k
  pub is : s ≡ sum i f
  pub cap : s ≤ b * i

pub sum_start : {k : ℕ} {f : ℕ → ℕ} {b : ℕ} → Summing k f b 0 0
sum_start {k} {f} {b} = record { within = omega arith; is = sym (sum_none f); cap = omega arith }

pub sum_step : {k : ℕ} {f : ℕ → ℕ} {b i s v : ℕ} → Summing k f b i s → i < k → v ≡ f i → v ≤ b → Summing k f b (i + 1) (s + v)
sum_step {k} {f} {b} {i} {s} {v} h l e c =
    record { within = omega arith; is = omega (arith, sum_more i f, h.is); cap = omega (arith, h.cap, mul-add b i 1, mul-one b) }

pub sum_done : {k : ℕ} {f : ℕ → ℕ} {b i s : ℕ} → Summing k f b i s → k ≤ i → s ≡ sum k f
sum_done {k} {f} {b} {i} {s} h l = let p : i ≡ k = omega (arith, h.within) in h.is ∙ ap (λ (m : ℕ). sum m f) p

pub sum_part : (n : ℕ) (f : ℕ → ℕ) (j : ℕ) → j < n → f j ≤ sum n f
sum_part n f j h = omega (arith, sum_more j f, sum_to (j + 1) n f (omega arith))

-- the rises of a function that does not fall add up to its whole rise
pub sum_rises : (n : ℕ) (f : ℕ → ℕ) → ((k : ℕ) → k < n → f k ≤ f (k + 1)) → sum n (λ k. f (k + 1) - f k) + f 0 ≡ f n
unfolding sum
sum_rises zero f h = omega arith
sum_rises (suc n) f h =
    omega (arith, sum_rises n f (λ k l. h k (omega arith)), h n (omega arith), ap f (add-one n))

-- a matrix adds up to the same by rows as by columns
pub sum_swap : (n m : ℕ) (f : ℕ → ℕ → ℕ) → sum n (λ i. sum m (λ j. f i j)) ≡ sum m (λ j. sum n (λ i. f i j))
unfolding sum
sum_swap zero m f = sym (sum_zero m (λ j. sum 0 (λ i. f i j)) (λ i l. refl))
sum_swap (suc n) m f =
    ap (λ (x : ℕ). x + sum m (f n)) (sum_swap n m f) ∙ sym (sum_add m (λ j. sum n (λ i. f i j)) (f n))

-- totals that agree, with the sums of one matrix by rows and by columns added
pub sum_both_ways : (n m : ℕ) (f : ℕ → ℕ → ℕ) (x y : ℕ → ℕ) → sum n x ≡ sum m y → sum n (λ g. x g + sum m (λ c. f g c)) ≡ sum m (λ c. y c + sum n (λ g. f g c))
sum_both_ways n m f x y h =
    omega (arith, sum_add n x (λ g. sum m (λ c. f g c)), sum_add m y (λ c. sum n (λ g. f g c)), sum_swap n m f)

-- the falls of a function that does not rise add up to its whole fall
pub sum_falls : (n : ℕ) (f : ℕ → ℕ) → ((k : ℕ) → k < n → f (suc k) ≤ f k) → sum n (λ k. f k - f (suc k)) + f n ≡ f 0
unfolding sum
sum_falls zero f h = omega arith
sum_falls (suc n) f h = omega (arith, sum_falls n f (λ i l. h i (omega arith)), h n (omega arith))

-- a function that does not rise from one number to the next does not rise at all
pub never_rises : (f : ℕ → ℕ) → ((i : ℕ) → f (suc i) ≤ f i) → (n m : ℕ) → n ≤ m → f m ≤ f n
never_rises f h n zero l = le_of_eq (ap f (omega arith))
never_rises f h n (suc m) l =
    ⊎_elim
    (λ (e : n ≡ suc m). le_of_eq (ap f (sym e)))
    (λ (k : n < suc m). le_trans (h m) (never_rises f h n m (omega arith)))
    (eq-or-lt_of_le l)

-- a quotient does not fall as its dividend rises
pub div_up : (n a b : ℕ) → a ≤ b → a / n ≤ b / n
div_up n a b h =
    ⊎_elim
    (λ (e : n ≡ 0). rw (e, div-zero a) (omega arith))
    (λ (p : 0 < n). (le-div_iff_mul-le {x = a / n} {y = b} p).1 (le_trans (div-mul-le_self a n) h))
    (eq-zero-or-pos n)
