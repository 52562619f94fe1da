-- Laws of the written form: decimal digits, and the lengths of names and of the names line. Assumes nothing.
use Rattle.std.specs.Prelude.{ℕ, zero, suc, ◌+◌, ◌-◌, ◌*◌, ◌/◌, ◌%◌, ◌^◌, ◌≤◌, ◌<◌, ◌≡◌, Bool, true, false, List, [], ◌∷◌, ◌++◌, ltb, length, take, get_or, if◌then◌else◌}
use Rattle.std.proofs.Common.{sym, ap, ◌∙◌, ⊎_elim, append_assoc, add-one, eq-zero-or-pos, zero-add, add-zero, add-suc, arith, lt-ltb, le-ltb, length-append, length-take, take-suc}
use Rattle.table_text.specs.TableText.{digits, decimal, separator_after, printed, name, names, names_line}

-- ---- digits

pub digits_one : (k d : ℕ) → d < 10 → digits (suc k) d ≡ (48 + d) ∷ []
unfolding digits
digits_one k d h = let e : d % 10 ≡ d = omega arith in rw (lt-ltb d 10 h, e)

pub digits_step : (k n : ℕ) → 10 ≤ n → digits (suc k) n ≡ digits k (n / 10) ++ ((48 + n % 10) ∷ [])
unfolding digits
digits_step k n h = rw (le-ltb n 10 h)

-- a number below 10 ^ (k + 1) has no digit more than k + 1
digits_enough : (k n : ℕ) → n < 10 ^ suc k → digits (suc (suc k)) n ≡ digits (suc k) n
digits_enough zero n h = digits_one 1 n (omega arith) ∙ sym (digits_one 0 n (omega arith))
digits_enough (suc k) n h =
    ⊎_elim
    (λ (e : 10 - n ≡ 0).
    digits_step (suc (suc k)) n (omega arith)
    ∙ ap (λ (x : List ℕ). x ++ ((48 + n % 10) ∷ [])) (digits_enough k (n / 10) (omega arith))
    ∙ sym (digits_step (suc k) n (omega arith)))
    (λ (p : 0 < 10 - n). digits_one (suc (suc k)) n (omega arith) ∙ sym (digits_one (suc k) n (omega arith)))
    (eq-zero-or-pos (10 - n))

pub decimal_one : (d : ℕ) → d < 10 → decimal d ≡ (48 + d) ∷ []
unfolding decimal
decimal_one d h = digits_one 19 d h

pub decimal_step : (n : ℕ) → 10 ≤ n → n < 100_000_000_000_000_000_000 → decimal n ≡ decimal (n / 10) ++ ((48 + n % 10) ∷ [])
unfolding decimal
decimal_step n l h =
    digits_step 19 n l ∙ ap (λ (x : List ℕ). x ++ ((48 + n % 10) ∷ [])) (sym (digits_enough 18 (n / 10) (omega arith)))

-- the digit d written after n
pub decimal_more : (n d : ℕ) → 0 < n → d < 10 → n * 10 + d < 100_000_000_000_000_000_000 → decimal (n * 10 + d) ≡ decimal n ++ ((48 + d) ∷ [])
decimal_more n d p q h =
    let e : (n * 10 + d) / 10 ≡ n = omega arith in
    let f : (n * 10 + d) % 10 ≡ d = omega arith in
    decimal_step (n * 10 + d) (omega arith) h ∙ rw (e, f)

pub length_one : (n : ℕ) → n < 10 → length (decimal n) ≡ 1
length_one n h = ap length (decimal_one n h)

pub length_step : (n : ℕ) → 10 ≤ n → n < 100_000_000_000_000_000_000 → length (decimal n) ≡ length (decimal (n / 10)) + 1
length_step n l h = ap length (decimal_step n l h) ∙ length-append (decimal (n / 10)) ((48 + n % 10) ∷ [])

-- no number is written with more than 20 bytes
digits_short : (k n : ℕ) → length (digits k n) ≤ k
unfolding digits
digits_short zero n = omega arith
digits_short (suc k) n = go (ltb n 10) (digits_short k (n / 10))
  where
    go : (t : Bool) → length (digits k (n / 10)) ≤ k → length ((if t then [] else digits k (n / 10)) ++ ((48 + n % 10) ∷ [])) ≤ suc k
    go true h = omega arith
    go false h = omega (arith, length-append (digits k (n / 10)) ((48 + n % 10) ∷ []))

pub decimal_short : (n : ℕ) → length (decimal n) ≤ 20
unfolding decimal
decimal_short n = digits_short 20 n

-- ---- values

printed_append : (w i : ℕ) (xs ys : List ℕ) → printed w i (xs ++ ys) ≡ printed w i xs ++ printed w (i + length xs) ys
unfolding printed
printed_append w i [] ys = rw add-zero
printed_append w i (x ∷ xs) ys =
    let e : i + 1 + length xs ≡ i + suc (length xs) = omega arith in
    rw (append_assoc, ← e) (ap (λ (l : List ℕ). decimal x ++ (separator_after w i ∷ l)) (printed_append w (i + 1) xs ys))

-- no value with its separator has more than 21 bytes
pub printed_short : (w i : ℕ) (vs : List ℕ) → length (printed w i vs) ≤ 21 * length vs
unfolding printed
printed_short w i [] = omega arith
printed_short w i (v ∷ vs) =
    omega (arith, decimal_short v, printed_short w (i + 1) vs, length-append (decimal v) (separator_after w i ∷ printed w (i + 1) vs))

-- the value at place j written after those before it
pub printed_more : (w j : ℕ) (vs : List ℕ) → j < length vs
    → printed w 0 (take (j + 1) vs) ≡ printed w 0 (take j vs) ++ (decimal (get_or vs j 0) ++ (separator_after w j ∷ []))
unfolding printed
printed_more w j vs h =
    let e : take (j + 1) vs ≡ take j vs ++ (get_or vs j 0 ∷ []) = rw add-one (take-suc vs j 0 h) in
    let l : length (take j vs) ≡ j = omega (arith, length-take j vs) in
    rw (e, printed_append w 0 (take j vs) (get_or vs j 0 ∷ []), l, zero-add)

-- ---- names

pub name_e : (g j : ℕ) → j < g → name g j ≡ 69 ∷ decimal (j + 1)
unfolding name
name_e g j h = rw (lt-ltb j g h)

pub name_r : (g j : ℕ) → g ≤ j → name g j ≡ 82 ∷ decimal (j - g + 1)
unfolding name
name_r g j h = rw (le-ltb j g h)

two_digits : (n : ℕ) → n < 100 → length (decimal n) ≤ 2
two_digits n h =
    ⊎_elim
    (λ (e : 10 - n ≡ 0). omega (arith, length_step n (omega arith) (omega arith), length_one (n / 10) (omega arith)))
    (λ (p : 0 < 10 - n). omega (arith, length_one n (omega arith)))
    (eq-zero-or-pos (10 - n))

name_short : (g j : ℕ) → j < 99 → length (name g j) ≤ 3
name_short g j h =
    ⊎_elim
    (λ (e : g - j ≡ 0). omega (arith, ap length (name_r g j (omega arith)), two_digits (j - g + 1) (omega arith)))
    (λ (p : 0 < g - j). omega (arith, ap length (name_e g j (omega arith)), two_digits (j + 1) (omega arith)))
    (eq-zero-or-pos (g - j))

pub names_more : (g w j : ℕ) → names g w (j + 1) ≡ names g w j ++ (name g j ++ (separator_after w j ∷ []))
unfolding names
names_more g w j = rw add-one

pub length_more : (g w j : ℕ) → length (names g w (j + 1)) ≡ length (names g w j) + (length (name g j) + 1)
length_more g w j = ap length (names_more g w j) ∙ simp length-append

pub names_short : (g w n : ℕ) → n < 99 → length (names g w n) ≤ 4 * n
unfolding names
names_short g w zero h = omega arith
names_short g w (suc n) h = omega (arith, names_short g w n (omega arith), name_short g n (omega arith), length_more g w n, ap (λ (x : ℕ). length (names g w x)) (add-one n))

-- ---- how long the names line is, for a reader, since no proof needs it

names_up : (g w j k : ℕ) → length (names g w j) ≤ length (names g w (j + k))
names_up g w j zero = rw add-zero (omega arith)
names_up g w j (suc k) =
    rw add-suc (omega (arith, names_up g w j k, length_more g w (j + k), ap (λ (x : ℕ). length (names g w x)) (add-one (j + k))))

-- the first j names are no longer than the line
pub names_to : (g w j : ℕ) → j ≤ w → length (names g w j) ≤ length (names g w w)
names_to g w j h = let e : j + (w - j) ≡ w = omega arith in rw e at (names_up g w j (w - j))

-- the names line of the largest table has at most 96 bytes
pub line_short : (g c : ℕ) → g ≤ 8 → c ≤ 16 → length (names_line g c) ≤ 96
unfolding names_line
line_short g c h k = omega (arith, names_short g (g + c) (g + c) (omega arith))

pub line_some : (g c : ℕ) → 0 < g → 0 < length (names_line g c)
unfolding names_line
line_some g c h =
    let e : g + c - 1 + 1 ≡ g + c = omega arith in
    omega (arith, rw e at (length_more g (g + c) (g + c - 1)))
