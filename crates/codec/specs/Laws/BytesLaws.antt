-- Numbers to bytes and bytes to numbers are each other's inverse; lengths and bounds. Over every width. Assumes nothing.
use Rattle.std.specs.Prelude.{ℕ, zero, suc, ◌+◌, ◌-◌, ◌*◌, ◌/◌, ◌%◌, ◌^◌, ◌≤◌, ◌<◌, ◌≡◌, refl, List, [], ◌∷◌, ◌++◌, length, take, drop, get_or, set}
use Rattle.std.proofs.Common.{sym, ap, ap₂, ◌∙◌, append_assoc, arith, zero-add, add-suc, suc-add, zero-mul, suc-mul, length-append, length-drop, take-append-drop, take_at, drop_at, take-take, drop-drop, get_or-drop, length-take-le}
use Rattle.std.proofs.Math.Nat.{pow-succ', one-le-pow}
use Rattle.std.proofs.lemmas.List.Edits.{sets, sets-eq}
use Rattle.std.proofs.lemmas.List.{take-set-le, drop-set-add}
use Rattle.std.proofs.Math.Seq.{take-nil}
use Rattle.codec.specs.Bytes.{number, bytes, encode, decode_as, decode}

-- every number of the list is below b
abbrev pub Below : ℕ → List ℕ → Type 0
Below b xs = (i : ℕ) → get_or xs i 0 < b

-- ---- lengths

pub length_bytes : (k n : ℕ) → length (bytes k n) ≡ k
unfolding bytes
length_bytes zero n = refl
length_bytes (suc k) n = ap suc (length_bytes k (n / 256))

pub length_encode : (k : ℕ) (ws : List ℕ) → length (encode k ws) ≡ length ws * k
unfolding encode
length_encode k [] = sym (zero-mul k)
length_encode k (w ∷ ws) = omega (arith, length-append (bytes k w) (encode k ws), length_bytes k w, length_encode k ws, suc-mul (length ws) k)

pub length_decode : (k n : ℕ) (s : List ℕ) → length (decode k n s) ≡ n
unfolding decode_as
length_decode k zero s = refl
length_decode k (suc n) s = ap suc (length_decode k n (drop k s))

-- ---- parts

drop_take : (m n : ℕ) (s : List ℕ) → drop m (take (m + n) s) ≡ take n (drop m s)
drop_take zero n s = rw zero-add
drop_take (suc m) n [] = rw suc-add (sym (take-nil n))
drop_take (suc m) n (x ∷ s) = rw suc-add (drop_take m n s)

below_take : (b n : ℕ) (s : List ℕ) → 0 < b → Below b s → Below b (take n s)
below_take b zero s p h i = p
below_take b (suc n) [] p h i = p
below_take b (suc n) (x ∷ s) p h zero = h 0
below_take b (suc n) (x ∷ s) p h (suc i) = below_take b n s p (λ j. h (suc j)) i

below_drop : (b n : ℕ) (s : List ℕ) → Below b s → Below b (drop n s)
below_drop b n s h i = rw get_or-drop (h (n + i))

pub below_one : (b x : ℕ) → x < b → Below b (x ∷ [])
below_one b x h zero = h
below_one b x h (suc i) = omega arith

pub below_append : (b : ℕ) (xs ys : List ℕ) → Below b xs → Below b ys → Below b (xs ++ ys)
below_append b [] ys h l i = l i
below_append b (x ∷ xs) ys h l zero = h 0
below_append b (x ∷ xs) ys h l (suc i) = below_append b xs ys (λ j. h (suc j)) l i

pub encode_append : (k : ℕ) (xs ys : List ℕ) → encode k (xs ++ ys) ≡ encode k xs ++ encode k ys
unfolding encode
encode_append k [] ys = refl
encode_append k (x ∷ xs) ys = rw (encode_append k xs ys) (sym (append_assoc (bytes k x) (encode k xs) (encode k ys)))

drop_decode : (k m n : ℕ) (s : List ℕ) → drop m (decode k (m + n) s) ≡ decode k n (drop (m * k) s)
unfolding decode_as
drop_decode k zero n s = rw (zero-add, zero-mul)
drop_decode k (suc m) n s =
    let e : k + m * k ≡ suc m * k = omega (arith, suc-mul m k) in
    rw suc-add (drop_decode k m n (drop k s) ∙ ap (decode k n) (drop-drop (m * k) k s ∙ ap (λ (j : ℕ). drop j s) e))

take_decode : (k m n : ℕ) (s : List ℕ) → take m (decode k (m + n) s) ≡ decode k m (take (m * k) s)
unfolding decode_as
take_decode k zero n s = refl
take_decode k (suc m) n s =
    let e : suc m * k ≡ k + m * k = omega (arith, suc-mul m k) in
    let first : take k (take (k + m * k) s) ≡ take k s = take-take k (k + m * k) s (omega arith) in
    rw (suc-add, e, first, drop_take) (ap (λ (l : List ℕ). number (take k s) ∷ l) (take_decode k m n (drop k s)))

-- n numbers from place m on are those of the bytes there
pub decode_part : (k all m n : ℕ) (s : List ℕ) → m + n ≤ all → take n (drop m (decode k all s)) ≡ decode k n (take (n * k) (drop (m * k) s))
decode_part k all m n s h =
    let e : m + (n + (all - m - n)) ≡ all = omega arith in
    rw (← e) (rw drop_decode (take_decode k n (all - m - n) (drop (m * k) s)))

-- one number, by its bytes
pub decode_at : (k n i : ℕ) (s : List ℕ) → i < n → get_or (decode k n s) i 0 ≡ number (take k (drop (i * k) s))
unfolding decode_as
decode_at k zero i s h = absurd (omega arith)
decode_at k (suc n) zero s h = rw zero-mul
decode_at k (suc n) (suc i) s h =
    let e : k + i * k ≡ suc i * k = omega (arith, suc-mul i k) in
    decode_at k n i (drop k s) (omega arith) ∙ ap (λ (l : List ℕ). number (take k l)) (drop-drop (i * k) k s ∙ ap (λ (j : ℕ). drop j s) e)

-- ---- back and forth

number_bytes : (k n : ℕ) → n < 256 ^ k → number (bytes k n) ≡ n
unfolding number bytes
number_bytes zero n h = omega arith
number_bytes (suc k) n h =
    let l : n < 256 * 256 ^ k = rw (pow-succ' 256 k) at h in
    omega (arith, number_bytes k (n / 256) (omega arith))

bytes_number : (bs : List ℕ) → Below 256 bs → bytes (length bs) (number bs) ≡ bs
unfolding number bytes
bytes_number [] h = refl
bytes_number (b ∷ bs) h =
    let low : (b + 256 * number bs) % 256 ≡ b = omega (arith, h 0) in
    let high : (b + 256 * number bs) / 256 ≡ number bs = omega (arith, h 0) in
    rw (low, high, bytes_number bs (λ i. h (suc i)))

number_below : (bs : List ℕ) → Below 256 bs → number bs < 256 ^ length bs
unfolding number
number_below [] h = omega arith
number_below (b ∷ bs) h = omega (arith, h 0, number_below bs (λ i. h (suc i)), pow-succ' 256 (length bs))

pub decode_encode : (k : ℕ) (ws : List ℕ) → Below (256 ^ k) ws → decode k (length ws) (encode k ws) ≡ ws
unfolding decode_as encode
decode_encode k [] h = refl
decode_encode k (w ∷ ws) h =
    rw (take_at (bytes k w) (encode k ws) k (length_bytes k w), drop_at (bytes k w) (encode k ws) k (length_bytes k w))
    (ap₂ (λ (x : ℕ) (xs : List ℕ). x ∷ xs) (number_bytes k w (h 0)) (decode_encode k ws (λ i. h (suc i))))

pub encode_decode : (k n : ℕ) (s : List ℕ) → length s ≡ n * k → Below 256 s → encode k (decode k n s) ≡ s
unfolding decode_as encode
encode_decode k zero [] e h = refl
encode_decode k zero (x ∷ s) e h = absurd (omega (arith, zero-mul k))
encode_decode k (suc n) s e h =
    let size : length (take k s) ≡ k = length-take-le k s (omega (arith, suc-mul n k)) in
    let first : bytes k (number (take k s)) ≡ take k s = rw size at (bytes_number (take k s) (below_take 256 k s (omega arith) h)) in
    let rest : encode k (decode k n (drop k s)) ≡ drop k s =
    encode_decode k n (drop k s) (omega (arith, length-drop k s, suc-mul n k)) (below_drop 256 k s h) in
    rw (first, rest) (take-append-drop k s)

pub decode_below : (k n : ℕ) (s : List ℕ) → length s ≡ n * k → Below 256 s → Below (256 ^ k) (decode k n s)
unfolding decode_as
decode_below k zero s e h i = one-le-pow k 256 (omega arith)
decode_below k (suc n) s e h zero =
    let size : length (take k s) ≡ k = length-take-le k s (omega (arith, suc-mul n k)) in
    rw size at (number_below (take k s) (below_take 256 k s (omega arith) h))
decode_below k (suc n) s e h (suc i) = decode_below k n (drop k s) (omega (arith, length-drop k s, suc-mul n k)) (below_drop 256 k s h) i

-- ---- the bytes of one number replaced

take_sets : (n : ℕ) (l : List ℕ) (i : ℕ) (vs : List ℕ) → n ≤ i → take n (sets l i vs) ≡ take n l
take_sets n l i [] h = refl
take_sets n l i (a ∷ vs) h = take_sets n (set l i a) (suc i) vs (omega arith) ∙ take-set-le n l i a h

drop_sets : (n : ℕ) (l : List ℕ) (i : ℕ) (vs : List ℕ) → drop n (sets l (n + i) vs) ≡ sets (drop n l) i vs
drop_sets n l i [] = refl
drop_sets n l i (a ∷ vs) = rw (← (add-suc n i), drop_sets n (set l (n + i) a) (suc i) vs, drop-set-add)

pub decode_sets : (k n i w : ℕ) (s : List ℕ) → i < n → length s ≡ n * k → w < 256 ^ k → decode k n (sets s (i * k) (bytes k w)) ≡ set (decode k n s) i w
unfolding decode_as
decode_sets k zero i w s h e l = absurd (omega arith)
decode_sets k (suc n) zero w s h e l =
    let size = length_bytes k w in
    let first : sets s 0 (bytes k w) ≡ bytes k w ++ drop (length (bytes k w)) s = rw zero-add at (sets-eq (bytes k w) s 0 (omega (arith, size, suc-mul n k))) in
    rw (zero-mul, first, size, take_at (bytes k w) (drop k s) k size, drop_at (bytes k w) (drop k s) k size, number_bytes k w l)
decode_sets k (suc n) (suc i) w s h e l =
    let at : suc i * k ≡ k + i * k = omega (arith, suc-mul i k) in
    rw (at, take_sets k s (k + i * k) (bytes k w) (omega arith), drop_sets) (ap (λ (l : List ℕ). number (take k s) ∷ l) (decode_sets k n i w (drop k s) (omega arith) (omega (arith, length-drop k s, suc-mul n k)) l))
