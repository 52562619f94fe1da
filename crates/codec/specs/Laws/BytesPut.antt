-- Numbers read from and written into a slice of bytes, and the laws by which the loops that do so are proved. Assumes nothing.
use Rattle.std.specs.Prelude.{ℕ, zero, suc, ◌+◌, ◌-◌, ◌*◌, ◌^◌, ◌≤◌, ◌<◌, ◌≡◌, refl, List, [], ◌∷◌, ◌++◌, length, take, drop, get_or, set}
use Rattle.std.proofs.Common.{sym, ap, ◌∙◌, append_assoc, append-nil, arith, add-one, add-zero, zero-mul, suc-mul, add-mul, one-mul, length-append, take_at, take_all, take-suc, take-suc-set, length-take-le, drop-drop}
use Rattle.std.proofs.Math.Nat.{one-le-pow}
use Rattle.std.proofs.lemmas.List.Edits.{sets, sets-eq}
use borrow.Rule.Slice.PartMut.{put_mid}
use Rattle.codec.specs.Bytes.{bytes, encode, decode_as}
use Rattle.codec.specs.Laws.BytesLaws.{Below, below_one, below_append, length_bytes, encode_append}

-- ---- reading

last_number : {X : Type 0} (of : List ℕ → X) (k n : ℕ) (s : List ℕ) → decode_as of k (suc n) s ≡ decode_as of k n s ++ (of (take k (drop (n * k) s)) ∷ [])
unfolding decode_as
last_number of k zero s = rw zero-mul
last_number {X = X} of k (suc n) s =
    let e : k + n * k ≡ suc n * k = omega (arith, suc-mul n k) in
    rw (← e, ← (drop-drop (n * k) k s)) (ap (λ (l : List X). of (take k s) ∷ l) (last_number of k n (drop k s)))

-- one more number is read
pub read_more : {X : Type 0} (of : List ℕ → X) (k i : ℕ) (s : List ℕ) (out : List X) (v : X) →
    take i out ≡ decode_as of k i s → i < length out → v ≡ of (take k (drop (i * k) s)) → take (i + 1) (set out i v) ≡ decode_as of k (i + 1) s
read_more of k i s out v h b e = rw (add-one, take-suc-set out i v b, h, e, last_number of k i s)

-- ---- writing

-- The bytes s became t: the numbers ws stand in it from place `from` up to place `to`, places counted in numbers,
-- each in its k bytes, and what stood before them is there still.
pub record Put (k from to : ℕ) (ws s t : List ℕ) : Type 0 where
  pub size : from + length ws ≡ to
  pub low : Below (256 ^ k) ws
  pub is : take (to * k) t ≡ take (from * k) s ++ encode k ws

pub put_none : {k at : ℕ} {s : List ℕ} → Put k at at [] s s
unfolding encode
put_none {k} {at} {s} = record { size = add-zero at; low = λ i. one-le-pow k 256 (omega arith); is = rw append-nil }

pub put_one : (k at w : ℕ) (s : List ℕ) → (at + 1) * k ≤ length s → w < 256 ^ k → Put k at (at + 1) (w ∷ []) s (sets s (at * k) (bytes k w))
unfolding encode
put_one k at w s h l =
    let room : (at + 1) * k ≡ at * k + k = add-mul at 1 k ∙ ap (λ (n : ℕ). at * k + n) (one-mul k) in
    let front : length (take (at * k) s) ≡ at * k = length-take-le (at * k) s (omega arith) in
    let whole : length (take (at * k) s ++ bytes k w) ≡ (at + 1) * k = omega (arith, length-append (take (at * k) s) (bytes k w), length_bytes k w) in
    record {
      size = refl;
      low = below_one (256 ^ k) w l;
      is =
          ap (take ((at + 1) * k)) (sets-eq (bytes k w) s (at * k) (omega (arith, length_bytes k w))) ∙
          take_at (take (at * k) s ++ bytes k w) (drop (at * k + length (bytes k w)) s) ((at + 1) * k) whole ∙
          rw append-nil;
    }

-- what is put after what is put before it
pub put_then : {k from mid to : ℕ} {xs ys s t u : List ℕ} → Put k from mid xs s t → Put k mid to ys t u → Put k from to (xs ++ ys) s u
put_then {k} {from} {mid} {to} {xs} {ys} {s} {t} {u} p q =
    record {
      size = omega (arith, length-append xs ys, p.size, q.size);
      low = below_append (256 ^ k) xs ys p.low q.low;
      is = rw (q.is, p.is, append_assoc, encode_append);
    }

-- the numbers of a list are put one by one
pub put_more : {k at : ℕ} {s t u : List ℕ} (ws : List ℕ) (i : ℕ) → i < length ws →
    Put k at (at + i) (take i ws) s t → Put k (at + i) (at + i + 1) (get_or ws i 0 ∷ []) t u → Put k at (at + (i + 1)) (take (i + 1) ws) s u
put_more {k} {at} {s} {t} {u} ws i h p q =
    let e : at + (i + 1) ≡ at + i + 1 = omega arith in
    rw (e, add-one i, take-suc ws i 0 h) (put_then p q)

-- numbers that fill the slice
pub put_all : {k n : ℕ} {ws s t : List ℕ} → Put k 0 n ws s t → length t ≡ n * k → t ≡ encode k ws
put_all {k} {n} {ws} {s} {t} p e = sym (take_all (n * k) t (omega arith)) ∙ p.is ∙ rw zero-mul

-- the bytes that stood in the stretch of one number, written over
pub put_over : (a k : ℕ) (s ys : List ℕ) → length ys ≡ k → a + k ≤ length s → put_mid a (a + k - a) s ys ≡ sets s a ys
put_over a k s ys e l =
    let size : a + k - a ≡ length ys = omega arith in
    rw (size, sets-eq ys s a (omega arith), drop-drop) (sym (append_assoc (take a s) ys (drop (a + length ys) s)))
