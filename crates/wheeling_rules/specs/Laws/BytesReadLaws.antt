-- Bytes read as numbers: whole counts, too many, and no whole count. Assumes nothing.
use Rattle.std.specs.Prelude.{ℕ, ◌*◌, ◌/◌, ◌%◌, ◌^◌, ◌≤◌, ◌<◌, ◌≡◌, refl, Bool, true, false, List, [], ◌++◌, ◌⊎◌, eqb, length, take, drop, if◌then◌else◌}
use Rattle.std.proofs.Math.Path.{sym}
use Rattle.std.proofs.Common.{ap, ◌∙◌, inl, inr, arith, eqb-true, eq-eqb, ne_eqb, length-take-le, take_at}
use borrow.Table.Elements.{same_len}
use Rattle.lists.specs.Laws.TablesLaws.{length_table}
use Rattle.codec.specs.Bytes.{encode, decode_as, decode}
use Rattle.codec.specs.Laws.BytesLaws.{Below, length_encode, length_decode, decode_encode}
use Rattle.record_layout.specs.OnBytes.{bytes_after}
use Rattle.wheeling_rules.specs.Wheeling.{numbers_in}
use Rattle.wheeling_rules.specs.Laws.BytesRead.{AlikeSize, Taken, Room, Written}

module _ (w : ℕ) (bytes : List ℕ) where
  pub numbers_whole : length bytes % w ≡ 0 → numbers_in w bytes ≡ decode w (length bytes / w) bytes
  unfolding numbers_in
  numbers_whole e = rw (eq-eqb (length bytes % w) 0 e)

  pub count_whole : length bytes % w ≡ 0 → length (numbers_in w bytes) ≡ length bytes / w
  count_whole e = ap length (numbers_whole e) ∙ length_decode w (length bytes / w) bytes

  pub count_broken : (length bytes % w ≡ 0 → ⊥) → length (numbers_in w bytes) ≡ 1_000
  unfolding numbers_in
  count_broken e = rw (ne_eqb (length bytes % w) 0 e) (length_table 1_000 (λ i. 0))

  -- too many numbers, or no whole count of them
  pub count_more : {k : ℕ} → k ≤ 1_000 → ((length bytes % w ≡ 0) × (k ≤ length bytes / w)) ⊎ (length bytes % w ≡ 0 → ⊥) → k ≤ length (numbers_in w bytes)
  count_more l (inl h) = omega (arith, count_whole h.0)
  count_more l (inr e) = omega (arith, count_broken e)

module _ (bytes out : List ℕ) {k : ℕ} (size : length out ≡ k) where
  -- the codec is lent the first n places
  pub taken_read : {n : ℕ} {ys : List ℕ} → length bytes % 4 ≡ 0 → n ≡ length bytes / 4 → n < k → ys ≡ decode 4 (length (take n out)) bytes → Taken (numbers_in 4 bytes) k n (ys ++ drop n out)
  taken_read {n} {ys} e q l d =
      let lent : length (take n out) ≡ n = length-take-le n out (omega arith) in
      let here : length ys ≡ n = ap length d ∙ length_decode 4 (length (take n out)) bytes ∙ lent in
      record {
        within = omega arith;
        size = same_len n out ys (here ∙ sym lent) ∙ size;
        alike = inl (take_at ys (drop n out) n here ∙ d ∙ ap (λ (i : ℕ). decode 4 i bytes) (lent ∙ q) ∙ sym (numbers_whole 4 bytes e));
      }

  pub taken_all : k ≤ length (numbers_in 4 bytes) → Taken (numbers_in 4 bytes) k k out
  taken_all h = record { within = omega arith; size = size; alike = inr (omega (arith, length-take-le k out (omega arith)), h) }

  -- two cases for a reader, since no proof needs them: too many numbers, and no whole count of them
  pub taken_too_many : length bytes % 4 ≡ 0 → k ≤ length bytes / 4 → Taken (numbers_in 4 bytes) k k out
  taken_too_many e h = taken_all (omega (arith, count_whole 4 bytes e))

  pub taken_broken : k ≤ 1_000 → (length bytes % 4 ≡ 0 → ⊥) → Taken (numbers_in 4 bytes) k k out
  taken_broken h e = taken_all (omega (arith, count_broken 4 bytes e))

module _ (lent : List ℕ) {k : ℕ} where
  pub room_whole : {n : ℕ} → length lent % 8 ≡ 0 → n ≡ length lent / 8 → n < k → Room lent k n
  room_whole e q l = record { within = omega arith; fits = λ h. omega arith; alike = inl (q ∙ sym (count_whole 8 lent e)) }

  pub room_all : k ≤ length (numbers_in 8 lent) → Room lent k k
  room_all h = record { within = omega arith; fits = λ l. absurd (omega arith); alike = inr (omega arith, h) }

  -- the same two cases
  pub room_too_many : length lent % 8 ≡ 0 → k ≤ length lent / 8 → Room lent k k
  room_too_many e h = room_all (omega (arith, count_whole 8 lent e))

  pub room_broken : k ≤ 1_000 → (length lent % 8 ≡ 0 → ⊥) → Room lent k k
  room_broken h e = room_all (omega (arith, count_broken 8 lent e))

-- a call is lent the first n of k numbers for its output
module _ (out : List ℕ) {lent : List ℕ} {k n : ℕ} (h : Room lent k n) (size : length out ≡ k) where
  lent_size : length (take n out) ≡ n
  lent_size = length-take-le n out (omega (arith, h.within))

  pub room_fits : length (take n out) < k → length lent ≡ 8 * n
  room_fits l = h.fits (omega (arith, lent_size))

  pub room_alike : AlikeSize k (length (take n out)) (length (numbers_in 8 lent))
  room_alike = rw lent_size h.alike

  pub left_size : (ys : List ℕ) → length ys ≡ length (take n out) → length (ys ++ drop n out) ≡ k
  left_size ys e = same_len n out ys e ∙ size

  pub left_room : (ys : List ℕ) → length ys ≡ length (take n out) → n ≤ length (ys ++ drop n out)
  left_room ys e = omega (arith, h.within, left_size ys e)

  pub left_there : {ys : List ℕ} → length ys ≡ length (take n out) → take n (ys ++ drop n out) ≡ ys
  left_there {ys} e = take_at ys (drop n out) n (e ∙ lent_size)

module _ {out lent : List ℕ} {refusal : ℕ} where
  pub written_accepted : {lent' : List ℕ} → refusal ≡ 0 → lent' ≡ encode 8 out → Written refusal out lent 0 lent'
  unfolding bytes_after
  written_accepted z e = record { number_is = sym z; output_is = rw (eq-eqb refusal 0 z) e }

  pub written_refused : (refusal ≡ 0 → ⊥) → Written refusal out lent refusal lent
  unfolding bytes_after
  written_refused z = record { number_is = refl; output_is = rw (ne_eqb refusal 0 z) }

-- numbers that fit 8 bytes are read back from their bytes
pub numbers_encode : (ws : List ℕ) → Below (256 ^ 8) ws → numbers_in 8 (encode 8 ws) ≡ ws
numbers_encode ws h =
    let size = length_encode 8 ws in
    let count : length (encode 8 ws) / 8 ≡ length ws = omega arith in
    numbers_whole 8 (encode 8 ws) (omega arith) ∙ ap (λ (i : ℕ). decode 8 i (encode 8 ws)) count ∙ decode_encode 8 ws h

pub numbers_none : numbers_in 8 [] ≡ []
unfolding numbers_in decode_as
numbers_none = refl

-- what is given counts only where the call is accepted
pub after_same : (bytes : List ℕ) {n : ℕ} {xs ys : List ℕ} → (n ≡ 0 → xs ≡ ys) → bytes_after n xs bytes ≡ bytes_after n ys bytes
unfolding bytes_after
after_same bytes {n} {xs} {ys} h = go (eqb n 0) refl
  where
    go : (t : Bool) → eqb n 0 ≡ t → (if t then encode 8 xs else bytes) ≡ (if t then encode 8 ys else bytes)
    go true e = ap (encode 8) (h (eqb-true n 0 e))
    go false e = refl

-- a call with no output leaves none
pub no_bytes : (n : ℕ) → [] ≡ bytes_after n [] []
unfolding bytes_after encode
no_bytes n = go (eqb n 0)
  where
    go : (t : Bool) → ◌≡◌ {A = List ℕ} [] (if t then [] else [])
    go true = refl
    go false = refl
