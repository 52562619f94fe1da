-- What the code hands to the calls on numbers. Assumes nothing.
use Rattle.std.specs.Prelude.{ℕ, ◌*◌, ◌≤◌, ◌<◌, List, ◌⊎◌, ◌≡◌, length, take}
use Rattle.record_layout.specs.OnBytes.{bytes_after}
use Rattle.wheeling_rules.specs.Wheeling.{numbers_in}

-- the same, or both k or more: no call tells them apart where it takes fewer than k
abbrev pub AlikeSize : (k n m : ℕ) → Type 0
AlikeSize k n m = (n ≡ m) ⊎ ((k ≤ n) × (k ≤ m))

abbrev pub Alike : (k : ℕ) (xs ys : List ℕ) → Type 0
Alike k xs ys = (xs ≡ ys) ⊎ ((k ≤ length xs) × (k ≤ length ys))

-- the first n of the k numbers out stand for the numbers ys
pub record Taken (ys : List ℕ) (k n : ℕ) (out : List ℕ) : Type 0 where
  pub within : n ≤ k
  pub size : length out ≡ k
  pub alike : Alike k (take n out) ys

-- the output's bytes have room for n numbers, or more than any agreement takes
pub record Room (lent : List ℕ) (k n : ℕ) : Type 0 where
  pub within : n ≤ k
  pub fits : n < k → length lent ≡ 8 * n
  pub alike : AlikeSize k n (length (numbers_in 8 lent))

-- the output of a call is written where it is accepted
pub record Written (refusal : ℕ) (out lent : List ℕ) (number : ℕ) (lent' : List ℕ) : Type 0 where
  pub number_is : number ≡ refusal
  pub output_is : lent' ≡ bytes_after refusal out lent
