-- Document 01, "The record": numbers as bytes, low byte first, k bytes a number. Assumes nothing.
use Rattle.std.specs.Prelude.{ℕ, zero, suc, ◌+◌, ◌*◌, ◌/◌, ◌%◌, List, [], ◌∷◌, ◌++◌, take, drop}

-- the number of a list of bytes
unfoldable pub number : List ℕ → ℕ
number [] = 0
number (b ∷ bs) = b + 256 * number bs

-- the k low bytes of a number
unfoldable pub bytes : ℕ → ℕ → List ℕ
bytes zero n = []
bytes (suc k) n = n % 256 ∷ bytes k (n / 256)

unfoldable pub encode : ℕ → List ℕ → List ℕ
encode k [] = []
encode k (w ∷ ws) = bytes k w ++ encode k ws

-- the first n numbers of the bytes s, each of k bytes, as `of` reads one
unfoldable pub decode_as : {X : Type 0} → (List ℕ → X) → ℕ → ℕ → List ℕ → List X
decode_as of k zero s = []
decode_as of k (suc n) s = of (take k s) ∷ decode_as of k n (drop k s)

-- the first n numbers of the bytes s
abbrev pub decode : ℕ → ℕ → List ℕ → List ℕ
decode k n s = decode_as number k n s
