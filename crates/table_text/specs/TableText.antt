-- The one written form of a readings table (document 01, 'Readings table'), as a list of bytes. Assumes nothing.
use Rattle.std.specs.Prelude.{ℕ, zero, suc, ◌+◌, ◌-◌, ◌/◌, ◌%◌, List, [], ◌∷◌, ◌++◌, ltb, eqb, if◌then◌else◌}

-- The digits of n in base 10, at most k of them; byte 48 is the digit 0.
-- No leading zero, except 0 itself: what stands before the last digit is left out where n is below 10.
unfoldable pub digits : ℕ → ℕ → List ℕ
digits zero n = []
digits (suc k) n = (if ltb n 10 then [] else digits k (n / 10)) ++ ((48 + n % 10) ∷ [])

-- A number as it is written: none has more than 64 bits, so twenty digits are enough
unfoldable pub decimal : ℕ → List ℕ
decimal n = digits 20 n

-- What follows place i, counted from 0 on through all lines of w places: the line feed (10) that ends a line, or a comma (44)
unfoldable pub separator_after : ℕ → ℕ → ℕ
separator_after w i = if eqb ((i + 1) % w) 0 then 10 else 44

-- The value lines: the values vs, w to a line, where the first of vs stands at place i
unfoldable pub printed : ℕ → ℕ → List ℕ → List ℕ
printed w i [] = []
printed w i (v ∷ vs) = decimal v ++ (separator_after w i ∷ printed w (i + 1) vs)

-- The name of place i of a line: E1 to EG for the g generators (69 is E), then R1 to RC for the consumers (82 is R)
unfoldable pub name : ℕ → ℕ → List ℕ
name g i = if ltb i g then 69 ∷ decimal (i + 1) else 82 ∷ decimal (i - g + 1)

-- The first n names of a line of w places, each with what follows it
unfoldable pub names : ℕ → ℕ → ℕ → List ℕ
names g w zero = []
names g w (suc n) = names g w n ++ (name g n ++ (separator_after w n ∷ []))

-- The names line: names E1 to EG, R1 to RC with commas, and its line feed
unfoldable pub names_line : ℕ → ℕ → List ℕ
names_line g c = names g (g + c) (g + c)

-- The table of the values vs: the names line, then lines of G + C values
unfoldable pub table_text : ℕ → ℕ → List ℕ → List ℕ
table_text g c vs = names_line g c ++ printed (g + c) 0 vs
