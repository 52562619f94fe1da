-- The reader's own view of the value lines: one byte after the other, with how far the value at hand has come. Assumes nothing.
use Rattle.std.specs.Prelude.{Bool, false, List, [], ◌∷◌, ℕ, ◌+◌, ◌-◌, ◌*◌, ◌%◌, leb, eqb, if◌then◌else◌}
use Rattle.table_text.specs.TableText.{separator_after}
use Rattle.table_scan.specs.Values.{is_digit, largest}
use Rattle.table_scan.specs.declared.Progress.{Progress}
use Rattle.table_scan.specs.declared.Progress.TheVariants.{Start, Digits, Malformed}

-- the digit d after digits that make n: none after a leading zero, and none that makes the value too large
abbrev pub add_digit : ℕ → ℕ → Progress
add_digit n d = if eqb n 0 then Malformed else if leb (n * 10 + d) largest then Digits (n * 10 + d) else Malformed

-- a value begins with the byte b
abbrev pub first_byte : ℕ → Progress
first_byte b = if is_digit b then Digits (b - 48) else Malformed

-- the byte b after digits that make n, where the separator due is sep
abbrev pub later_byte : ℕ → ℕ → ℕ → Progress
later_byte n b sep = if is_digit b then add_digit n (b - 48) else if eqb b sep then Start else Malformed

abbrev pub next_byte : Progress → ℕ → ℕ → Progress
next_byte Start b sep = first_byte b
next_byte (Digits n) b sep = later_byte n b sep
next_byte Malformed b sep = Malformed

-- how many values the byte b ends
unfoldable pub values_ended : ℕ → ℕ
values_ended b = if is_digit b then 0 else 1

-- the text may end after k values
abbrev pub whole_lines : ℕ → ℕ → Progress → Bool
whole_lines w k Start = eqb (k % w) 0
whole_lines w k (Digits n) = false
whole_lines w k Malformed = false

-- the bytes s, after k values and at the progress at, go on to the end of whole lines
unfoldable pub scan : ℕ → ℕ → Progress → List ℕ → Bool
scan w k at [] = whole_lines w k at
scan w k at (b ∷ s) = scan w (k + values_ended b) (next_byte at b (separator_after w k)) s

abbrev pub value_so_far : Progress → ℕ
value_so_far Start = 0
value_so_far (Digits n) = n
value_so_far Malformed = 0
