-- The readings table (document 01): what reading a text gives. How a table is written: TableText of the crate table_text.
-- The digits and the limit of a value: Values of the crate table_scan.
-- A text is its list of bytes; places count from 0. Assumes nothing.
use Rattle.std.specs.Prelude.{◌≡◌, Bool, true, false, not, ◌&&◌, List, [], ◌∷◌, ◌++◌, ℕ, ◌+◌, ◌-◌, ◌*◌, ◌/◌, ◌%◌, length, take, drop, leb, ltb, eqb, if◌then◌else◌, Result, IfOk}
use Rattle.lists.specs.Tests.{within}
use Rattle.lists.specs.Refusals.{first_of}
use Rattle.table_text.specs.TableText.{printed, names_line}
use Rattle.table_scan.specs.Values.{is_digit, largest}
use Rattle.refusal.specs.declared.Refusal.{Refusal}
use Rattle.refusal.specs.Numbers.{shown}

-- ---- The parts of a text

-- 'The reader takes G, C': G generators, 1 to 8; C consumers, 1 to 16
unfoldable pub in_range : ℕ → ℕ → Bool
in_range g c = within 1 8 g && within 1 16 c

-- Two texts are byte for byte the same
unfoldable pub same : List ℕ → List ℕ → Bool
same [] [] = true
same [] (b ∷ t) = false
same (a ∷ s) [] = false
same (a ∷ s) (b ∷ t) = eqb a b && same s t

-- The text starts with the names line, its line feed included: a text that ends before that line feed does not
unfoldable pub starts_with_names : ℕ → ℕ → List ℕ → Bool
starts_with_names g c text = same (names_line g c) (take (length (names_line g c)) text)

-- The later lines: what stands after the names line
unfoldable pub later_lines : ℕ → ℕ → List ℕ → List ℕ
later_lines g c text = drop (length (names_line g c)) text

-- The numbers in a text, where n is what its digits made so far (0 at the start).
-- A digit goes on with the number, any other byte ends it; digits at the end of the text make no number.
unfoldable pub numbers : ℕ → List ℕ → List ℕ
numbers n [] = []
numbers n (b ∷ s) = (if is_digit b then [] else n ∷ []) ++ numbers (if is_digit b then n * 10 + (b - 48) else 0) s

-- The values of a table, line after line
unfoldable pub values : ℕ → ℕ → List ℕ → List ℕ
values g c text = numbers 0 (later_lines g c text)

-- ---- Well formed lines

unfoldable pub all_fit : List ℕ → Bool
all_fit [] = true
all_fit (v ∷ vs) = leb v largest && all_fit vs

-- 'any count of lines of G + C values', here w values a line. `printed` is the one way to write values: digits without a
-- leading zero, except 0 itself, commas between them, one line feed at the end of each line. So the lines are well formed where
-- writing their numbers gives them again, byte for byte, each number fits, and the last line has all its values.
-- A leading zero, an empty value, a carriage return, a blank line, a line with too few or too many values and a last line
-- without its line feed are all malformed.
unfoldable pub well_formed : ℕ → List ℕ → Bool
well_formed w lines = same lines (printed w 0 (numbers 0 lines)) && (all_fit (numbers 0 lines) && eqb (length (numbers 0 lines) % w) 0)

-- ---- What a call gives

-- The number on the display, 0 where the text is accepted; room is the length of the output.
-- In one call the lowest number that applies is returned:
--   2  G or C outside range
--   14 names line differs (also where it is cut short or its line feed is missing)
--   15 a later line is malformed
--   16 values exceed the output
unfoldable pub read_number : ℕ → ℕ → List ℕ → ℕ → ℕ
read_number g c text room =
    first_of
    ((2, not (in_range g c))
    ∷ (14, not (starts_with_names g c text))
    ∷ (15, not (well_formed (g + c) (later_lines g c text)))
    ∷ (16, ltb room (length (values g c text)))
    ∷ [])

-- 'the number of value lines, the names line not counted'
abbrev pub line_count : ℕ → ℕ → List ℕ → ℕ
line_count g c text = length (values g c text) / (g + c)

-- 'writes the values from the start, leaves the rest'
unfoldable pub from_start : List ℕ → List ℕ → List ℕ
from_start vs out = vs ++ drop (length vs) out

-- The output after the call: a refusal leaves it unchanged
unfoldable pub read_output : ℕ → ℕ → List ℕ → List ℕ → List ℕ
read_output g c text out = if eqb (read_number g c text (length out)) 0 then from_start (values g c text) out else out

-- A call of the reader on out gave the answer r and left last in its place. No two refusals have one number, and none has 0: so the
-- number and the lines say which answer it is (`one_answer` in Laws/ReadMeetsLaws).
pub record ReadMeets (g c : ℕ) (text out : List ℕ) (r : Result ℕ Refusal) (last : List ℕ) : Type 0 where
  pub number : shown r ≡ read_number g c text (length out)
  pub lines : IfOk r (λ k. k ≡ line_count g c text)
  pub output : last ≡ read_output g c text out
