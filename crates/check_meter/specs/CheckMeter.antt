-- Document 02, F-1: a day of readings from a main and a check meter on the same line. Assumes nothing.
use Rattle.std.specs.Prelude.{ℕ, ◌+◌, ◌-◌, ◌≡◌, Bool, ◌&&◌, ◌||◌, not, List, [], ◌∷◌, eqb, ltb, length, get_or, if◌then◌else◌}
use Rattle.std.specs.Borrow.{Bor}
use Rattle.lists.specs.Tests.{some}
use Rattle.lists.specs.Sums.{sum}
use Rattle.lists.specs.Refusals.{first_of}

-- the readings of a day, one for each block of 15 minutes
abbrev pub day_blocks : ℕ
day_blocks = 96

-- what marks a missing reading; any other number is a reading that is present
abbrev pub missing_mark : ℕ
missing_mark = 4_294_967_295

abbrev pub missing : ℕ → Bool
missing reading = eqb reading missing_mark

-- at least one reading of the day is missing
unfoldable pub incomplete : List ℕ → Bool
incomplete day = some (length day) (λ i. missing (get_or day i 0))

-- how far apart two readings are, whichever is larger: one of the two differences is 0
abbrev pub distance : ℕ → ℕ → ℕ
distance x y = (x - y) + (y - x)

-- both readings are present, and further apart than the tolerance
unfoldable pub further_apart : (tolerance x y : ℕ) → Bool
further_apart tolerance x y = not (missing x) && not (missing y) && ltb tolerance (distance x y)

-- how many blocks of the day are so
unfoldable pub blocks_apart : (tolerance : ℕ) (main check : List ℕ) → ℕ
blocks_apart tolerance main check = sum day_blocks (λ i. if further_apart tolerance (get_or main i 0) (get_or check i 0) then 1 else 0)

-- Refusals: 2, a day not of 96; 17, at least one reading missing in each of the two lists.
unfoldable pub day_number : (main check : List ℕ) → ℕ
day_number main check =
    first_of
    ((2, not (eqb (length main) day_blocks) || not (eqb (length check) day_blocks)) ∷
    (17, incomplete main && incomplete check) ∷
    [])

-- A stretch of readings (document 02's word): where in memory it starts, in which object and how far into it, and its readings.
pub record Stretch : Type 0 where
  pub start : ℕ × ℕ
  pub readings : List ℕ

-- the stretch that a slice lends
abbrev pub stretch_of : Bor (List ℕ) → Stretch
stretch_of slice = record { start = slice.ref_ptr; readings = slice.now }

-- the main meter's readings if none is missing there, otherwise the check meter's
unfoldable pub day_to_use : (main check : Stretch) → Stretch
day_to_use main check = if incomplete main.readings then check else main

abbrev pub empty_part : Stretch → Stretch
empty_part day = record { start = day.start; readings = [] }

-- What the call on the two days handed back: the number; the stretch, which is the caller's own and no copy, since it starts where a lent
-- one starts; and the count.
pub record DayHandedBack (main check : Stretch) (tolerance : ℕ) (day : Stretch) (number apart : ℕ) : Type 0 where
  pub number_is : number ≡ day_number main.readings check.readings
  pub day_is : day ≡ (if eqb number 0 then day_to_use main check else empty_part main)
  pub apart_is : apart ≡ (if eqb number 0 then blocks_apart tolerance main.readings check.readings else 0)
