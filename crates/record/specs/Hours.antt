-- Document 02, F-7, "Bank by hours": the classes of hours, the class of a block, and from when on they count. What document 02 calls the new
-- rules is the bank by hours. Assumes nothing.
use Rattle.std.specs.Prelude.{ℕ, ◌+◌, ◌%◌, Bool, ◌&&◌, ◌||◌, not, eqb, leb, if◌then◌else◌}
use Rattle.lists.specs.Tests.{within}

-- the classes, in the order in which they are settled and stored
abbrev pub off_peak : ℕ
off_peak = 0

abbrev pub normal : ℕ
normal = 1

abbrev pub peak : ℕ
peak = 2

abbrev pub classes : ℕ
classes = 3

-- the slot of the block that is entered where its month holds so many: each month begins at slot 1, and slots follow the blocks round
unfoldable pub slot_after : (monthblocks : ℕ) → ℕ
slot_after monthblocks = monthblocks % 96 + 1

-- slots 37 to 68 are off-peak, 21 to 36 and 77 to 92 peak, the rest normal
unfoldable pub class_of_slot : ℕ → ℕ
class_of_slot slot = if within 37 68 slot then off_peak else (if within 21 36 slot || within 77 92 slot then peak else normal)

-- The switch month is the number of the first closing by hours, counted from 1 at opening, 0 for never. After so many closings: whether the
-- next closing, and the blocks until then, go by hours.
unfoldable pub hours_apply : (switch closings : ℕ) → Bool
hours_apply switch closings = not (eqb switch 0) && leb switch (closings + 1)

-- whether the next closing is the one just before the switch month
unfoldable pub before_switch : (switch closings : ℕ) → Bool
before_switch switch closings = eqb (closings + 2) switch
