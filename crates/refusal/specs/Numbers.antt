-- The numbers on the display: 1 to 17 and 19 of the refusals, 0 where nothing is refused. 18 is of a request that is not taken up yet.
use Rattle.std.specs.Prelude.{ℕ, Result, Ok, Err}
use Rattle.refusal.specs.declared.Refusal.{Refusal}
use Rattle.refusal.specs.declared.Refusal.TheVariants.{NotSound, WrongSize, WrongKind, WrongCapacity, WrongLink, WrongTerms, NotLinked, OverCapacity, WrongRank, ReadingTooHigh, MonthFull, UnitFull, MonthEmpty, WrongNames, WrongLine, NoRoom, BothIncomplete, WrongSwitchMonth}

abbrev pub number_of : Refusal → ℕ
number_of NotSound = 1
number_of WrongSize = 2
number_of WrongKind = 3
number_of WrongCapacity = 4
number_of WrongLink = 5
number_of WrongTerms = 6
number_of NotLinked = 7
number_of OverCapacity = 8
number_of WrongRank = 9
number_of ReadingTooHigh = 10
number_of MonthFull = 11
number_of UnitFull = 12
number_of MonthEmpty = 13
number_of WrongNames = 14
number_of WrongLine = 15
number_of NoRoom = 16
number_of BothIncomplete = 17
number_of WrongSwitchMonth = 19

abbrev pub shown : {A : Type 0} → Result A Refusal → ℕ
shown (Ok a) = 0
shown (Err r) = number_of r
