-- The classes of hours as code has them. Assumes nothing.
use Rattle.std.specs.Prelude.{ℕ}
use Rattle.record.specs.Hours.{off_peak, normal, peak}
use Rattle.hours.specs.declared.HourClass.{HourClass}
use Rattle.hours.specs.declared.HourClass.TheVariants.{OffPeak, Normal, Peak}

-- the number by which the rules know a class
abbrev pub number_of : HourClass → ℕ
number_of OffPeak = off_peak
number_of Normal = normal
number_of Peak = peak

-- the numbers of the record that a class has: of bank, pending and open
abbrev pub class_numbers : ℕ
class_numbers = 32
