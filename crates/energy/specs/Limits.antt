-- The limits of an agreement, a schedule, a reading and a unit's life, each once; those of the readings table stand with its rules. Assumes
-- nothing.
use Rattle.std.specs.Prelude.{ℕ}

abbrev pub most_generators : ℕ
most_generators = 8

abbrev pub most_consumers : ℕ
most_consumers = 16

-- kinds are 0 scheduled, 1 wind, 2 mini-hydel, 3 solar
abbrev pub last_kind : ℕ
last_kind = 3

-- installed and contracted kW, each
abbrev pub most_capacity : ℕ
most_capacity = 400_000

-- loss of a pair and charge rate of the bank, in hundredths of a percent
abbrev pub most_loss : ℕ
most_loss = 5_000

abbrev pub most_rate : ℕ
most_rate = 5_000

-- months of a cycle
abbrev pub most_cycle : ℕ
most_cycle = 12

abbrev pub most_rank : ℕ
most_rank = 255

-- Wh in one reading
abbrev pub most_reading : ℕ
most_reading = 200_000_000

-- blocks in one month, and in the life of a unit
abbrev pub most_month_blocks : ℕ
most_month_blocks = 3_360

abbrev pub most_unit_blocks : ℕ
most_unit_blocks = 10_000_000

-- the latest switch month of the bank by hours (F-7): a century of closings
abbrev pub most_switch : ℕ
most_switch = 1_200

-- Wh that one place meters in the life of a unit: most_reading in each of most_unit_blocks blocks. No figure of a sound record is more.
abbrev pub most_figure : ℕ
most_figure = 2_000_000_000_000_000
