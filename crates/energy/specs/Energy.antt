-- Energy in whole watt-hours, capacity in kW, and a rate taken of an energy. Assumes nothing.
use Rattle.std.specs.Prelude.{ℕ, ◌+◌, ◌-◌, ◌*◌, ◌/◌}

-- The quarter-hour rule, the only way from kW to Wh: 1 kW is 250 Wh a block (8.1 read with 2(g)).
abbrev pub quarter_hour : ℕ → ℕ
quarter_hour kw = 250 * kw

-- Step 1 of a closing: the bank's charge on x, hundredths of a percent of it, rounded up.
unfoldable pub portion_up : ℕ → ℕ → ℕ
portion_up x rate = (x * rate + 9_999) / 10_000

-- Rule 3: the loss on x at the rate of a pair, hundredths of a percent of x "to the nearest watt-hour, halves up" (document 02, F-3).
unfoldable pub loss_on : ℕ → ℕ → ℕ
loss_on x rate = (x * rate + 5_000) / 10_000

-- what arrives of x
abbrev pub after_loss : ℕ → ℕ → ℕ
after_loss x rate = x - loss_on x rate
