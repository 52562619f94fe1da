-- Document 02, F-1, over byte slices: the days as lists of 4 bytes a number, an output of two numbers of 8 bytes. Assumes nothing.
use Rattle.std.specs.Prelude.{ℕ, List, [], ◌∷◌, ◌≡◌, eqb, length, if◌then◌else◌}
use Rattle.check_meter.specs.CheckMeter.{incomplete, blocks_apart, day_number}
use Rattle.record_layout.specs.OnBytes.{bytes_after}

abbrev pub day_output_bytes : ℕ
day_output_bytes = 16

-- The meter whose readings are to be used: the main meter, 0, if none is missing there, otherwise the check meter, 1.
unfoldable pub meter_to_use : (main : List ℕ) → ℕ
meter_to_use main = if incomplete main then 1 else 0

-- The call on the days main and check, with the output's bytes lent, returned the number and left the bytes lent'. An output of another
-- length is refused as a day of another length is. A refused call leaves every byte as it was.
pub record ByteDay (main check : List ℕ) (tolerance : ℕ) (lent : List ℕ) (number : ℕ) (lent' : List ℕ) : Type 0 where
  pub number_is : number ≡ (if eqb (length lent) day_output_bytes then day_number main check else 2)
  pub output_is : lent' ≡ bytes_after number (meter_to_use main ∷ blocks_apart tolerance main check ∷ []) lent
