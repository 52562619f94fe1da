-- What opening on a record's bytes ensures. Assumes nothing.
use Rattle.std.specs.Prelude.{ℕ, List, ◌≡◌}
use Rattle.record.specs.RecordWords.{words}
use Rattle.record.specs.Stored.{stored}
use Rattle.record_layout.specs.OnBytes.{bytes_after}
use Rattle.agreement_rules.specs.Opening.{Opening, opening_refusal, opened}

-- The opening returned the number and left bytes': the first record's, or the bytes as they were where it was refused.
pub record OpenedOn (o : Opening) (bytes : List ℕ) (number : ℕ) (bytes' : List ℕ) : Type 0 where
  pub number_is : number ≡ opening_refusal o
  pub record_is : bytes' ≡ bytes_after number (words (stored (opened o))) bytes
