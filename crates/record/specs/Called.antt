-- A call on a stored record. The contracts of schedule, block and closing cite `Called`, and so does the trace of demand 3.
-- Assumes nothing.
use Rattle.std.specs.Prelude.{ℕ, List, ◌≡◌, eqb, if◌then◌else◌}
use Rattle.record.specs.Book.{Book}
use Rattle.record.specs.Stored.{figures, stored}
use Rattle.record.specs.Sound.{sound}
use Rattle.record.specs.declared.Record.{Record}

-- What document 01 says of one call: its refusal on the book's figures (a number other than 1, or 0), and what it makes of them
-- and gives where it is accepted.
pub record Rule : Type 0 where
  pub refusal : Book → ℕ
  pub after : Book → Book
  pub output : Book → List ℕ

-- the number on the display: 1 where the record is not sound, otherwise the call's own
unfoldable pub number_on : Rule → Record → ℕ
number_on rule r = if sound (figures r) then rule.refusal (figures r) else 1

unfoldable pub record_after : Rule → Record → Record
record_after rule r = if eqb (number_on rule r) 0 then stored (rule.after (figures r)) else r

unfoldable pub output_after : Rule → Record → List ℕ → List ℕ
output_after rule r lent = if eqb (number_on rule r) 0 then rule.output (figures r) else lent

-- The call by the rule, on record r with the output slice lent, gave the number, the record r', and left out' in the slice.
-- A refused call changes neither record nor output.
pub record Called (rule : Rule) (r : Record) (lent : List ℕ) (number : ℕ) (r' : Record) (out' : List ℕ) : Type 0 where
  pub number_is : number ≡ number_on rule r
  pub record_is : r' ≡ record_after rule r
  pub output_is : out' ≡ output_after rule r lent
