-- A call on the record that bytes hold. Assumes nothing.
use Rattle.std.specs.Prelude.{ℕ, List, ◌≡◌, eqb, if◌then◌else◌}
use Rattle.codec.specs.Bytes.{encode}
use Rattle.record_places.specs.RecordSize.{words_in}
use Rattle.record.specs.RecordWords.{words, record_of}
use Rattle.record.specs.Plan.{Plan}
use Rattle.record.specs.Book.{Book}
use Rattle.record.specs.Stored.{plan_of, figures, stored}
use Rattle.record.specs.Called.{Rule, number_on, output_after}
use Rattle.record.specs.declared.Record.{Record}

-- the record that bytes hold, its plan and its figures
abbrev pub record_in : List ℕ → Record
record_in bytes = record_of (words_in bytes)

abbrev pub plan_in : List ℕ → Plan
plan_in bytes = plan_of (record_in bytes)

abbrev pub book_in : List ℕ → Book
book_in bytes = figures (record_in bytes)

-- the bytes after a call: the numbers that it gave where it was accepted, else as they were
unfoldable pub bytes_after : (number : ℕ) (given bytes : List ℕ) → List ℕ
bytes_after number given bytes = if eqb number 0 then encode 8 given else bytes

-- The call by the rule on the record that the bytes hold, with the output slice lent, returned the number and left bytes' and out'.
pub record CalledOn (rule : Rule) (bytes lent : List ℕ) (number : ℕ) (bytes' out' : List ℕ) : Type 0 where
  pub number_is : number ≡ number_on rule (record_in bytes)
  pub record_is : bytes' ≡ bytes_after number (words (stored (rule.after (book_in bytes)))) bytes
  pub output_is : out' ≡ output_after rule (record_in bytes) lent
