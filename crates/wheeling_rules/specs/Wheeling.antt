-- Document 01, "The record": the C calls over byte slices. Inputs have 4 bytes a number, outputs and record 8, low byte first. Each call
-- is the call on the record and the numbers that the bytes hold: its number and every byte that it leaves follow from them. Assumes nothing.
use Rattle.std.specs.Prelude.{ℕ, ◌/◌, ◌%◌, List, [], ◌≡◌, eqb, length, if◌then◌else◌}
use Rattle.lists.specs.Tables.{table}
use Rattle.codec.specs.Bytes.{decode}
use Rattle.record.specs.RecordWords.{words}
use Rattle.record.specs.Stored.{stored}
use Rattle.record.specs.Called.{Rule, number_on}
use Rattle.record_layout.specs.OnBytes.{record_in, bytes_after, book_in}
use Rattle.agreement_rules.specs.Opening.{Opening, asked}
use Rattle.agreement_rules.specs.OpenedOn.{OpenedOn}
use Rattle.agreement_rules.specs.Schedule.{schedule_rule}
use Rattle.block_rules.specs.Block.{block_rule}
use Rattle.closing_rules.specs.Closing.{closing_rule}
use Rattle.record_places.specs.RecordSize.{record_bytes}

-- The numbers in the bytes, w bytes each. Bytes that are no whole count of numbers are refused as a wrong length is: they are read as a
-- list of a length that no agreement takes.
unfoldable pub numbers_in : ℕ → List ℕ → List ℕ
numbers_in w bytes = if eqb (length bytes % w) 0 then decode w (length bytes / w) bytes else table 1_000 (λ i. 0)

-- The call by the rule on the record that the bytes hold, with the output's bytes lent, returned the number and left bytes' and lent'. A
-- refused call leaves every byte as it was.
pub record ByRule (rule : Rule) (bytes lent : List ℕ) (number : ℕ) (bytes' lent' : List ℕ) : Type 0 where
  pub number_is : number ≡ number_on rule (record_in bytes)
  pub record_is : bytes' ≡ bytes_after number (words (stored (rule.after (book_in bytes)))) bytes
  pub output_is : lent' ≡ bytes_after number (rule.output (book_in bytes)) lent

-- A call on any bytes: where the record has another length it returns the refusal and changes nothing.
pub record OnBytes (refusal : ℕ) (Whole : Type 0) (bytes lent : List ℕ) (number : ℕ) (bytes' lent' : List ℕ) : Type 0 where
  pub whole : length bytes ≡ record_bytes → Whole
  pub other : (length bytes ≡ record_bytes → ⊥) → (number ≡ refusal) × ((bytes' ≡ bytes) × (lent' ≡ lent))

-- What the four calls ensure. Opening and schedule have no output.

-- the arguments of opening, its two lists as bytes
abbrev pub opening_in : (G C rate cycle gone switch : ℕ) (generators pairs : List ℕ) → Opening
opening_in G C rate cycle gone switch generators pairs = asked G C rate cycle gone switch (numbers_in 4 generators) (numbers_in 4 pairs)

abbrev pub ByteOpened : Opening → List ℕ → ℕ → List ℕ → Type 0
ByteOpened o bytes number bytes' = OnBytes 2 (OpenedOn o bytes number bytes') bytes [] number bytes' []

-- a call by a rule, with refusal 1 where the record has another length
abbrev pub CalledOnBytes : (rule : Rule) (bytes lent : List ℕ) (number : ℕ) (bytes' lent' : List ℕ) → Type 0
CalledOnBytes rule bytes lent number bytes' lent' = OnBytes 1 (ByRule rule bytes lent number bytes' lent') bytes lent number bytes' lent'

abbrev pub ByteScheduled : (bytes kws ranks : List ℕ) → ℕ → List ℕ → Type 0
ByteScheduled bytes kws ranks number bytes' = CalledOnBytes (schedule_rule (numbers_in 4 kws) (numbers_in 4 ranks)) bytes [] number bytes' []

abbrev pub ByteBlocked : (bytes entry exit lent : List ℕ) → ℕ → (bytes' lent' : List ℕ) → Type 0
ByteBlocked bytes entry exit lent = CalledOnBytes (block_rule (numbers_in 4 entry) (numbers_in 4 exit) (length (numbers_in 8 lent))) bytes lent

abbrev pub ByteClosed : (bytes lent : List ℕ) → ℕ → (bytes' lent' : List ℕ) → Type 0
ByteClosed bytes lent = CalledOnBytes (closing_rule (length (numbers_in 8 lent))) bytes lent
