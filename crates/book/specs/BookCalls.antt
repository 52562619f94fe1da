-- Document 01, "The book": a list of calls on the book's own figures. Assumes nothing.
use Rattle.std.specs.Prelude.{ℕ, List, [], ◌∷◌, eqb, if◌then◌else◌}
use Rattle.record.specs.Book.{Book}
use Rattle.record.specs.Called.{Rule}
use Rattle.agreement_rules.specs.Schedule.{schedule_rule}
use Rattle.block_rules.specs.Block.{block_rule}
use Rattle.closing_rules.specs.Closing.{closing_rule}

-- What the book is fed of a call: its inputs and the length of its output, nothing that the unit's record or outputs hold.
pub data Call : Type 0 where
  schedule : (kws ranks : List ℕ) → Call
  block : (entry exit : List ℕ) (size : ℕ) → Call
  closing : (size : ℕ) → Call

unfoldable pub rule_of : Call → Rule
rule_of (schedule kws ranks) = schedule_rule kws ranks
rule_of (block entry exit size) = block_rule entry exit size
rule_of (closing size) = closing_rule size

-- A refused call changes nothing in the book; any other does what its rule says on the book's own figures.
unfoldable pub next : Book → Call → Book
next b k = if eqb ((rule_of k).refusal b) 0 then (rule_of k).after b else b

-- the book after a list of calls
unfoldable pub book_after : Book → List Call → Book
book_after b [] = b
book_after b (k ∷ ks) = book_after (next b k) ks

-- what the book answers: 0 or a refusal number other than 1, and the output of an accepted call
pub record BookAnswer : Type 0 where
  pub number : ℕ
  pub output : List ℕ

unfoldable pub book_answers : Book → List Call → List BookAnswer
book_answers b [] = []
book_answers b (k ∷ ks) = record { number = (rule_of k).refusal b; output = (rule_of k).output b } ∷ book_answers (next b k) ks
