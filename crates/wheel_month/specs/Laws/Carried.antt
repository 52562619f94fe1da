-- What the calls of a list made of a record. Assumes nothing.
use Rattle.std.specs.Prelude.{ℕ, ◌≡◌, true, List, length}
use Rattle.record.specs.Book.{Book}
use Rattle.record.specs.Stored.{figures}
use Rattle.record.specs.Sound.{sound}
use Rattle.record.specs.declared.Record.{Record}
use Rattle.record.specs.declared.Answer.{Answer}
use Rattle.record_layout.specs.OnBytes.{book_in, record_in}
use Rattle.book.specs.BookCalls.{Call, book_after, book_answers}
use Rattle.wheel_rules.specs.Display.{first_refused}
use Rattle.record_places.specs.RecordSize.{record_bytes}

-- r is a sound record that holds the figures of b
pub record Holds (r : Record) (b : Book) : Type 0 where
  pub is : figures r ≡ b
  pub sound_is : sound b ≡ true

-- The calls ks were made on a record that held b's figures, up to the first that was refused: the answer has its number; where
-- none was refused, its record holds the book after all of them.
pub record Carried (b : Book) (ks : List Call) (a : Answer) : Type 0 where
  pub number_is : a.number ≡ first_refused (book_answers b ks)
  pub holds : a.number ≡ 0 → Holds a.after (book_after b ks)

-- ---- on the record's bytes

-- the bytes hold a sound record
pub record Ready (bytes : List ℕ) : Type 0 where
  pub whole : length bytes ≡ record_bytes
  pub sound_is : sound (book_in bytes) ≡ true

-- the number that was returned, and the record that was left in the bytes
abbrev pub answered : ℕ → List ℕ → Answer
answered number bytes = record { number = number; after = record_in bytes }
