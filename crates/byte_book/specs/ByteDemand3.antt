-- Demand 3 over every list of C calls on a newly opened unit. Assumes nothing.
use Rattle.std.specs.Prelude.{ℕ, List, [], ◌∷◌, map, ◌≡◌, length, take}
use Rattle.codec.specs.Bytes.{encode}
use Rattle.record.specs.Stored.{stored}
use Rattle.record.specs.RecordWords.{words}
use Rattle.agreement_rules.specs.Opening.{Opening, opened, Permitted}
use Rattle.book.specs.BookCalls.{Call, book_after, BookAnswer, book_answers}
use Rattle.book.specs.Trace.{call_of}
use Rattle.book.specs.Demand3.{Demand3}
use Rattle.record_layout.specs.OnBytes.{record_in, bytes_after}
use Rattle.wheeling_rules.specs.Wheeling.{opening_in, ByteOpened}
use Rattle.byte_book.specs.ByteTrace.{ByteAsk, ask_in, bytes_lent, ByteGiven, given_in, ByteTrace, last_bytes}
use Rattle.record_places.specs.RecordSize.{record_bytes}

-- The number is the book's. The output's bytes are those of the book's output where the call was accepted, else as they were lent.
pub record ByteMatch (a : ByteAsk) (w : ByteGiven) (e : BookAnswer) : Type 0 where
  pub number_is : w.number ≡ e.number
  pub output_is : w.out ≡ bytes_after e.number e.output (bytes_lent a)

pub data ByteMatches : List ByteAsk → List ByteGiven → List BookAnswer → Type 0 where
  match_none : ByteMatches [] [] []
  match_one : {a : ByteAsk} {w : ByteGiven} {e : BookAnswer} {as' : List ByteAsk} {ws : List ByteGiven} {es : List BookAnswer} → ByteMatch a w e → ByteMatches as' ws es → ByteMatches (a ∷ as') (w ∷ ws) (e ∷ es)

-- what the book is fed of the calls
abbrev pub calls_in : List ByteAsk → List Call
calls_in asks = map call_of (map ask_in asks)

-- What demand 3 says of a list of C calls and of what they gave, on the bytes s of the record that the last of them left.
pub record ByteDemand3 (o : Opening) (asks : List ByteAsk) (ws : List ByteGiven) (s : List ℕ) : Type 0 where
  pub answers : ByteMatches asks ws (book_answers (opened o) (calls_in asks))
  -- the record's bytes are those of the book's figures
  pub bytes_are : s ≡ encode 8 (words (stored (book_after (opened o) (calls_in asks))))
  -- all of demand 3 holds of the numbers that the bytes hold
  pub numbers : Demand3 o (map ask_in asks) (map given_in ws) (record_in s)

-- The one claim. Every opening to which no refusal number applies is accepted, whatever the record's 6,536 bytes held before it. For
-- every list of calls on the bytes that it left, refused calls included, demand 3 holds after the whole list and after every first n
-- calls of it.
abbrev pub ByteClaim : Type 0
ByteClaim =
    (G C rate cycle gone switch : ℕ) (generators pairs : List ℕ) →
    let o = opening_in G C rate cycle gone switch generators pairs in
    Permitted o →
    (before : List ℕ) → length before ≡ record_bytes →
    (number : ℕ) (s₀ : List ℕ) → ByteOpened o before number s₀ →
    (number ≡ 0) ×
    ((asks : List ByteAsk) (ws : List ByteGiven) → ByteTrace s₀ asks ws →
    ByteDemand3 o asks ws (last_bytes s₀ ws) ×
    ((n : ℕ) → ByteDemand3 o (take n asks) (take n ws) (last_bytes s₀ (take n ws))))
