-- A list of C calls on a unit, each on the record's bytes that the one before it left. Assumes nothing.
use Rattle.std.specs.Prelude.{ℕ, List, [], ◌∷◌, ◌≡◌}
use Rattle.book.specs.Trace.{Ask, ask_schedule, ask_block, ask_closing, Given}
use Rattle.record_layout.specs.OnBytes.{record_in}
use Rattle.wheeling_rules.specs.Wheeling.{numbers_in, ByteScheduled, ByteBlocked, ByteClosed}

-- the arguments of a call, with the output's bytes as they are lent
pub data ByteAsk : Type 0 where
  byte_schedule : (kws ranks : List ℕ) → ByteAsk
  byte_block : (entry exit lent : List ℕ) → ByteAsk
  byte_closing : (lent : List ℕ) → ByteAsk

-- the numbers that they hold
unfoldable pub ask_in : ByteAsk → Ask
ask_in (byte_schedule kws ranks) = ask_schedule (numbers_in 4 kws) (numbers_in 4 ranks)
ask_in (byte_block entry exit lent) = ask_block (numbers_in 4 entry) (numbers_in 4 exit) (numbers_in 8 lent)
ask_in (byte_closing lent) = ask_closing (numbers_in 8 lent)

unfoldable pub bytes_lent : ByteAsk → List ℕ
bytes_lent (byte_schedule kws ranks) = []
bytes_lent (byte_block entry exit lent) = lent
bytes_lent (byte_closing lent) = lent

-- what a call gave: the number it returned, and the bytes that it left of the record and of the output
pub record ByteGiven : Type 0 where
  pub number : ℕ
  pub bytes : List ℕ
  pub out : List ℕ

unfoldable pub given_in : ByteGiven → Given
given_in w = record { answer = record { number = w.number; after = record_in w.bytes }; out = numbers_in 8 w.out }

-- the call meets its contract: these are the predicates that the contracts of the C calls cite
unfoldable pub ByteDone : List ℕ → ByteAsk → ByteGiven → Type 0
ByteDone s (byte_schedule kws ranks) w = ByteScheduled s kws ranks w.number w.bytes × (w.out ≡ [])
ByteDone s (byte_block entry exit lent) w = ByteBlocked s entry exit lent w.number w.bytes w.out
ByteDone s (byte_closing lent) w = ByteClosed s lent w.number w.bytes w.out

pub data ByteTrace : List ℕ → List ByteAsk → List ByteGiven → Type 0 where
  bytes_none : {s : List ℕ} → ByteTrace s [] []
  bytes_one : {s : List ℕ} {a : ByteAsk} {w : ByteGiven} {as' : List ByteAsk} {ws : List ByteGiven} → ByteDone s a w → ByteTrace w.bytes as' ws → ByteTrace s (a ∷ as') (w ∷ ws)

-- the record's bytes that the last call left
unfoldable pub last_bytes : List ℕ → List ByteGiven → List ℕ
last_bytes s [] = s
last_bytes s (w ∷ ws) = last_bytes w.bytes ws
