-- A list of calls on a unit, each on the record that the one before it left. Assumes nothing.
use Rattle.std.specs.Prelude.{ℕ, List, [], ◌∷◌, ◌≡◌, length}
use Rattle.record.specs.declared.Record.{Record}
use Rattle.record.specs.declared.Answer.{Answer}
use Rattle.agreement_rules.specs.Schedule.{Scheduled}
use Rattle.block_rules.specs.Block.{Blocked}
use Rattle.closing_rules.specs.Closing.{Closed}
use Rattle.book.specs.BookCalls.{Call, schedule, block, closing}

-- the arguments of a call, with the output slice as it is lent
pub data Ask : Type 0 where
  ask_schedule : (kws ranks : List ℕ) → Ask
  ask_block : (entry exit lent : List ℕ) → Ask
  ask_closing : (lent : List ℕ) → Ask

-- what the book is fed of it
unfoldable pub call_of : Ask → Call
call_of (ask_schedule kws ranks) = schedule kws ranks
call_of (ask_block entry exit lent) = block entry exit (length lent)
call_of (ask_closing lent) = closing (length lent)

unfoldable pub lent_of : Ask → List ℕ
lent_of (ask_schedule kws ranks) = []
lent_of (ask_block entry exit lent) = lent
lent_of (ask_closing lent) = lent

-- what a call gave: its answer, and what it left in the slice
pub record Given : Type 0 where
  pub answer : Answer
  pub out : List ℕ

-- the call meets its contract: these are the predicates that the contracts of schedule, block and closing cite
unfoldable pub Done : Record → Ask → Given → Type 0
Done r (ask_schedule kws ranks) w = Scheduled r kws ranks w.answer × (w.out ≡ [])
Done r (ask_block entry exit lent) w = Blocked r entry exit lent w.answer w.out
Done r (ask_closing lent) w = Closed r lent w.answer w.out

pub data Trace : Record → List Ask → List Given → Type 0 where
  trace_none : {r : Record} → Trace r [] []
  trace_one : {r : Record} {a : Ask} {w : Given} {as' : List Ask} {ws : List Given} → Done r a w → Trace w.answer.after as' ws → Trace r (a ∷ as') (w ∷ ws)

-- the record that the last call left
unfoldable pub last_record : Record → List Given → Record
last_record r [] = r
last_record r (w ∷ ws) = last_record w.answer.after ws
