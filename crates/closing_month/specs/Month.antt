-- Document 01, "Closing a month": closing rests on the block account only through its published answer. What it takes up is what the
-- outputs of the month's accepted blocks gave, after every list of calls on a newly opened unit; by hours (document 02, F-7) it takes up of
-- each class what those of the blocks of that class gave. Assumes nothing.
use Rattle.std.specs.Prelude.{ℕ, ◌+◌, ◌*◌, ◌<◌, true, List, [], ◌∷◌, ◌≡◌, eqb, length, if◌then◌else◌}
use Rattle.lists.specs.Sums.{sum}
use Rattle.record.specs.Plan.{deemed_kind}
use Rattle.record.specs.Hours.{classes, slot_after, class_of_slot}
use Rattle.record.specs.Book.{Book, by_hours}
use Rattle.record.specs.Stored.{figures}
use Rattle.record.specs.declared.Record.{Record}
use Rattle.record.specs.declared.Answer.{Answer}
use Rattle.agreement_rules.specs.Opening.{Opening, kind_of, Opened, Permitted}
use Rattle.block.specs.BlockAnswer.{underdrawn_in, remainder_in}
use Rattle.closing_rules.specs.Closing.{stocks_of, taken_up, Closed}
use Rattle.book.specs.Trace.{Ask, ask_schedule, ask_block, ask_closing, Given, Trace, last_record}
use Rattle.book.specs.Demand3.{at}

-- ---- the outputs of the accepted blocks since the last accepted closing, or since the opening, the latest first

-- an accepted block adds its output, an accepted closing begins a new month
unfoldable pub entered : List (List ℕ) → Ask → List ℕ → List (List ℕ)
entered outs (ask_schedule kws ranks) out = outs
entered outs (ask_block entry exit lent) out = out ∷ outs
entered outs (ask_closing lent) out = []

-- a refused call adds nothing
unfoldable pub month_next : List (List ℕ) → Ask → Given → List (List ℕ)
month_next outs a w = if eqb w.answer.number 0 then entered outs a w.out else outs

unfoldable pub month_from : List (List ℕ) → List Ask → List Given → List (List ℕ)
month_from outs [] ws = outs
month_from outs (a ∷ as') [] = outs
month_from outs (a ∷ as') (w ∷ ws) = month_from (month_next outs a w) as' ws

abbrev pub month_of : List Ask → List Given → List (List ℕ)
month_of = month_from []

-- those of the blocks of class k: a block's slot follows from how many the month held when it was entered
unfoldable pub of_class : ℕ → List (List ℕ) → List (List ℕ)
of_class k [] = []
of_class k (out ∷ outs) = if eqb k (class_of_slot (slot_after (length outs))) then out ∷ of_class k outs else of_class k outs

-- ---- what they gave

unfoldable pub sum_over : List (List ℕ) → (List ℕ → ℕ) → ℕ
sum_over [] f = 0
sum_over (out ∷ outs) f = sum_over outs f + f out

module _ (o : Opening) where
  -- a block's underdrawn, where generator g is of a deemed kind
  abbrev pub pending_from : ℕ → List ℕ → ℕ
  pending_from g out = if deemed_kind (kind_of o g) then underdrawn_in o.G o.C out g else 0

  -- a block's remainder of consumer c
  abbrev pub open_from : ℕ → List ℕ → ℕ
  open_from c out = remainder_in o.G o.C out c

  -- The figures, under the agreement that was opened, are what the month's outputs gave.
  pub record TakenUp (outs : List (List ℕ)) (b : Book) : Type 0 where
    pub G_is : b.plan.G ≡ o.G
    pub C_is : b.plan.C ≡ o.C
    pub kind_is : (g : ℕ) → b.plan.kind g ≡ kind_of o g
    pub month_is : b.monthblocks ≡ length outs
    pub pending_is : (g : ℕ) → g < o.G → (b.gen g).pending ≡ sum_over outs (pending_from g)
    pub open_is : (c : ℕ) → c < o.C → (b.con c).outstanding ≡ sum_over outs (open_from c)
    -- by class, where the month is closed by hours; before the switch month no class holds anything
    pub class_pending_is : (k g : ℕ) → g < o.G → (b.hours k).pending g ≡ (if by_hours b then sum_over (of_class k outs) (pending_from g) else 0)
    pub class_open_is : (k c : ℕ) → c < o.C → (b.hours k).outstanding c ≡ (if by_hours b then sum_over (of_class k outs) (open_from c) else 0)

  -- An accepted closing that left out' took them up: pending in step 1, over its classes, and in its output open before step 2.
  pub record ClosingTakes (outs : List (List ℕ)) (b : Book) (out' : List ℕ) : Type 0 where
    pub pending_is : (g : ℕ) → g < o.G → sum classes (λ k. taken_up b k g) ≡ sum_over outs (pending_from g)
    pub open_is : (c : ℕ) → c < o.C → at out' (o.G * o.C + 3 * o.G + c) ≡ sum_over outs (open_from c)
    -- by hours, of class k: pending in step 1, and what a consumer wants in step 2
    pub class_pending_is : by_hours b ≡ true → (k g : ℕ) → g < o.G → taken_up b k g ≡ sum_over (of_class k outs) (pending_from g)
    pub class_open_is : by_hours b ≡ true → (k c : ℕ) → c < o.C → (stocks_of b k).outstanding c ≡ sum_over (of_class k outs) (open_from c)

-- After every list of calls, refused ones included, on the record that a permitted opening gave.
abbrev pub MonthClaim : Type 0
MonthClaim =
    (o : Opening) → Permitted o →
    (number : ℕ) (r₀ : Record) → Opened o number r₀ →
    (asks : List Ask) (ws : List Given) → Trace r₀ asks ws →
    TakenUp o (month_of asks ws) (figures (last_record r₀ ws))

-- A closing that is accepted there takes up those sums.
abbrev pub ClosingClaim : Type 0
ClosingClaim =
    (o : Opening) (outs : List (List ℕ)) (r : Record) → TakenUp o outs (figures r) →
    (lent : List ℕ) (a : Answer) (out' : List ℕ) → Closed r lent a out' → a.number ≡ 0 →
    ClosingTakes o outs (figures r) out'
