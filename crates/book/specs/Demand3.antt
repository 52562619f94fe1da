-- Demand 3, over every list of calls on a newly opened unit. Assumes nothing.
use Rattle.std.specs.Prelude.{ℕ, ◌+◌, ◌*◌, ◌≤◌, ◌<◌, true, false, List, [], ◌∷◌, map, ◌⊎◌, ◌≡◌, eqb, length, get_or, take, if◌then◌else◌}
use Rattle.lists.specs.Sums.{sum}
use Rattle.energy.specs.Limits.{most_figure}
use Rattle.record.specs.Hours.{classes, peak}
use Rattle.record.specs.Book.{Book, by_hours}
use Rattle.record.specs.Stored.{figures, stored}
use Rattle.record.specs.Sound.{sound}
use Rattle.record.specs.declared.Record.{Record}
use Rattle.agreement_rules.specs.Opening.{Opening, link_of, opened, Opened, Permitted}
use Rattle.closing_rules.specs.Closing.{bank_left, supplied_of}
use Rattle.book.specs.BookCalls.{Call, schedule, block, closing, rule_of, next, book_after, BookAnswer, book_answers}
use Rattle.book.specs.Trace.{Ask, call_of, lent_of, Given, Trace, last_record}

abbrev pub at : List ℕ → ℕ → ℕ
at xs i = get_or xs i 0

-- The same calls were accepted as in the book, and a refused one with the book's number; the output of an accepted one is the
-- book's, that of a refused one as it was lent.
pub record Match (a : Ask) (w : Given) (e : BookAnswer) : Type 0 where
  pub number_is : w.answer.number ≡ e.number
  pub output_is : w.out ≡ (if eqb e.number 0 then e.output else lent_of a)

pub data Matches : List Ask → List Given → List BookAnswer → Type 0 where
  match_none : Matches [] [] []
  match_one : {a : Ask} {w : Given} {e : BookAnswer} {as' : List Ask} {ws : List Given} {es : List BookAnswer} → Match a w e → Matches as' ws es → Matches (a ∷ as') (w ∷ ws) (e ∷ es)

-- What a closing's output has of bank before the lapse, which is lapsed plus bank, and of energy supplied, its last list.
module _ (o : Opening) (out : List ℕ) where
  abbrev pub bank_in : ℕ → ℕ
  bank_in g = at out (o.G * o.C + o.G + g) + at out (o.G * o.C + 2 * o.G + g)

  abbrev pub supplied_in : ℕ → ℕ
  supplied_in c = at out (o.G * o.C + 3 * o.G + o.C + c)

-- The last sentence of demand 3, of an accepted closing on book b that put out `out`. For closings by hours document 02, F-7, has another one
-- in its place.
pub record NoIdleBank (o : Opening) (b : Book) (out : List ℕ) : Type 0 where
  pub size : length out ≡ o.G * o.C + 3 * o.G + 2 * o.C
  -- Both are the book's, as sums over classes: of what step 2 leaves the generator of a class, and of what step 3 supplies the consumer in it.
  pub bank_is : (g : ℕ) → g < o.G → bank_in o out g ≡ sum classes (λ k. bank_left b k g)
  pub supplied_is : (c : ℕ) → c < o.C → supplied_in o out c ≡ sum classes (λ k. supplied_of b k c)
  -- Before the switch month: 'In no accepted closing of the list does a linked pair's generator still have bank before the lapse while its
  -- consumer has energy supplied by the licensee in that closing.'
  pub none_idle : by_hours b ≡ false → (g c : ℕ) → g < o.G → c < o.C → link_of o g c ≡ 1 → (bank_in o out g ≡ 0) ⊎ (supplied_in o out c ≡ 0)
  -- By hours: 'for no linked pair and no class does the generator still have bank of that class, or of peak, before the lapse while its
  -- consumer has energy of that class supplied by the licensee in that closing.'
  pub none_idle_class :
      by_hours b ≡ true → (g c k : ℕ) → g < o.G → c < o.C → k < classes → link_of o g c ≡ 1 →
      ((bank_left b k g ≡ 0) × (bank_left b peak g ≡ 0)) ⊎ (supplied_of b k c ≡ 0)

unfoldable pub NotIdleIn : Opening → Book → Call → List ℕ → Type 0
NotIdleIn o b (schedule kws ranks) out = Unit {0}
NotIdleIn o b (block entry exit size) out = Unit {0}
NotIdleIn o b (closing size) out = (rule_of (closing size)).refusal b ≡ 0 → NoIdleBank o b out

-- in every closing of the list, on the book as it then is
pub data NoIdleBanks (o : Opening) : Book → List Call → List Given → Type 0 where
  idle_none : {b : Book} → NoIdleBanks o b [] []
  idle_one : {b : Book} {k : Call} {ks : List Call} {w : Given} {ws : List Given} → NotIdleIn o b k w.out → NoIdleBanks o (next b k) ks ws → NoIdleBanks o b (k ∷ ks) (w ∷ ws)

-- What demand 3 says of a list of calls and of what they gave, on the record r that the last of them left.
pub record Demand3 (o : Opening) (asks : List Ask) (ws : List Given) (r : Record) : Type 0 where
  pub answers : Matches asks ws (book_answers (opened o) (map call_of asks))
  -- every figure in the record equals the book's
  pub record_is : r ≡ stored (book_after (opened o) (map call_of asks))
  pub record_sound : sound (figures r) ≡ true
  pub generators :
      (g : ℕ) → g < o.G →
      let x = r.generators in
      at x.injected g ≡ at x.unaccounted g + at x.lost g + at x.setoff g + at x.inadvertent g + at x.charge g + at x.drawn g + at x.lapsed g + at x.bank g + at x.pending g
  pub consumers :
      (c : ℕ) → c < o.C →
      let x = r.consumers in
      at x.metered c ≡ at x.setoff c + at x.shortfall c + at x.drawn c + at x.supplied c + at x.outstanding c
  pub set_off : sum o.G (at r.generators.setoff) ≡ sum o.C (at r.consumers.setoff)
  pub drawn : sum o.G (at r.generators.drawn) ≡ sum o.C (at r.consumers.drawn)
  pub no_idle_bank : NoIdleBanks o (opened o) (map call_of asks) ws
  -- by the equations every other term is at most these
  pub injected_most : (g : ℕ) → g < o.G → at r.generators.injected g ≤ most_figure
  pub metered_most : (c : ℕ) → c < o.C → at r.consumers.metered c ≤ most_figure

-- The one claim. Every opening to which no refusal number applies is accepted. For every list of calls on the record that it gave,
-- refused calls included, demand 3 holds after the whole list and after every first n calls of it.
abbrev pub Claim : Type 0
Claim =
    (o : Opening) → Permitted o →
    (number : ℕ) (r₀ : Record) → Opened o number r₀ →
    (number ≡ 0) ×
    ((asks : List Ask) (ws : List Given) → Trace r₀ asks ws →
    Demand3 o asks ws (last_record r₀ ws) ×
    ((n : ℕ) → Demand3 o (take n asks) (take n ws) (last_record r₀ (take n ws))))
