-- Document 01, "Closing a month", and document 02, F-7, "Bank by hours": steps 1 to 4, refusal 13, and the call. One closing serves months
-- before and from the switch month on; FormerClosing says that before it this is document 01's closing, figure by figure.
-- Assumes nothing.
use Rattle.std.specs.Prelude.{ℕ, ◌+◌, ◌-◌, ◌*◌, ◌/◌, ◌%◌, Bool, not, ◌||◌, List, [], ◌∷◌, eqb, length, if◌then◌else◌}
use Rattle.lists.specs.Sums.{sum}
use Rattle.lists.specs.Tables.{table}
use Rattle.lists.specs.Pairs.{pairs, joined}
use Rattle.lists.specs.Refusals.{first_of}
use Rattle.energy.specs.Energy.{portion_up}
use Rattle.record.specs.Plan.{suppliers}
use Rattle.record.specs.Hours.{classes, peak, hours_apply, before_switch}
use Rattle.record.specs.Book.{Book, ClassStocks, by_hours, no_stocks}
use Rattle.record.specs.Called.{Rule, Called}
use Rattle.record.specs.declared.Record.{Record}
use Rattle.record.specs.declared.Answer.{Answer}
use Rattle.record.specs.declared.GeneratorTerms.{GeneratorTerms}
use Rattle.record.specs.declared.ConsumerTerms.{ConsumerTerms}
use Rattle.closing_rules.specs.Drawing.{stock_at, drawn_at, missing_at}

-- Step 4, by the months of the cycle that were gone before: the month that closes is the last of its cycle.
unfoldable pub cycle_ends : (gone cycle : ℕ) → Bool
cycle_ends gone cycle = eqb (gone + 1) cycle

-- Every bank lapses at the end of a cycle, in the closing just before the switch month, and in every closing by hours.
unfoldable pub lapse_due : (switch closings gone cycle : ℕ) → Bool
lapse_due switch closings gone cycle = hours_apply switch closings || before_switch switch closings || cycle_ends gone cycle

-- a generator's energy of a class, and a consumer's turn for a class, as one number each
abbrev pub source : (g k : ℕ) → ℕ
source g k = g * classes + k

abbrev pub turn : (c k : ℕ) → ℕ
turn c k = c * classes + k

-- Of those who serve class k one after another gives first its energy of that class, then its peak energy.
unfoldable pub sources_of : ℕ → List ℕ → List ℕ
sources_of k [] = []
sources_of k (g ∷ gs) = source g k ∷ source g peak ∷ sources_of k gs

module _ (b : Book) where
  -- Bank, pending and open by class. Before the switch month there are no classes, and all of it is taken as peak: nothing but peak energy
  -- serves peak, and nobody wants any other then.
  unfoldable pub undivided : ClassStocks
  undivided = record { bank = λ g. (b.gen g).bank; pending = λ g. (b.gen g).pending; outstanding = λ c. (b.con c).outstanding }

  unfoldable pub stocks_of : ℕ → ClassStocks
  stocks_of k = if by_hours b then b.hours k else (if eqb k peak then undivided else no_stocks)

  -- Step 1, by class: the month's pending is taken up, less a charge on it, rounded up for each class; what the bank held before is not charged
  -- again.
  unfoldable pub taken_up : (k g : ℕ) → ℕ
  taken_up k g = (stocks_of k).pending g

  unfoldable pub charge_of : (k g : ℕ) → ℕ
  charge_of k g = portion_up (taken_up k g) b.rate

  unfoldable pub credited : (k g : ℕ) → ℕ
  credited k g = (stocks_of k).bank g + (taken_up k g - charge_of k g)

  -- Step 2: each consumer in turn settles off-peak, normal, peak; its linked generators give in the inter-se order that stands now.
  unfoldable pub serving : ℕ → List ℕ
  serving t = sources_of (t % classes) (suppliers b.plan (t / classes))

  unfoldable pub stock : ℕ → ℕ
  stock s = credited (s % classes) (s / classes)

  unfoldable pub want : ℕ → ℕ
  want t = (stocks_of (t % classes)).outstanding (t / classes)

  -- what generator g gives of its class j to consumer c's open of class k
  unfoldable pub drawn_of : (g j c k : ℕ) → ℕ
  drawn_of g j c k = drawn_at serving stock want (source g j) (turn c k)

  -- what all turns leave generator g of class k
  unfoldable pub bank_left : (k g : ℕ) → ℕ
  bank_left k g = stock_at serving stock want (b.plan.C * classes) (source g k)

  -- Step 3, by class: supplied to consumer c by the local licensee.
  unfoldable pub supplied_of : (k c : ℕ) → ℕ
  supplied_of k c = missing_at serving stock want (turn c k)

  -- What is put out, printed and balanced are sums over classes.
  unfoldable pub charge : ℕ → ℕ
  charge g = sum classes (λ k. charge_of k g)

  unfoldable pub drawn : ℕ → ℕ → ℕ
  drawn g c = sum classes (λ j. sum classes (λ k. drawn_of g j c k))

  unfoldable pub supplied : ℕ → ℕ
  supplied c = sum classes (λ k. supplied_of k c)

  -- document 01's bank before the lapse ("The book"): what step 2 leaves, in the output lapsed plus bank
  unfoldable pub bank_before_lapse : ℕ → ℕ
  bank_before_lapse g = sum classes (λ k. bank_left k g)

  -- Step 4
  unfoldable pub lapses : Bool
  lapses = lapse_due b.switch b.closings b.gone b.cycle

  unfoldable pub gone_after : ℕ
  gone_after = if lapses then 0 else b.gone + 1

  unfoldable pub lapsed : ℕ → ℕ
  lapsed g = if lapses then bank_before_lapse g else 0

  unfoldable pub bank_after : ℕ → ℕ
  bank_after g = if lapses then 0 else bank_before_lapse g

  unfoldable pub generator_after_closing : ℕ → GeneratorTerms
  generator_after_closing g =
      let x = b.gen g in
      record {
        injected = x.injected;
        unaccounted = x.unaccounted;
        lost = x.lost;
        setoff = x.setoff;
        inadvertent = x.inadvertent;
        charge = x.charge + charge g;
        drawn = x.drawn + sum b.plan.C (λ c. drawn g c);
        lapsed = x.lapsed + lapsed g;
        bank = bank_after g;
        pending = 0;
      }

  unfoldable pub consumer_after_closing : ℕ → ConsumerTerms
  consumer_after_closing c =
      let x = b.con c in
      record {
        metered = x.metered;
        setoff = x.setoff;
        shortfall = x.shortfall;
        drawn = x.drawn + sum b.plan.G (λ g. drawn g c);
        supplied = x.supplied + supplied c;
        outstanding = 0;
      }

  -- After a closing no class holds anything: by hours all of it was taken up, drawn or supplied, or has lapsed; before, no class ever does.
  unfoldable pub after_closing : Book
  after_closing =
      record {
        plan = b.plan;
        rate = b.rate;
        cycle = b.cycle;
        gone = gone_after;
        unitblocks = b.unitblocks;
        monthblocks = 0;
        gen = generator_after_closing;
        con = consumer_after_closing;
        switch = b.switch;
        closings = b.closings + 1;
        hours = λ k. no_stocks;
      }

  -- drawn by pair; charge, lapsed and bank after step 4 by generator; open before step 2 and supplied by consumer
  unfoldable pub closing_lists : List (List ℕ)
  closing_lists =
      let G = b.plan.G in
      let C = b.plan.C in
      pairs G C drawn ∷ table G charge ∷ table G lapsed ∷ table G bank_after ∷ table C (λ c. (b.con c).outstanding) ∷ table C supplied ∷ []

  unfoldable pub closing_output : List ℕ
  closing_output = joined closing_lists

-- ---- the call, with the length of its output

-- exactly GC + 3G + 2C numbers
unfoldable pub closing_length : (G C : ℕ) → ℕ
closing_length G C = G * C + 3 * G + 2 * C

-- its number, by the counts of generators, consumers and month blocks
unfoldable pub closing_number : (G C monthblocks size : ℕ) → ℕ
closing_number G C monthblocks size = first_of ((2, not (eqb size (closing_length G C))) ∷ (13, eqb monthblocks 0) ∷ [])

unfoldable pub closing_refusal : ℕ → Book → ℕ
closing_refusal size b = closing_number b.plan.G b.plan.C b.monthblocks size

unfoldable pub closing_rule : ℕ → Rule
closing_rule size = record { refusal = closing_refusal size; after = after_closing; output = closing_output }

-- What closing ensures, of its answer and of the slice that it was lent and left.
abbrev pub Closed : Record → List ℕ → Answer → List ℕ → Type 0
Closed r lent a out' = Called (closing_rule (length lent)) r lent a.number a.after out'
