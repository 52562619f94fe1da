-- Document 01, "Block": rule 8, refusals 10 to 12, and the call; and what document 02, F-7, adds to rule 8. Assumes nothing.
use Rattle.std.specs.Prelude.{ℕ, ◌+◌, ◌*◌, Bool, ◌&&◌, ◌||◌, not, List, [], ◌∷◌, eqb, leb, ltb, length, if◌then◌else◌}
use Rattle.lists.specs.Sums.{sum}
use Rattle.lists.specs.Tests.{some}
use Rattle.lists.specs.Pairs.{place}
use Rattle.lists.specs.Refusals.{first_of}
use Rattle.energy.specs.Limits.{most_reading, most_month_blocks, most_unit_blocks}
use Rattle.record.specs.Plan.{Plan, deemed}
use Rattle.block_rules.specs.Delivery.{unaccounted, loss_of}
use Rattle.block_rules.specs.Settlement.{set_off, underdrawn, shortfall, remainder, block_output}
use Rattle.record.specs.Hours.{slot_after, class_of_slot}
use Rattle.record.specs.Book.{Book, ClassStocks, by_hours}
use Rattle.record.specs.Called.{Rule, Called}
use Rattle.record.specs.declared.Record.{Record}
use Rattle.record.specs.declared.Answer.{Answer}
use Rattle.record.specs.declared.GeneratorTerms.{GeneratorTerms}
use Rattle.record.specs.declared.ConsumerTerms.{ConsumerTerms}

-- ---- rule 8, for the entry readings E and the exit readings R

module _ (p : Plan) (E R : ℕ → ℕ) (g : ℕ) where
  -- Rule 6: underdrawn energy of generator g, over all consumers.
  abbrev pub underdrawn_sum : ℕ
  underdrawn_sum = sum p.C (λ c. underdrawn p E c (R c) g)

  -- Rule 8: for a deemed kind it is pending, else inadvertent (10.3).
  abbrev pub pending_added : ℕ
  pending_added = if deemed p g then underdrawn_sum else 0

  abbrev pub inadvertent_added : ℕ
  inadvertent_added = if deemed p g then 0 else underdrawn_sum

-- Document 02, F-7: the class of the slot of the block that is entered, and whether by hours class k is the one that it adds to.
abbrev pub class_of_block : Book → ℕ
class_of_block b = class_of_slot (slot_after b.monthblocks)

unfoldable pub adds_to : Book → ℕ → Bool
adds_to b k = by_hours b && eqb k (class_of_block b)

module _ (b : Book) (E R : ℕ → ℕ) where
  unfoldable pub generator_after_block : ℕ → GeneratorTerms
  generator_after_block g =
      let p = b.plan in
      let x = b.gen g in
      record {
        injected = x.injected + E g;
        unaccounted = x.unaccounted + unaccounted p g (E g);
        lost = x.lost + sum p.C (λ c. loss_of p g (E g) c);
        setoff = x.setoff + sum p.C (λ c. set_off p E c (R c) g);
        inadvertent = x.inadvertent + inadvertent_added p E R g;
        charge = x.charge;
        drawn = x.drawn;
        lapsed = x.lapsed;
        bank = x.bank;
        pending = x.pending + pending_added p E R g;
      }

  unfoldable pub consumer_after_block : ℕ → ConsumerTerms
  consumer_after_block c =
      let p = b.plan in
      let x = b.con c in
      record {
        metered = x.metered + R c;
        setoff = x.setoff + sum p.G (λ g. set_off p E c (R c) g);
        shortfall = x.shortfall + sum p.G (λ g. shortfall p E c (R c) g);
        drawn = x.drawn;
        supplied = x.supplied;
        outstanding = x.outstanding + remainder p E c (R c);
      }

  -- F-7: a class with what the block adds to pending and to open; by hours the class of the block's slot is so after it, and no other changes.
  abbrev pub class_raised : ClassStocks → ClassStocks
  class_raised x =
      let p = b.plan in
      record { bank = x.bank; pending = λ g. x.pending g + pending_added p E R g; outstanding = λ c. x.outstanding c + remainder p E c (R c) }

  unfoldable pub class_after_block : ℕ → ClassStocks
  class_after_block k = if adds_to b k then class_raised (b.hours k) else b.hours k

  unfoldable pub after_block : Book
  after_block =
      record {
        plan = b.plan;
        rate = b.rate;
        cycle = b.cycle;
        gone = b.gone;
        unitblocks = b.unitblocks + 1;
        monthblocks = b.monthblocks + 1;
        gen = generator_after_block;
        con = consumer_after_block;
        switch = b.switch;
        closings = b.closings;
        hours = class_after_block;
      }

-- ---- the call: one entry reading a generator, one exit reading a consumer, and the length of the output

-- exactly 4GC + G + C numbers
unfoldable pub block_length : (G C : ℕ) → ℕ
block_length G C = 4 * (G * C) + G + C

module _ (entry exit : List ℕ) where
  unfoldable pub entry_of : Book → ℕ → ℕ
  entry_of b = place b.plan.G entry

  unfoldable pub exit_of : Book → ℕ → ℕ
  exit_of b = place b.plan.C exit

  -- its number, by the counts of generators, consumers, month blocks and unit blocks
  unfoldable pub block_number : (G C monthblocks unitblocks size : ℕ) → ℕ
  block_number G C monthblocks unitblocks size =
      first_of
      ((2, not (eqb (length entry) G && eqb (length exit) C && eqb size (block_length G C))) ∷
      (10, some G (λ g. ltb most_reading (place G entry g)) || some C (λ c. ltb most_reading (place C exit c))) ∷
      (11, leb most_month_blocks monthblocks) ∷
      (12, leb most_unit_blocks unitblocks) ∷
      [])

  unfoldable pub block_refusal : ℕ → Book → ℕ
  block_refusal size b = block_number b.plan.G b.plan.C b.monthblocks b.unitblocks size

  unfoldable pub block_rule : ℕ → Rule
  block_rule size =
      record {
        refusal = block_refusal size;
        after = λ b. after_block b (entry_of b) (exit_of b);
        output = λ b. block_output b.plan (entry_of b) (exit_of b);
      }

-- What block ensures, of its answer and of the slice that it was lent and left.
abbrev pub Blocked : Record → List ℕ → List ℕ → List ℕ → Answer → List ℕ → Type 0
Blocked r entry exit lent a out' = Called (block_rule entry exit (length lent)) r lent a.number a.after out'
