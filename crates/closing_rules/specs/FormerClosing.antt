-- Document 01's closing as it stands there, in the inter-se order of today (F-2), kept to say what document 02's "closings before it follow the
-- old rules" means, and that claim, `Former`. proofs/FormerClosingProof proves it. Assumes nothing.
use Rattle.std.specs.Prelude.{ℕ, ◌+◌, ◌-◌, ◌*◌, ◌≡◌, Bool, true, false, List, [], ◌∷◌, if◌then◌else◌}
use Rattle.lists.specs.Sums.{sum}
use Rattle.lists.specs.Tables.{table}
use Rattle.lists.specs.Pairs.{pairs, joined}
use Rattle.energy.specs.Energy.{portion_up}
use Rattle.record.specs.Plan.{suppliers}
use Rattle.record.specs.Hours.{classes, peak, before_switch}
use Rattle.record.specs.Book.{Book, by_hours, no_stocks}
use Rattle.record.specs.declared.GeneratorTerms.{GeneratorTerms}
use Rattle.record.specs.declared.ConsumerTerms.{ConsumerTerms}
use Rattle.closing_rules.specs.Drawing.{stock_at, drawn_at, missing_at}
use Rattle.closing_rules.specs.Closing.{cycle_ends, source, serving, stock, want, charge, drawn, supplied, bank_before_lapse, lapses, gone_after, lapsed, bank_after, after_closing, closing_output}

module _ (b : Book) where
  -- Step 1: the month's pending is taken up, less a charge on it; what the bank held before is not charged again.
  unfoldable pub former_charge : ℕ → ℕ
  former_charge g = portion_up (b.gen g).pending b.rate

  unfoldable pub former_credited : ℕ → ℕ
  former_credited g = (b.gen g).bank + ((b.gen g).pending - former_charge g)

  unfoldable pub former_open : ℕ → ℕ
  former_open c = (b.con c).outstanding

  -- Step 2: the banks when the turn comes to consumer c, and what it draws: its linked generators give in the inter-se order that stands now.
  unfoldable pub former_banks : ℕ → ℕ → ℕ
  former_banks = stock_at (suppliers b.plan) former_credited former_open

  unfoldable pub former_drawn : ℕ → ℕ → ℕ
  former_drawn = drawn_at (suppliers b.plan) former_credited former_open

  -- document 01's bank before the lapse ("The book"): what step 2 leaves
  unfoldable pub former_bank_before_lapse : ℕ → ℕ
  former_bank_before_lapse g = former_banks b.plan.C g

  -- Step 3: supplied by the local licensee.
  unfoldable pub former_supplied : ℕ → ℕ
  former_supplied = missing_at (suppliers b.plan) former_credited former_open

  -- Step 4: at the end of the cycle every bank lapses.
  unfoldable pub former_lapses : Bool
  former_lapses = cycle_ends b.gone b.cycle

  -- the rest of step 4, and the output, by whether the banks lapse
  module _ (lapse : Bool) where
    unfoldable pub former_gone_after : ℕ
    former_gone_after = if lapse then 0 else b.gone + 1

    unfoldable pub former_lapsed : ℕ → ℕ
    former_lapsed g = if lapse then former_bank_before_lapse g else 0

    unfoldable pub former_bank_after : ℕ → ℕ
    former_bank_after g = if lapse then 0 else former_bank_before_lapse g

    unfoldable pub former_generator : ℕ → GeneratorTerms
    former_generator g =
        let x = b.gen g in
        record {
          injected = x.injected;
          unaccounted = x.unaccounted;
          lost = x.lost;
          setoff = x.setoff;
          inadvertent = x.inadvertent;
          charge = x.charge + former_charge g;
          drawn = x.drawn + sum b.plan.C (λ c. former_drawn g c);
          lapsed = x.lapsed + former_lapsed g;
          bank = former_bank_after g;
          pending = 0;
        }

    unfoldable pub former_consumer : ℕ → ConsumerTerms
    former_consumer c =
        let x = b.con c in
        record {
          metered = x.metered;
          setoff = x.setoff;
          shortfall = x.shortfall;
          drawn = x.drawn + sum b.plan.G (λ g. former_drawn g c);
          supplied = x.supplied + former_supplied c;
          outstanding = 0;
        }

    -- the book then, with document 02's figures: the closings are counted, and no class holds anything
    unfoldable pub former_after_closing : Book
    former_after_closing =
        record {
          plan = b.plan;
          rate = b.rate;
          cycle = b.cycle;
          gone = former_gone_after;
          unitblocks = b.unitblocks;
          monthblocks = 0;
          gen = former_generator;
          con = former_consumer;
          switch = b.switch;
          closings = b.closings + 1;
          hours = λ k. no_stocks;
        }

    -- drawn by pair; charge, lapsed and bank after step 4 by generator; open before step 2 and supplied by consumer
    unfoldable pub former_output : List ℕ
    former_output =
        let G = b.plan.G in
        let C = b.plan.C in
        joined (pairs G C former_drawn ∷ table G former_charge ∷ table G former_lapsed ∷ table G former_bank_after ∷ table C former_open ∷ table C former_supplied ∷ [])

-- ---- the claim

-- Step 4 as formerly, where the banks lapse and where not, the whole book after it and the whole output.
pub record FormerEnd (b : Book) (lapse : Bool) : Type 0 where
  pub lapses_is : lapses b ≡ lapse
  pub gone_is : gone_after b ≡ former_gone_after b lapse
  pub lapsed_is : (g : ℕ) → lapsed b g ≡ former_lapsed b lapse g
  pub bank_after_is : (g : ℕ) → bank_after b g ≡ former_bank_after b lapse g
  pub book_is : after_closing b ≡ former_after_closing b lapse
  pub output_is : closing_output b ≡ former_output b lapse

-- Steps 1 to 3 are document 01's, with the bank of each generator when the turn comes to a consumer, which is all at its source of peak. So is
-- step 4, but that the closing just before the switch month lapses the old bank and sets months gone to 0 wherever the cycle stands.
pub record Former (b : Book) : Type 0 where
  pub charge_is : (g : ℕ) → charge b g ≡ former_charge b g
  pub banks_are : (g c : ℕ) → stock_at (serving b) (stock b) (want b) (c * classes) (source g peak) ≡ former_banks b c g
  pub drawn_is : (g c : ℕ) → drawn b g c ≡ former_drawn b g c
  pub supplied_is : (c : ℕ) → supplied b c ≡ former_supplied b c
  pub before_lapse_is : (g : ℕ) → bank_before_lapse b g ≡ former_bank_before_lapse b g
  pub end : before_switch b.switch b.closings ≡ false → FormerEnd b (former_lapses b)
  pub last_end : before_switch b.switch b.closings ≡ true → FormerEnd b true

-- the closings before the switch month follow the old rules
abbrev pub FormerClaim : Type 0
FormerClaim = (b : Book) → by_hours b ≡ false → Former b
