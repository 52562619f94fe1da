-- Laws of a closing: every subtraction is exact, what it takes it enters elsewhere, it keeps soundness and the cross totals, and no linked pair is
-- left with bank before the lapse beside energy supplied, in no class. Assumes nothing.
use Prim.Native.Nat.{ℕ, ◌+◌, ◌-◌, ◌*◌, ◌≤◌, ◌<◌}
use Rattle.std.specs.Prelude.{◌≡◌, ◌&&◌, ◌||◌, ◌⊎◌, ltb, if◌then◌else◌}
use Rattle.std.proofs.Math.Path.{refl, ap}
use Rattle.std.proofs.Common.{◌∙◌}
use Rattle.std.proofs.Math.Bool.{Bool, true, false, not}
use Rattle.std.proofs.lemmas.Bool.{false≢true}
use mathlib.Core.List.{List, [], ◌∷◌}
use Rattle.std.proofs.Math.Logic.{inl, inr, ⊎_elim}
use native.Mathlib.Omega.{arith}
use borrow.Author.Tests.{eq-eqb, ne_eqb, eqb-true, eqb-false, leb-true, leb-false}
use Rattle.std.proofs.Math.Dec.{eqb, leb}
use Rattle.lists.specs.Sums.{sum}
use Rattle.lists.specs.Laws.SumsLaws.{sum_cong, sum_add, sum_swap, sum_rows, sum_both_ways}
use Rattle.lists.specs.Laws.PairsLaws.{row_of, column_of_lem}
use Rattle.lists.specs.Refusals.{first_of}
use Rattle.lists.specs.Laws.RefusalsLaws.{first_head, first_tail, first_or}
use Rattle.energy.specs.Limits.{most_month_blocks}
use Rattle.energy.specs.Laws.EnergyLaws.{portion_le}
use Rattle.order_rules.specs.Laws.Members.{In, Below, order_in, only_in}
use Rattle.record.specs.Plan.{standing, order, suppliers}
use Rattle.record.specs.Laws.PlanLaws.{suppliers_within}
use Rattle.record.specs.Hours.{classes, peak, hours_apply, before_switch}
use Rattle.record.specs.Book.{Book, ClassStocks, by_hours, no_stocks}
use Rattle.record.specs.Sound.{limit, bank_total, pending_total, open_total}
use Rattle.record.specs.Laws.CalledLaws.{Keeps}
use Rattle.record.specs.Laws.SoundLaws.{Facts, GeneratorFacts, ConsumerFacts}
use Rattle.closing_rules.specs.Drawing.{stock_at, drawn_at, missing_at}
use Rattle.closing_rules.proofs.DrawingLaws as Turns
use Rattle.closing_rules.specs.Closing.{cycle_ends, lapse_due, source, turn, sources_of, undivided, stocks_of, taken_up, charge_of, credited, serving, stock, want, drawn_of, bank_left, supplied_of, charge, drawn, supplied, bank_before_lapse, lapses, gone_after, lapsed, bank_after, generator_after_closing, consumer_after_closing, after_closing, closing_length, closing_number, closing_refusal, closing_rule}

-- ---- who serves a class

pub sources_below : (k n : ℕ) (gs : List ℕ) → k < classes → Below n gs → Below (n * classes) (sources_of k gs)
unfolding sources_of
sources_below k n [] h l = tt
sources_below k n (g ∷ gs) h l = (omega (arith, l.0), (omega (arith, l.0), sources_below k n gs h l.1))

source_in : (k g : ℕ) (gs : List ℕ) → In g gs → In (source g k) (sources_of k gs)
unfolding sources_of
source_in k g [] m = absurd m
source_in k g (x ∷ gs) (inl e) = inl (ap (λ (y : ℕ). source y k) e)
source_in k g (x ∷ gs) (inr m) = inr (inr (source_in k g gs m))

peak_in : (k g : ℕ) (gs : List ℕ) → In g gs → In (source g peak) (sources_of k gs)
unfolding sources_of
peak_in k g [] m = absurd m
peak_in k g (x ∷ gs) (inl e) = inr (inl (ap (λ (y : ℕ). source y peak) e))
peak_in k g (x ∷ gs) (inr m) = inr (inr (peak_in k g gs m))

module _ (b : Book) where
  -- ---- a source, a turn and who serves it, by generator, consumer and class

  pub stock_at_lem : (g k : ℕ) → k < classes → stock b (source g k) ≡ credited b k g
  unfolding stock
  stock_at_lem g k l = rw (row_of 3 g k l, column_of_lem 3 g k l)

  pub want_at : (c k : ℕ) → k < classes → want b (turn c k) ≡ (stocks_of b k).outstanding c
  unfolding want
  want_at c k l = λ i. (stocks_of b (column_of_lem 3 c k l i)).outstanding (row_of 3 c k l i)

  pub serving_at : (c k : ℕ) → k < classes → serving b (turn c k) ≡ sources_of k (suppliers b.plan c)
  unfolding serving
  serving_at c k l = rw (row_of 3 c k l, column_of_lem 3 c k l)

  -- ---- step 1

  -- pending - charge is exact
  pub charge_le : (k g : ℕ) → b.rate ≤ 10_000 → charge_of b k g ≤ taken_up b k g
  unfolding charge_of
  charge_le k g h = portion_le (taken_up b k g) b.rate h

  -- the classes add up to the whole: by hours a sound record says so, before the switch month there is one class
  module _ (f : Facts b) where
    of_classes : (figure : ClassStocks → ℕ) (whole : ℕ) → sum classes (λ k. figure (b.hours k)) ≡ limit (by_hours b) whole →
        figure (undivided b) ≡ whole → figure no_stocks ≡ 0 → sum classes (λ k. figure (stocks_of b k)) ≡ whole
    unfolding stocks_of sum
    of_classes figure whole e one none = go (by_hours b) e
      where
        go : (t : Bool) → sum classes (λ k. figure (b.hours k)) ≡ limit t whole →
            sum classes (λ k. figure (if t then b.hours k else (if eqb k peak then undivided b else no_stocks))) ≡ whole
        go true e = e
        go false e = omega (arith, one, none)

    pub bank_total_lem : (g : ℕ) → sum classes (λ k. (stocks_of b k).bank g) ≡ (b.gen g).bank
    unfolding bank_total undivided no_stocks
    bank_total_lem g = of_classes (λ x. x.bank g) (b.gen g).bank (f.hours_bank g) refl refl

    pub pending_total_lem : (g : ℕ) → sum classes (λ k. (stocks_of b k).pending g) ≡ (b.gen g).pending
    unfolding pending_total undivided no_stocks
    pending_total_lem g = of_classes (λ x. x.pending g) (b.gen g).pending (f.hours_pending g) refl refl

    pub open_total_lem : (c : ℕ) → sum classes (λ k. (stocks_of b k).outstanding c) ≡ (b.con c).outstanding
    unfolding open_total undivided no_stocks
    open_total_lem c = of_classes (λ x. x.outstanding c) (b.con c).outstanding (f.hours_open c) refl refl

  credited_sum : (g : ℕ) → b.rate ≤ 10_000 → charge b g + sum classes (λ k. credited b k g) ≡ sum classes (λ k. (stocks_of b k).bank g) + sum classes (λ k. taken_up b k g)
  unfolding charge credited
  credited_sum g h =
      let bank : ℕ → ℕ = λ k. (stocks_of b k).bank g in
      omega (
        arith,
        sum_add classes (λ k. charge_of b k g) (λ k. bank k + (taken_up b k g - charge_of b k g)),
        sum_add classes bank (λ k. taken_up b k g),
        sum_cong classes (λ k. charge_of b k g + (bank k + (taken_up b k g - charge_of b k g))) (λ k. bank k + taken_up b k g) (λ k l. omega (arith, charge_le k g h)),
      )

  -- ---- steps 2 and 3

  -- what class j of a generator has lost to the consumers is what they drew on it
  class_drawn : (g j : ℕ) → j < classes → sum b.plan.C (λ c. sum classes (λ k. drawn_of b g j c k)) + bank_left b j g ≡ credited b j g
  unfolding bank_left drawn_of
  class_drawn g j l =
      omega (
        arith,
        sum_rows b.plan.C classes (drawn_at (serving b) (stock b) (want b) (source g j)),
        Turns.all_drawn (serving b) (stock b) (want b) (b.plan.C * classes) (source g j),
        stock_at_lem g j l,
      )

  pub all_drawn : (g : ℕ) → sum b.plan.C (drawn b g) + bank_before_lapse b g ≡ sum classes (λ k. credited b k g)
  unfolding drawn bank_before_lapse
  all_drawn g =
      let C = b.plan.C in
      let rows : ℕ → ℕ = λ j. sum C (λ c. sum classes (λ k. drawn_of b g j c k)) in
      omega (
        arith,
        sum_swap classes C (λ j c. sum classes (λ k. drawn_of b g j c k)),
        sum_add classes rows (λ j. bank_left b j g),
        sum_cong classes (λ j. rows j + bank_left b j g) (λ j. credited b j g) (λ j l. class_drawn g j l),
      )

  -- what class j of generator g loses to consumer c's three classes is what that draws on it
  pub consumer_drawn : (g j c : ℕ) → sum classes (λ k. drawn_of b g j c k) + stock_at (serving b) (stock b) (want b) (turn c classes) (source g j) ≡ stock_at (serving b) (stock b) (want b) (c * classes) (source g j)
  unfolding drawn_of
  consumer_drawn g j c = Turns.span_drawn (serving b) (stock b) (want b) classes (c * classes) (source g j)

  -- no consumer draws more on a generator than step 1 leaves it
  drawn_most : (g c : ℕ) → drawn b g c ≤ sum classes (λ k. credited b k g)
  unfolding drawn sum
  drawn_most g c = omega (arith, most 0 (omega arith), most 1 (omega arith), most 2 (omega arith))
    where
      most : (j : ℕ) → j < classes → sum classes (λ k. drawn_of b g j c k) ≤ credited b j g
      most j l = omega (arith, consumer_drawn g j c, Turns.stock_most (serving b) (stock b) (want b) (source g j) (c * classes), stock_at_lem g j l)

  -- bank before the lapse is what the output's lapsed and bank add up to
  pub before_lapse_is : (g : ℕ) → lapsed b g + bank_after b g ≡ bank_before_lapse b g
  unfolding lapsed bank_after
  before_lapse_is g = either (lapses b)
    where
      either : (t : Bool) → (if t then bank_before_lapse b g else 0) + (if t then 0 else bank_before_lapse b g) ≡ bank_before_lapse b g
      either true = omega arith
      either false = omega arith

  -- what a generator had pending and in the bank is its charge and what step 1 leaves it
  pub credited_split : Facts b → (g : ℕ) → charge b g + sum classes (λ k. credited b k g) ≡ (b.gen g).bank + (b.gen g).pending
  unfolding taken_up
  credited_split f g = omega (arith, credited_sum g (omega (arith, f.counts.rate_high)), bank_total_lem f g, pending_total_lem f g)

  pub drawn_had : Facts b → (g c : ℕ) → drawn b g c ≤ (b.gen g).bank + (b.gen g).pending
  drawn_had f g c = omega (arith, drawn_most g c, credited_split f g)

  -- it is charge, drawn, lapsed and bank
  pub generator_split : Facts b → (g : ℕ) → (b.gen g).bank + (b.gen g).pending ≡ charge b g + sum b.plan.C (drawn b g) + lapsed b g + bank_after b g
  generator_split f g = omega (arith, all_drawn g, before_lapse_is g, credited_split f g)

  turn_drawn : (c k : ℕ) → k < classes → sum b.plan.G (λ g. sum classes (λ j. drawn_of b g j c k)) + supplied_of b k c ≡ (stocks_of b k).outstanding c
  unfolding drawn_of supplied_of
  turn_drawn c k l =
      let n = b.plan.G * classes in
      let below : Below n (serving b (turn c k)) = rw (serving_at c k l) (sources_below k b.plan.G (suppliers b.plan c) l (suppliers_within b.plan c)) in
      omega (
        arith,
        sum_rows b.plan.G classes (λ s. drawn_at (serving b) (stock b) (want b) s (turn c k)),
        Turns.turn_split (serving b) (stock b) (want b) n (turn c k) below,
        want_at c k l,
      )

  -- what a consumer had open is drawn and supplied
  pub consumer_split : Facts b → (c : ℕ) → sum b.plan.G (λ g. drawn b g c) + supplied b c ≡ (b.con c).outstanding
  unfolding drawn supplied
  consumer_split f c =
      let G = b.plan.G in
      let by : ℕ → ℕ = λ k. sum G (λ g. sum classes (λ j. drawn_of b g j c k)) in
      omega (
        arith,
        sum_cong G (λ g. sum classes (λ j. sum classes (λ k. drawn_of b g j c k))) (λ g. sum classes (λ k. sum classes (λ j. drawn_of b g j c k))) (λ g l. sum_swap classes classes (λ j k. drawn_of b g j c k)),
        sum_swap G classes (λ g k. sum classes (λ j. drawn_of b g j c k)),
        sum_add classes by (λ k. supplied_of b k c),
        sum_cong classes (λ k. by k + supplied_of b k c) (λ k. (stocks_of b k).outstanding c) (λ k l. turn_drawn c k l),
        open_total_lem f c,
      )

  -- ---- no idle bank

  pub supplier_in : (g c : ℕ) → g < b.plan.G → b.plan.link g c ≡ 1 → In g (suppliers b.plan c)
  unfolding suppliers order
  supplier_in g c h l = only_in (λ g. eqb (b.plan.link g c) 1) g (order b.plan c) (eq-eqb _ 1 l) (order_in (standing b.plan c) b.plan.G g h)

  -- for no linked pair and no class does the generator still have bank of that class, or of peak, before the lapse while its consumer
  -- has energy of that class supplied
  pub none_idle_class : (g c k : ℕ) → g < b.plan.G → c < b.plan.C → k < classes → b.plan.link g c ≡ 1 →
      ((bank_left b k g ≡ 0) × (bank_left b peak g ≡ 0)) ⊎ (supplied_of b k c ≡ 0)
  unfolding bank_left supplied_of
  none_idle_class g c k hg hc hk l = both (idle (source g k) (source_in k g gs linked)) (idle (source g peak) (peak_in k g gs linked))
    where
      gs : List ℕ
      gs = suppliers b.plan c

      linked : In g gs
      linked = supplier_in g c hg l

      left : ℕ → ℕ
      left = stock_at (serving b) (stock b) (want b) (b.plan.C * classes)

      lacks : ℕ
      lacks = missing_at (serving b) (stock b) (want b) (turn c k)

      idle : (s : ℕ) → In s (sources_of k gs) → (left s ≡ 0) ⊎ (lacks ≡ 0)
      idle s m = Turns.none_idle (serving b) (stock b) (want b) (b.plan.C * classes) s (turn c k) (omega arith) (rw (serving_at c k hk) m)

      both : (left (source g k) ≡ 0) ⊎ (lacks ≡ 0) → (left (source g peak) ≡ 0) ⊎ (lacks ≡ 0) → ((left (source g k) ≡ 0) × (left (source g peak) ≡ 0)) ⊎ (lacks ≡ 0)
      both (inl e) (inl f) = inl (e, f)
      both (inl e) (inr f) = inr f
      both (inr e) f = inr e

  -- before the switch month the classes below peak hold nothing and want nothing
  module _ (old : by_hours b ≡ false) where
    pub below_peak : (k : ℕ) → k < peak → stocks_of b k ≡ no_stocks
    unfolding stocks_of
    below_peak k l = rw (old, ne_eqb k peak (λ q. omega arith))

    pub pending_below : (g k : ℕ) → k < peak → taken_up b k g ≡ 0
    unfolding taken_up no_stocks
    pending_below g k l = ap (λ (x : ClassStocks). x.pending g) (below_peak k l)

    pub stock_below : (g k : ℕ) → k < peak → stock b (source g k) ≡ 0
    unfolding credited no_stocks
    stock_below g k l = omega (arith, stock_at_lem g k (omega arith), pending_below g k l, ap (λ (x : ClassStocks). x.bank g) (below_peak k l))

    pub want_below : (c k : ℕ) → k < peak → want b (turn c k) ≡ 0
    unfolding no_stocks
    want_below c k l = want_at c k (omega arith) ∙ ap (λ (x : ClassStocks). x.outstanding c) (below_peak k l)

    pub left_none : (g k : ℕ) → k < peak → bank_left b k g ≡ 0
    unfolding bank_left
    left_none g k l = omega (arith, Turns.stock_most (serving b) (stock b) (want b) (source g k) (b.plan.C * classes), stock_below g k l)

    pub supplied_none : (c k : ℕ) → k < peak → supplied_of b k c ≡ 0
    unfolding supplied_of
    supplied_none c k l = omega (arith, Turns.missing_le (serving b) (stock b) (want b) (turn c k), want_below c k l)

    -- no linked pair's generator still has bank before the lapse while its consumer has energy supplied
    pub none_idle : (g c : ℕ) → g < b.plan.G → c < b.plan.C → b.plan.link g c ≡ 1 → (bank_before_lapse b g ≡ 0) ⊎ (supplied b c ≡ 0)
    unfolding bank_before_lapse supplied sum
    none_idle g c hg hc l =
        ⊎_elim
        (λ z. inl (omega (arith, left_none g 0 (omega arith), left_none g 1 (omega arith), z.1)))
        (λ z. inr (omega (arith, supplied_none c 0 (omega arith), supplied_none c 1 (omega arith), z)))
        (none_idle_class g c peak hg hc (omega arith) l)

  -- nothing is pending then, and nothing open
  pub none_pending : (g : ℕ) → (generator_after_closing b g).pending ≡ 0
  unfolding generator_after_closing
  none_pending g = refl

  pub none_open : (c : ℕ) → (consumer_after_closing b c).outstanding ≡ 0
  unfolding consumer_after_closing
  none_open c = refl

  -- ---- soundness

  -- where the next closing goes by hours, this one was a lapse
  lapse_before : hours_apply b.switch (b.closings + 1) ≡ true → lapses b ≡ true
  unfolding lapses lapse_due hours_apply before_switch
  lapse_before e = go b.switch b.closings (cycle_ends b.gone b.cycle) e
    where
      go : (s n : ℕ) (u : Bool) → not (eqb s 0) && leb s (n + 1 + 1) ≡ true → not (eqb s 0) && leb s (n + 1) || eqb (n + 2) s || u ≡ true
      go s n u e = by (eqb s 0) (leb s (n + 1)) refl (eqb (n + 2) s) refl e
        where
          by : (z t : Bool) → leb s (n + 1) ≡ t → (w : Bool) → eqb (n + 2) s ≡ w → not z && leb s (n + 1 + 1) ≡ true → not z && t || w || u ≡ true
          by true t p w q e = absurd (false≢true e)
          by false true p w q e = refl
          by false false p true q e = refl
          by false false p false q e = absurd (omega (arith, leb-false s (n + 1) p, eqb-false (n + 2) s q, leb-true s (n + 1 + 1) e))

  gone_less : Facts b → gone_after b < b.cycle
  unfolding gone_after lapses lapse_due cycle_ends
  gone_less f = go (by_hours b || before_switch b.switch b.closings) (eqb (b.gone + 1) b.cycle) refl
    where
      go : (s t : Bool) → eqb (b.gone + 1) b.cycle ≡ t → (if s || t then 0 else b.gone + 1) < b.cycle
      go true t e = omega (arith, f.counts.cycle_low)
      go false true e = omega (arith, f.counts.cycle_low)
      go false false e = omega (arith, f.counts.gone_high, eqb-false (b.gone + 1) b.cycle e)

  generator : Facts b → (g : ℕ) → GeneratorFacts b.unitblocks (ltb g b.plan.G) (generator_after_closing b g)
  unfolding generator_after_closing
  generator f g =
      let old = f.gen g in
      record { injected = old.injected; equation = omega (arith, old.equation, generator_split f g); beyond = old.beyond }

  consumer : Facts b → (c : ℕ) → ConsumerFacts b.unitblocks (ltb c b.plan.C) (consumer_after_closing b c)
  unfolding consumer_after_closing
  consumer f c =
      let old = f.con c in
      record { metered = old.metered; equation = omega (arith, old.equation, consumer_split f c); beyond = old.beyond }

  none_held : (t : Bool) → 0 ≡ limit t 0
  none_held true = refl
  none_held false = refl

  gone_none : hours_apply b.switch (b.closings + 1) ≡ true → gone_after b ≡ 0
  unfolding gone_after
  gone_none e = rw (lapse_before e)

  bank_none : (t : Bool) → hours_apply b.switch (b.closings + 1) ≡ t → (g : ℕ) → 0 ≡ limit t (bank_after b g)
  unfolding bank_after
  bank_none true e g = rw (lapse_before e)
  bank_none false e g = refl

  closing_facts : Facts b → 1 ≤ b.monthblocks → Facts (after_closing b)
  unfolding after_closing no_stocks bank_total pending_total open_total generator_after_closing consumer_after_closing sum
  closing_facts f m =
      let n = f.counts in
      let next : Bool = hours_apply b.switch (b.closings + 1) in
      record {
        counts =
            record {
              G_low = n.G_low;
              G_high = n.G_high;
              C_low = n.C_low;
              C_high = n.C_high;
              rate_high = n.rate_high;
              cycle_low = n.cycle_low;
              cycle_high = n.cycle_high;
              gone_high = gone_less f;
              blocks_high = n.blocks_high;
              month_high = omega arith;
              month_blocks = omega arith;
            };
        agreed = f.agreed;
        pair = f.pair;
        gen = generator f;
        con = consumer f;
        switch = record { switch_high = f.switch.switch_high; closings_blocks = omega (arith, f.switch.closings_blocks); gone_none = gone_none };
        hours_bank = bank_none next refl;
        hours_pending = λ g. none_held next;
        hours_open = λ c. none_held next;
        hours_three = λ k l. refl;
      }

  -- ---- the cross totals

  pub closing_setoff :
      sum b.plan.G (λ g. (b.gen g).setoff) ≡ sum b.plan.C (λ c. (b.con c).setoff) →
      sum b.plan.G (λ g. (generator_after_closing b g).setoff) ≡ sum b.plan.C (λ c. (consumer_after_closing b c).setoff)
  unfolding generator_after_closing consumer_after_closing
  closing_setoff h = h

  pub closing_drawn :
      sum b.plan.G (λ g. (b.gen g).drawn) ≡ sum b.plan.C (λ c. (b.con c).drawn) →
      sum b.plan.G (λ g. (generator_after_closing b g).drawn) ≡ sum b.plan.C (λ c. (consumer_after_closing b c).drawn)
  unfolding generator_after_closing consumer_after_closing
  closing_drawn h = sum_both_ways b.plan.G b.plan.C (drawn b) (λ g. (b.gen g).drawn) (λ c. (b.con c).drawn) h

-- after a closing the month holds no block: closing again is 13
pub closing_again : (b : Book) (size : ℕ) → size ≡ closing_length b.plan.G b.plan.C → closing_refusal size (after_closing b) ≡ 13
unfolding closing_number closing_refusal after_closing first_of
closing_again b size e = rw (eq-eqb size (closing_length b.plan.G b.plan.C) e)

-- a length other than stated is refusal 2
pub closing_sized : (size : ℕ) (b : Book) → (closing_refusal size b ≡ 2) ⊎ (size ≡ closing_length b.plan.G b.plan.C)
unfolding closing_number closing_refusal
closing_sized size b = ⊎_elim inl (λ (e : eqb size (closing_length b.plan.G b.plan.C) ≡ true). inr (eqb-true size (closing_length b.plan.G b.plan.C) e)) (first_or 2 (eqb size (closing_length b.plan.G b.plan.C)) _)

-- a closed month has 1 to 3,360 blocks
pub closed_month : (size : ℕ) (b : Book) → Facts b → closing_refusal size b ≡ 0 → (1 ≤ b.monthblocks) × (b.monthblocks ≤ most_month_blocks)
unfolding closing_number closing_refusal
closed_month size b f e =
    (omega (arith, eqb-false b.monthblocks 0 (first_head 12 (eqb b.monthblocks 0) [] (first_tail 1 _ _ e))), f.counts.month_high)

pub closing_keeps : (size : ℕ) → Keeps (closing_rule size)
unfolding closing_rule
closing_keeps size b f e = closing_facts b f (closed_month size b f e).0
