-- From the test of soundness to facts, and back. Assumes nothing.
use Rattle.std.specs.Prelude.{ℕ, ◌+◌, ◌*◌, ◌≤◌, ◌<◌, ◌≡◌, Bool, ◌&&◌, ◌||◌, not, [], ◌∷◌, ◌⊎◌, get_or}
use Rattle.std.proofs.Math.Path.{refl, ap, sym}
use Rattle.std.proofs.Common.{◌∙◌, subst, inl, inr, arith}
use Rattle.std.proofs.Math.Bool.{true, false}
use Rattle.std.proofs.lemmas.Bool.{false≢true}
use Rattle.std.proofs.Math.Dec.{eqb, leb, ltb}
use borrow.Author.Tests.{leb-true, eqb-true, eqb-false, ltb-true, ltb-false, le-leb, lt-ltb, le-ltb, eq-eqb}
use Rattle.lists.specs.Sums.{sum}
use Rattle.lists.specs.Laws.SumsLaws.{sum_zero, sum_part}
use Rattle.lists.specs.Tests.{all, within}
use Rattle.lists.specs.Laws.TestsLaws.{all_at, all_from, and_left, and_right, and_both, chain_at, within_low, within_high, within_from}
use Rattle.energy.specs.Limits.{most_generators, most_consumers, last_kind, most_capacity, most_loss, most_rate, most_cycle, most_rank, most_reading, most_month_blocks, most_unit_blocks, most_figure, most_switch}
use Rattle.record.specs.Plan.{lower_capacity, scheduled}
use Rattle.record.specs.Laws.Orderable.{Orderable}
use Rattle.record.specs.Book.{Book, ClassStocks, by_hours, split_of_injected, split_of_metered, no_injection, no_consumption, no_stocks}
use Rattle.record.specs.Hours.{classes}
use Rattle.record.specs.Sound.{limit, counts_sound, agreed_sound, pair_sound, generator_sound, consumer_sound, switch_sound, classes_sound, bank_total, pending_total, open_total, generator_hours, consumer_hours, sound}
use Rattle.record.specs.declared.GeneratorTerms.{GeneratorTerms}
use Rattle.record.specs.declared.ConsumerTerms.{ConsumerTerms}

-- ---- what the test shows of each part

pub record CountsFacts (G C rate cycle gone blocks month : ℕ) : Type 0 where
  pub G_low : 1 ≤ G
  pub G_high : G ≤ most_generators
  pub C_low : 1 ≤ C
  pub C_high : C ≤ most_consumers
  pub rate_high : rate ≤ most_rate
  pub cycle_low : 1 ≤ cycle
  pub cycle_high : cycle ≤ most_cycle
  pub gone_high : gone < cycle
  pub blocks_high : blocks ≤ most_unit_blocks
  pub month_high : month ≤ most_month_blocks
  pub month_blocks : month ≤ blocks

pub record AgreedFacts (inside : Bool) (k i n s : ℕ) : Type 0 where
  pub kind : k ≤ last_kind
  pub installed : i ≤ most_capacity
  pub contracted : n ≤ most_capacity
  pub total : s ≤ lower_capacity i n
  pub beyond : inside ≡ false → (k ≡ 0) × ((i ≡ 0) × (n ≡ 0))

pub record PairFacts (inside : Bool) (l s k r : ℕ) : Type 0 where
  pub link : l ≤ 1
  pub loss : s ≤ most_loss
  pub rank : r ≤ most_rank
  pub unlinked : l ≡ 0 → k ≡ 0
  pub ranked : inside ≡ true → 1 ≤ r
  pub beyond : inside ≡ false → (l ≡ 0) × ((s ≡ 0) × ((k ≡ 0) × (r ≡ 0)))

pub record GeneratorFacts (blocks : ℕ) (inside : Bool) (x : GeneratorTerms) : Type 0 where
  pub injected : x.injected ≤ most_reading * blocks
  pub equation : x.injected ≡ split_of_injected x
  pub beyond : inside ≡ false → x.injected ≡ 0

pub record ConsumerFacts (blocks : ℕ) (inside : Bool) (x : ConsumerTerms) : Type 0 where
  pub metered : x.metered ≤ most_reading * blocks
  pub equation : x.metered ≡ split_of_metered x
  pub beyond : inside ≡ false → x.metered ≡ 0

pub record SwitchFacts (hours : Bool) (switch closings gone blocks month : ℕ) : Type 0 where
  pub switch_high : switch ≤ most_switch
  pub closings_blocks : closings + month ≤ blocks
  pub gone_none : hours ≡ true → gone ≡ 0

-- what soundness says of every place, those beyond 8 and 16 too
pub record Facts (b : Book) : Type 0 where
  pub counts : CountsFacts b.plan.G b.plan.C b.rate b.cycle b.gone b.unitblocks b.monthblocks
  pub agreed : (g : ℕ) → AgreedFacts (ltb g b.plan.G) (b.plan.kind g) (b.plan.installed g) (b.plan.contracted g) (scheduled b.plan g)
  pub pair : (g c : ℕ) → PairFacts (ltb g b.plan.G && ltb c b.plan.C) (b.plan.link g c) (b.plan.loss g c) (b.plan.kw g c) (b.plan.rank g c)
  pub gen : (g : ℕ) → GeneratorFacts b.unitblocks (ltb g b.plan.G) (b.gen g)
  pub con : (c : ℕ) → ConsumerFacts b.unitblocks (ltb c b.plan.C) (b.con c)
  pub switch : SwitchFacts (by_hours b) b.switch b.closings b.gone b.unitblocks b.monthblocks
  pub hours_bank : (g : ℕ) → bank_total b g ≡ limit (by_hours b) (b.gen g).bank
  pub hours_pending : (g : ℕ) → pending_total b g ≡ limit (by_hours b) (b.gen g).pending
  pub hours_open : (c : ℕ) → open_total b c ≡ limit (by_hours b) (b.con c).outstanding
  -- there are three classes
  pub hours_three : (k : ℕ) → 3 ≤ k → b.hours k ≡ no_stocks

-- every figure beyond the record's 8 and 16 places is 0
pub record Cut (b : Book) : Type 0 where
  pub kind : (g : ℕ) → 8 ≤ g → b.plan.kind g ≡ 0
  pub installed : (g : ℕ) → 8 ≤ g → b.plan.installed g ≡ 0
  pub contracted : (g : ℕ) → 8 ≤ g → b.plan.contracted g ≡ 0
  pub link : (g c : ℕ) → (8 ≤ g) ⊎ (16 ≤ c) → b.plan.link g c ≡ 0
  pub loss : (g c : ℕ) → (8 ≤ g) ⊎ (16 ≤ c) → b.plan.loss g c ≡ 0
  pub kw : (g c : ℕ) → (8 ≤ g) ⊎ (16 ≤ c) → b.plan.kw g c ≡ 0
  pub rank : (g c : ℕ) → (8 ≤ g) ⊎ (16 ≤ c) → b.plan.rank g c ≡ 0
  pub gen : (g : ℕ) → 8 ≤ g → b.gen g ≡ no_injection
  pub con : (c : ℕ) → 16 ≤ c → b.con c ≡ no_consumption
  pub bank : (k g : ℕ) → 8 ≤ g → (b.hours k).bank g ≡ 0
  pub pending : (k g : ℕ) → 8 ≤ g → (b.hours k).pending g ≡ 0
  pub outstanding : (k c : ℕ) → 16 ≤ c → (b.hours k).outstanding c ≡ 0
  pub three : (k : ℕ) → 3 ≤ k → b.hours k ≡ no_stocks

-- ---- limits

pub limit_le : (inside : Bool) (n : ℕ) → limit inside n ≤ n
limit_le true n = omega arith
limit_le false n = omega arith

at_limit : (inside : Bool) (x n : ℕ) → x ≤ limit inside n → x ≤ n
at_limit inside x n h = omega (arith, limit_le inside n)

limit_none : (inside : Bool) (x n : ℕ) → inside ≡ false → x ≤ limit inside n → x ≡ 0
limit_none false x n z a = omega arith
limit_none true x n z a = absurd (false≢true (sym z))

-- a number at most n, and 0 beyond
limit_from : (inside : Bool) (x n : ℕ) → x ≤ n → (inside ≡ false → x ≡ 0) → leb x (limit inside n) ≡ true
limit_from true x n h z = le-leb x n h
limit_from false x n h z = le-leb x 0 (omega (arith, z refl))

-- ---- each part, both ways

module _ (G C rate cycle gone blocks month : ℕ) where
  counts_facts : counts_sound G C rate cycle gone blocks month ≡ true → CountsFacts G C rate cycle gone blocks month
  unfolding counts_sound
  counts_facts e =
      let w =
      chain_at (within 1 most_generators G)
      (within 1 most_consumers C ∷ leb rate most_rate ∷ within 1 most_cycle cycle ∷ ltb gone cycle ∷ leb blocks most_unit_blocks ∷ leb month most_month_blocks ∷ leb month blocks ∷ [])
      e in
      record {
        G_low = within_low 1 most_generators G (w 0);
        G_high = within_high 1 most_generators G (w 0);
        C_low = within_low 1 most_consumers C (w 1);
        C_high = within_high 1 most_consumers C (w 1);
        rate_high = leb-true _ _ (w 2);
        cycle_low = within_low 1 most_cycle cycle (w 3);
        cycle_high = within_high 1 most_cycle cycle (w 3);
        gone_high = ltb-true _ _ (w 4);
        blocks_high = leb-true _ _ (w 5);
        month_high = leb-true _ _ (w 6);
        month_blocks = leb-true _ _ (w 7);
      }

  facts_counts : CountsFacts G C rate cycle gone blocks month → counts_sound G C rate cycle gone blocks month ≡ true
  unfolding counts_sound
  facts_counts f =
      and_both
      (and_both
      (and_both
      (and_both
      (and_both
      (and_both
      (and_both (within_from 1 most_generators G f.G_low f.G_high) (within_from 1 most_consumers C f.C_low f.C_high))
      (le-leb rate most_rate f.rate_high))
      (within_from 1 most_cycle cycle f.cycle_low f.cycle_high))
      (lt-ltb gone cycle f.gone_high))
      (le-leb blocks most_unit_blocks f.blocks_high))
      (le-leb month most_month_blocks f.month_high))
      (le-leb month blocks f.month_blocks)

module _ (inside : Bool) (k i n s : ℕ) where
  pub agreed_facts : agreed_sound inside k i n s ≡ true → AgreedFacts inside k i n s
  unfolding agreed_sound
  agreed_facts e =
      let w = chain_at (leb k (limit inside last_kind)) (leb i (limit inside most_capacity) ∷ leb n (limit inside most_capacity) ∷ leb s (lower_capacity i n) ∷ []) e in
      let a : k ≤ limit inside last_kind = leb-true _ _ (w 0) in
      let b : i ≤ limit inside most_capacity = leb-true _ _ (w 1) in
      let d : n ≤ limit inside most_capacity = leb-true _ _ (w 2) in
      record {
        kind = at_limit inside k last_kind a;
        installed = at_limit inside i most_capacity b;
        contracted = at_limit inside n most_capacity d;
        total = leb-true _ _ (w 3);
        beyond = λ z. (limit_none inside k last_kind z a, (limit_none inside i most_capacity z b, limit_none inside n most_capacity z d));
      }

  pub facts_agreed : AgreedFacts inside k i n s → agreed_sound inside k i n s ≡ true
  unfolding agreed_sound
  facts_agreed f =
      and_both
      (and_both
      (and_both (limit_from inside k last_kind f.kind (λ z. (f.beyond z).0)) (limit_from inside i most_capacity f.installed (λ z. (f.beyond z).1.0)))
      (limit_from inside n most_capacity f.contracted (λ z. (f.beyond z).1.1)))
      (le-leb s (lower_capacity i n) f.total)

module _ (inside : Bool) (l s k r : ℕ) where
  linked : (t : Bool) → eqb l 1 ≡ t → t || eqb k 0 ≡ true → l ≡ 0 → k ≡ 0
  linked true p q z = absurd (omega (arith, eqb-true l 1 p))
  linked false p q z = eqb-true k 0 q

  linked_from : l ≤ 1 → (l ≡ 0 → k ≡ 0) → (t : Bool) → eqb l 1 ≡ t → t || eqb k 0 ≡ true
  linked_from h u true p = refl
  linked_from h u false p = let z : l ≡ 0 = one_less h (eqb-false l 1 p) in eq-eqb k 0 (u z)
    where
      one_less : l ≤ 1 → (l ≡ 1 → ⊥) → l ≡ 0
      one_less h e = omega (arith, e)

  low : (t : Bool) → t ≡ true → limit t 1 ≤ r → 1 ≤ r
  low true z d = d
  low false z d = absurd (false≢true z)

  low_from : (t : Bool) → (t ≡ true → 1 ≤ r) → leb (limit t 1) r ≡ true
  low_from true h = le-leb 1 r (h refl)
  low_from false h = le-leb 0 r (omega arith)

  pub pair_facts : pair_sound inside l s k r ≡ true → PairFacts inside l s k r
  unfolding pair_sound
  pair_facts e =
      let w = chain_at (leb l (limit inside 1)) (leb s (limit inside most_loss) ∷ (eqb l 1 || eqb k 0) ∷ leb (limit inside 1) r ∷ leb r (limit inside most_rank) ∷ []) e in
      let a : l ≤ limit inside 1 = leb-true _ _ (w 0) in
      let b : s ≤ limit inside most_loss = leb-true _ _ (w 1) in
      let f : r ≤ limit inside most_rank = leb-true _ _ (w 4) in
      let u : l ≡ 0 → k ≡ 0 = linked (eqb l 1) refl (w 2) in
      record {
        link = at_limit inside l 1 a;
        loss = at_limit inside s most_loss b;
        rank = at_limit inside r most_rank f;
        unlinked = u;
        ranked = λ z. low inside z (leb-true _ _ (w 3));
        beyond = λ z. let n = limit_none inside l 1 z a in (n, (limit_none inside s most_loss z b, (u n, limit_none inside r most_rank z f)));
      }

  pub facts_pair : PairFacts inside l s k r → pair_sound inside l s k r ≡ true
  unfolding pair_sound
  facts_pair f =
      and_both
      (and_both
      (and_both
      (and_both (limit_from inside l 1 f.link (λ z. (f.beyond z).0)) (limit_from inside s most_loss f.loss (λ z. (f.beyond z).1.0)))
      (linked_from f.link f.unlinked (eqb l 1) refl))
      (low_from inside f.ranked))
      (limit_from inside r most_rank f.rank (λ z. (f.beyond z).1.1.1))

module _ (blocks : ℕ) (inside : Bool) where
  pub generator_facts : (x : GeneratorTerms) → generator_sound blocks inside x ≡ true → GeneratorFacts blocks inside x
  unfolding generator_sound
  generator_facts x e =
      let w = chain_at (leb x.injected (limit inside (most_reading * blocks))) (eqb x.injected (split_of_injected x) ∷ []) e in
      let a : x.injected ≤ limit inside (most_reading * blocks) = leb-true _ _ (w 0) in
      record {
        injected = at_limit inside x.injected (most_reading * blocks) a;
        equation = eqb-true _ _ (w 1);
        beyond = λ z. limit_none inside x.injected (most_reading * blocks) z a;
      }

  pub facts_generator : (x : GeneratorTerms) → GeneratorFacts blocks inside x → generator_sound blocks inside x ≡ true
  unfolding generator_sound
  facts_generator x f = and_both (limit_from inside x.injected (most_reading * blocks) f.injected f.beyond) (eq-eqb _ _ f.equation)

  pub consumer_facts : (x : ConsumerTerms) → consumer_sound blocks inside x ≡ true → ConsumerFacts blocks inside x
  unfolding consumer_sound
  consumer_facts x e =
      let w = chain_at (leb x.metered (limit inside (most_reading * blocks))) (eqb x.metered (split_of_metered x) ∷ []) e in
      let a : x.metered ≤ limit inside (most_reading * blocks) = leb-true _ _ (w 0) in
      record {
        metered = at_limit inside x.metered (most_reading * blocks) a;
        equation = eqb-true _ _ (w 1);
        beyond = λ z. limit_none inside x.metered (most_reading * blocks) z a;
      }

  pub facts_consumer : (x : ConsumerTerms) → ConsumerFacts blocks inside x → consumer_sound blocks inside x ≡ true
  unfolding consumer_sound
  facts_consumer x f = and_both (limit_from inside x.metered (most_reading * blocks) f.metered f.beyond) (eq-eqb _ _ f.equation)

module _ (hours : Bool) (switch closings gone blocks month : ℕ) where
  none_gone : (t : Bool) → not t || eqb gone 0 ≡ true → t ≡ true → gone ≡ 0
  none_gone true e z = eqb-true gone 0 e
  none_gone false e z = absurd (false≢true z)

  gone_either : (t : Bool) → (t ≡ true → gone ≡ 0) → not t || eqb gone 0 ≡ true
  gone_either true h = eq-eqb gone 0 (h refl)
  gone_either false h = refl

  pub switch_facts : switch_sound hours switch closings gone blocks month ≡ true → SwitchFacts hours switch closings gone blocks month
  unfolding switch_sound
  switch_facts e =
      let w = chain_at (leb switch most_switch) (leb (closings + month) blocks ∷ (not hours || eqb gone 0) ∷ []) e in
      record { switch_high = leb-true _ _ (w 0); closings_blocks = leb-true _ _ (w 1); gone_none = none_gone hours (w 2) }

  pub facts_switch : SwitchFacts hours switch closings gone blocks month → switch_sound hours switch closings gone blocks month ≡ true
  unfolding switch_sound
  facts_switch f = and_both (and_both (le-leb _ _ f.switch_high) (le-leb _ _ f.closings_blocks)) (gone_either hours f.gone_none)

-- nothing at all
pub no_injection_lem : (blocks : ℕ) (inside : Bool) → GeneratorFacts blocks inside no_injection
unfolding no_injection
no_injection_lem blocks inside = record { injected = omega arith; equation = refl; beyond = λ z. refl }

pub no_consumption_lem : (blocks : ℕ) (inside : Bool) → ConsumerFacts blocks inside no_consumption
unfolding no_consumption
no_consumption_lem blocks inside = record { metered = omega arith; equation = refl; beyond = λ z. refl }

module _ (x : GeneratorTerms) (e : x.injected ≡ split_of_injected x) (z : x.injected ≡ 0) where
  a₁ : x.unaccounted ≡ 0
  a₁ = omega arith

  a₂ : x.lost ≡ 0
  a₂ = omega arith

  a₃ : x.setoff ≡ 0
  a₃ = omega arith

  a₄ : x.inadvertent ≡ 0
  a₄ = omega arith

  a₅ : x.charge ≡ 0
  a₅ = omega arith

  a₆ : x.drawn ≡ 0
  a₆ = omega arith

  a₇ : x.lapsed ≡ 0
  a₇ = omega arith

  a₈ : x.bank ≡ 0
  a₈ = omega arith

  a₉ : x.pending ≡ 0
  a₉ = omega arith

  empty_generator : x ≡ no_injection
  unfolding no_injection
  empty_generator =
      λ i. record {
        injected = z i;
        unaccounted = a₁ i;
        lost = a₂ i;
        setoff = a₃ i;
        inadvertent = a₄ i;
        charge = a₅ i;
        drawn = a₆ i;
        lapsed = a₇ i;
        bank = a₈ i;
        pending = a₉ i;
      }

module _ (x : ConsumerTerms) (e : x.metered ≡ split_of_metered x) (z : x.metered ≡ 0) where
  b₁ : x.setoff ≡ 0
  b₁ = omega arith

  b₂ : x.shortfall ≡ 0
  b₂ = omega arith

  b₃ : x.drawn ≡ 0
  b₃ = omega arith

  b₄ : x.supplied ≡ 0
  b₄ = omega arith

  b₅ : x.outstanding ≡ 0
  b₅ = omega arith

  empty_consumer : x ≡ no_consumption
  unfolding no_consumption
  empty_consumer = λ i. record { metered = z i; setoff = b₁ i; shortfall = b₂ i; drawn = b₃ i; supplied = b₄ i; outstanding = b₅ i }

-- ---- the whole

and-false : (a b : Bool) → (a ≡ false) ⊎ (b ≡ false) → a && b ≡ false
and-false true b (inl e) = absurd (false≢true (sym e))
and-false true b (inr e) = e
and-false false b e = refl

module _ (b : Book) where
  abbrev agreed_at : ℕ → Bool
  agreed_at g = agreed_sound (ltb g b.plan.G) (b.plan.kind g) (b.plan.installed g) (b.plan.contracted g) (scheduled b.plan g)

  abbrev pair_at : ℕ → ℕ → Bool
  pair_at g c = pair_sound (ltb g b.plan.G && ltb c b.plan.C) (b.plan.link g c) (b.plan.loss g c) (b.plan.kw g c) (b.plan.rank g c)

  abbrev gen_at : ℕ → Bool
  gen_at g = generator_sound b.unitblocks (ltb g b.plan.G) (b.gen g)

  abbrev con_at : ℕ → Bool
  con_at c = consumer_sound b.unitblocks (ltb c b.plan.C) (b.con c)

  abbrev counts_at : Bool
  counts_at = counts_sound b.plan.G b.plan.C b.rate b.cycle b.gone b.unitblocks b.monthblocks

  abbrev switch_at : Bool
  switch_at = switch_sound (by_hours b) b.switch b.closings b.gone b.unitblocks b.monthblocks

  pub facts_sound : Facts b → sound b ≡ true
  unfolding sound generator_hours consumer_hours classes_sound
  facts_sound f =
      and_both (facts_counts _ _ _ _ _ _ _ f.counts)
      (and_both
      (and_both
      (and_both
      (and_both
      (and_both
      (and_both
      (all_from 8 agreed_at (λ g l. facts_agreed _ _ _ _ _ (f.agreed g)))
      (all_from 8 (λ g. all 16 (pair_at g)) (λ g l. all_from 16 (pair_at g) (λ c k. facts_pair _ _ _ _ _ (f.pair g c)))))
      (all_from 8 gen_at (λ g l. facts_generator _ _ _ (f.gen g))))
      (all_from 16 con_at (λ c l. facts_consumer _ _ _ (f.con c))))
      (facts_switch _ _ _ _ _ _ f.switch))
      (all_from 8 (generator_hours b) (λ g l. and_both (eq-eqb _ _ (f.hours_bank g)) (eq-eqb _ _ (f.hours_pending g)))))
      (all_from 16 (consumer_hours b) (λ c l. eq-eqb _ _ (f.hours_open c))))

  module _ (cut : Cut b) (e : sound b ≡ true) where
    rest : Bool
    rest = all 8 agreed_at && all 8 (λ g. all 16 (pair_at g)) && all 8 gen_at && all 16 con_at && switch_at && all 8 (generator_hours b) && all 16 (consumer_hours b)

    counts : CountsFacts b.plan.G b.plan.C b.rate b.cycle b.gone b.unitblocks b.monthblocks
    unfolding sound rest
    counts = counts_facts _ _ _ _ _ _ _ (and_left counts_at rest e)

    parts : (i : ℕ) → get_or (all 8 agreed_at ∷ all 8 (λ g. all 16 (pair_at g)) ∷ all 8 gen_at ∷ all 16 con_at ∷ switch_at ∷ all 8 (generator_hours b) ∷ all 16 (consumer_hours b) ∷ []) i true ≡ true
    unfolding sound rest
    parts = chain_at (all 8 agreed_at) (all 8 (λ g. all 16 (pair_at g)) ∷ all 8 gen_at ∷ all 16 con_at ∷ switch_at ∷ all 8 (generator_hours b) ∷ all 16 (consumer_hours b) ∷ []) (and_right counts_at rest e)

    beyond_G : (g : ℕ) → 8 ≤ g → ltb g b.plan.G ≡ false
    beyond_G g h = le-ltb g b.plan.G (omega (arith, counts.G_high))

    none_scheduled : (g : ℕ) → 8 ≤ g → scheduled b.plan g ≡ 0
    unfolding scheduled
    none_scheduled g h = sum_zero b.plan.C (b.plan.kw g) (λ c l. cut.kw g c (inl h))

    beyond_C : (c : ℕ) → 16 ≤ c → ltb c b.plan.C ≡ false
    beyond_C c h = le-ltb c b.plan.C (omega (arith, counts.C_high))

    agreed : (g : ℕ) → AgreedFacts (ltb g b.plan.G) (b.plan.kind g) (b.plan.installed g) (b.plan.contracted g) (scheduled b.plan g)
    agreed g = go (ltb g 8) refl
      where
        go : (t : Bool) → ltb g 8 ≡ t → AgreedFacts (ltb g b.plan.G) (b.plan.kind g) (b.plan.installed g) (b.plan.contracted g) (scheduled b.plan g)
        go true l = agreed_facts _ _ _ _ _ (all_at 8 agreed_at (parts 0) g (ltb-true g 8 l))
        go false l =
            let h = ltb-false g 8 l in
            record {
              kind = omega (arith, cut.kind g h);
              installed = omega (arith, cut.installed g h);
              contracted = omega (arith, cut.contracted g h);
              total = omega (arith, none_scheduled g h);
              beyond = λ z. (cut.kind g h, (cut.installed g h, cut.contracted g h));
            }

    pair : (g c : ℕ) → PairFacts (ltb g b.plan.G && ltb c b.plan.C) (b.plan.link g c) (b.plan.loss g c) (b.plan.kw g c) (b.plan.rank g c)
    pair g c = go (ltb g 8) refl (ltb c 16) refl
      where
        outside : (8 ≤ g) ⊎ (16 ≤ c) → ltb g b.plan.G && ltb c b.plan.C ≡ false
        outside (inl h) = and-false (ltb g b.plan.G) (ltb c b.plan.C) (inl (beyond_G g h))
        outside (inr h) = and-false (ltb g b.plan.G) (ltb c b.plan.C) (inr (beyond_C c h))

        beyond : (8 ≤ g) ⊎ (16 ≤ c) → PairFacts (ltb g b.plan.G && ltb c b.plan.C) (b.plan.link g c) (b.plan.loss g c) (b.plan.kw g c) (b.plan.rank g c)
        beyond o =
            record {
              link = omega (arith, cut.link g c o);
              loss = omega (arith, cut.loss g c o);
              rank = omega (arith, cut.rank g c o);
              unlinked = λ z. cut.kw g c o;
              ranked = λ z. absurd (false≢true (sym (outside o) ∙ z));
              beyond = λ z. (cut.link g c o, (cut.loss g c o, (cut.kw g c o, cut.rank g c o)));
            }

        go : (s : Bool) → ltb g 8 ≡ s → (t : Bool) → ltb c 16 ≡ t → PairFacts (ltb g b.plan.G && ltb c b.plan.C) (b.plan.link g c) (b.plan.loss g c) (b.plan.kw g c) (b.plan.rank g c)
        go true l true k = pair_facts _ _ _ _ _ (all_at 16 (pair_at g) (all_at 8 (λ g. all 16 (pair_at g)) (parts 1) g (ltb-true g 8 l)) c (ltb-true c 16 k))
        go true l false k = beyond (inr (ltb-false c 16 k))
        go false l t k = beyond (inl (ltb-false g 8 l))

    gen : (g : ℕ) → GeneratorFacts b.unitblocks (ltb g b.plan.G) (b.gen g)
    gen g = go (ltb g 8) refl
      where
        go : (t : Bool) → ltb g 8 ≡ t → GeneratorFacts b.unitblocks (ltb g b.plan.G) (b.gen g)
        go true l = generator_facts _ _ _ (all_at 8 gen_at (parts 2) g (ltb-true g 8 l))
        go false l = subst (GeneratorFacts b.unitblocks (ltb g b.plan.G)) (sym (cut.gen g (ltb-false g 8 l))) (no_injection_lem b.unitblocks (ltb g b.plan.G))

    con : (c : ℕ) → ConsumerFacts b.unitblocks (ltb c b.plan.C) (b.con c)
    con c = go (ltb c 16) refl
      where
        go : (t : Bool) → ltb c 16 ≡ t → ConsumerFacts b.unitblocks (ltb c b.plan.C) (b.con c)
        go true l = consumer_facts _ _ _ (all_at 16 con_at (parts 3) c (ltb-true c 16 l))
        go false l = subst (ConsumerFacts b.unitblocks (ltb c b.plan.C)) (sym (cut.con c (ltb-false c 16 l))) (no_consumption_lem b.unitblocks (ltb c b.plan.C))

    limit_zero : (t : Bool) → limit t 0 ≡ 0
    limit_zero true = refl
    limit_zero false = refl

    bank_sum : (g : ℕ) → bank_total b g ≡ limit (by_hours b) (b.gen g).bank
    unfolding bank_total generator_hours classes_sound no_injection
    bank_sum g = go (ltb g 8) refl
      where
        go : (t : Bool) → ltb g 8 ≡ t → sum classes (λ k. (b.hours k).bank g) ≡ limit (by_hours b) (b.gen g).bank
        go true l = eqb-true _ _ (and_left (classes_sound (by_hours b) (b.gen g).bank (bank_total b g)) _ (all_at 8 (generator_hours b) (parts 5) g (ltb-true g 8 l)))
        go false l = let h = ltb-false g 8 l in rw (cut.gen g h) (sum_zero classes (λ k. (b.hours k).bank g) (λ k m. cut.bank k g h) ∙ sym (limit_zero (by_hours b)))

    pending_sum : (g : ℕ) → pending_total b g ≡ limit (by_hours b) (b.gen g).pending
    unfolding pending_total generator_hours classes_sound no_injection
    pending_sum g = go (ltb g 8) refl
      where
        go : (t : Bool) → ltb g 8 ≡ t → sum classes (λ k. (b.hours k).pending g) ≡ limit (by_hours b) (b.gen g).pending
        go true l = eqb-true _ _ (and_right (classes_sound (by_hours b) (b.gen g).bank (bank_total b g)) _ (all_at 8 (generator_hours b) (parts 5) g (ltb-true g 8 l)))
        go false l = let h = ltb-false g 8 l in rw (cut.gen g h) (sum_zero classes (λ k. (b.hours k).pending g) (λ k m. cut.pending k g h) ∙ sym (limit_zero (by_hours b)))

    open_sum : (c : ℕ) → open_total b c ≡ limit (by_hours b) (b.con c).outstanding
    unfolding open_total consumer_hours classes_sound no_consumption
    open_sum c = go (ltb c 16) refl
      where
        go : (t : Bool) → ltb c 16 ≡ t → sum classes (λ k. (b.hours k).outstanding c) ≡ limit (by_hours b) (b.con c).outstanding
        go true l = eqb-true _ _ (all_at 16 (consumer_hours b) (parts 6) c (ltb-true c 16 l))
        go false l = let h = ltb-false c 16 l in rw (cut.con c h) (sum_zero classes (λ k. (b.hours k).outstanding c) (λ k m. cut.outstanding k c h) ∙ sym (limit_zero (by_hours b)))

    pub sound_facts : Facts b
    sound_facts = record { counts = counts; agreed = agreed; pair = pair; gen = gen; con = con; switch = switch_facts _ _ _ _ _ _ (parts 4); hours_bank = bank_sum; hours_pending = pending_sum; hours_open = open_sum; hours_three = cut.three }

-- ---- from the facts of a place

module _ (b : Book) (f : Facts b) where
  inside : (g c : ℕ) → (b.plan.G ≤ g) ⊎ (b.plan.C ≤ c) → ltb g b.plan.G && ltb c b.plan.C ≡ false
  inside g c (inl h) = and-false (ltb g b.plan.G) (ltb c b.plan.C) (inl (le-ltb g b.plan.G h))
  inside g c (inr h) = and-false (ltb g b.plan.G) (ltb c b.plan.C) (inr (le-ltb c b.plan.C h))

  pub pair_beyond : (g c : ℕ) → (b.plan.G ≤ g) ⊎ (b.plan.C ≤ c) →
      (b.plan.link g c ≡ 0) × ((b.plan.loss g c ≡ 0) × ((b.plan.kw g c ≡ 0) × (b.plan.rank g c ≡ 0)))
  pair_beyond g c o = (f.pair g c).beyond (inside g c o)

  pub gen_beyond : (g : ℕ) → b.plan.G ≤ g → b.gen g ≡ no_injection
  gen_beyond g h = empty_generator (b.gen g) (f.gen g).equation ((f.gen g).beyond (le-ltb g b.plan.G h))

  pub con_beyond : (c : ℕ) → b.plan.C ≤ c → b.con c ≡ no_consumption
  con_beyond c h = empty_consumer (b.con c) (f.con c).equation ((f.con c).beyond (le-ltb c b.plan.C h))

  -- a class holds at most its place
  class_part : (v : ClassStocks → ℕ) (whole : ℕ) → v no_stocks ≡ 0 → sum classes (λ k. v (b.hours k)) ≡ limit (by_hours b) whole → (k : ℕ) → v (b.hours k) ≤ whole
  class_part v whole z e k = go (ltb k 3) refl
    where
      go : (t : Bool) → ltb k 3 ≡ t → v (b.hours k) ≤ whole
      go true l = omega (arith, sum_part classes (λ k. v (b.hours k)) k (ltb-true k 3 l), e, limit_le (by_hours b) whole)
      go false l = omega (arith, ap v (f.hours_three k (ltb-false k 3 l)), z)

  pub class_bank : (k g : ℕ) → (b.hours k).bank g ≤ (b.gen g).bank
  unfolding bank_total no_stocks
  class_bank k g = class_part (λ t. t.bank g) (b.gen g).bank refl (f.hours_bank g) k

  pub class_pending : (k g : ℕ) → (b.hours k).pending g ≤ (b.gen g).pending
  unfolding pending_total no_stocks
  class_pending k g = class_part (λ t. t.pending g) (b.gen g).pending refl (f.hours_pending g) k

  pub class_open : (k c : ℕ) → (b.hours k).outstanding c ≤ (b.con c).outstanding
  unfolding open_total no_stocks
  class_open k c = class_part (λ t. t.outstanding c) (b.con c).outstanding refl (f.hours_open c) k

  class_low : (k g : ℕ) → b.plan.G ≤ g → ((b.hours k).bank g ≡ 0) × ((b.hours k).pending g ≡ 0)
  unfolding no_injection
  class_low k g h =
      let e = gen_beyond g h in
      (omega (arith, class_bank k g, ap (λ (x : GeneratorTerms). x.bank) e), omega (arith, class_pending k g, ap (λ (x : GeneratorTerms). x.pending) e))

  open_low : (k c : ℕ) → b.plan.C ≤ c → (b.hours k).outstanding c ≡ 0
  unfolding no_consumption
  open_low k c h = omega (arith, class_open k c, ap (λ (x : ConsumerTerms). x.outstanding) (con_beyond c h))

  -- sound figures are 0 beyond the record's places
  pub facts_cut : Cut b
  facts_cut =
      record {
        kind = λ g h. ((f.agreed g).beyond (le-ltb g b.plan.G (omega (arith, f.counts.G_high)))).0;
        installed = λ g h. ((f.agreed g).beyond (le-ltb g b.plan.G (omega (arith, f.counts.G_high)))).1.0;
        contracted = λ g h. ((f.agreed g).beyond (le-ltb g b.plan.G (omega (arith, f.counts.G_high)))).1.1;
        link = λ g c o. (pair_beyond g c (wider g c o)).0;
        loss = λ g c o. (pair_beyond g c (wider g c o)).1.0;
        kw = λ g c o. (pair_beyond g c (wider g c o)).1.1.0;
        rank = λ g c o. (pair_beyond g c (wider g c o)).1.1.1;
        gen = λ g h. gen_beyond g (omega (arith, f.counts.G_high));
        con = λ c h. con_beyond c (omega (arith, f.counts.C_high));
        bank = λ k g h. (class_low k g (omega (arith, f.counts.G_high))).0;
        pending = λ k g h. (class_low k g (omega (arith, f.counts.G_high))).1;
        outstanding = λ k c h. open_low k c (omega (arith, f.counts.C_high));
        three = f.hours_three;
      }
    where
      wider : (g c : ℕ) → (8 ≤ g) ⊎ (16 ≤ c) → (b.plan.G ≤ g) ⊎ (b.plan.C ≤ c)
      wider g c (inl h) = inl (omega (arith, f.counts.G_high))
      wider g c (inr h) = inr (omega (arith, f.counts.C_high))

  -- every figure of a generator is at most 2 x 10^15, and so is every figure of a consumer
  pub injected_most : (g : ℕ) → (b.gen g).injected ≤ most_figure
  injected_most g = omega (arith, (f.gen g).injected, f.counts.blocks_high)

  pub metered_most : (c : ℕ) → (b.con c).metered ≤ most_figure
  metered_most c = omega (arith, (f.con c).metered, f.counts.blocks_high)

  -- the kW of a pair
  pub kw_most : (g c : ℕ) → b.plan.kw g c ≤ most_capacity
  unfolding scheduled
  kw_most g c = go (ltb c b.plan.C) refl
    where
      go : (t : Bool) → ltb c b.plan.C ≡ t → b.plan.kw g c ≤ most_capacity
      go true e = omega (arith, sum_part b.plan.C (b.plan.kw g) c (ltb-true c b.plan.C e), (f.agreed g).total, (f.agreed g).installed)
      go false e = omega (arith, (pair_beyond g c (inr (ltb-false c b.plan.C e))).1.1.0)

  pub orderable : Orderable b.plan
  orderable = record { rank_high = λ g c. (f.pair g c).rank; kw_high = kw_most }
