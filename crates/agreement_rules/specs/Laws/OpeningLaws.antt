-- An opening is accepted where it is permitted and nowhere else, and what it gives is sound. Assumes nothing.
use Rattle.std.specs.Prelude.{ℕ, ◌*◌, ◌≤◌, ◌<◌, ◌≡◌, Bool, ◌&&◌, ◌||◌, List, [], ◌∷◌, ◌⊎◌, length, take, drop, if◌then◌else◌}
use Rattle.std.proofs.Math.Path.{refl}
use Rattle.std.proofs.Common.{sym, ap}
use Rattle.std.proofs.Math.Bool.{true, false, not}
use Rattle.std.proofs.lemmas.Bool.{false≢true}
use Rattle.std.proofs.Math.Logic.{inl, inr, ⊎_elim}
use native.Mathlib.Omega.{arith}
use borrow.Author.Tests.{eqb-true, eqb-false, eq-eqb, ltb-true, ltb-false, leb-true, le-leb, lt-ltb, le-ltb, not-false}
use Rattle.std.proofs.Math.Dec.{eqb, leb, ltb}
use Rattle.lists.specs.Sums.{sum}
use Rattle.lists.specs.Laws.SumsLaws.{sum_zero}
use Rattle.lists.specs.Tests.{some, within}
use Rattle.lists.specs.Laws.TestsLaws.{some_none, or_left, or_right, chain_at, and_both, some_never, within_low, within_high, within_from}
use Rattle.lists.specs.Pairs.{cell}
use Rattle.lists.specs.Laws.PairsLaws.{cell_out, cell_all}
use Rattle.lists.specs.Laws.RefusalsLaws.{first_head, first_tail, first_none, first_end, first_or}
use Rattle.energy.specs.Limits.{most_generators, most_consumers, last_kind, most_capacity, most_loss, most_rate, most_cycle}
use Rattle.record.specs.Plan.{scheduled}
use Rattle.record.specs.Hours.{hours_apply}
use Rattle.record.specs.Book.{no_injection, no_consumption, no_stocks}
use Rattle.record.specs.Sound.{limit, bank_total, pending_total, open_total}
use Rattle.record.specs.Laws.SoundLaws.{Facts, AgreedFacts, PairFacts, no_injection_lem, no_consumption_lem}
use Rattle.agreement_rules.specs.Opening.{Opening, sizes_fit, terms_fit, first_gone, kind_of, installed_of, contracted_of, link_of, rate_of_loss, opening_refusal, opened, Permitted}

module _ (o : Opening) where
  abbrev sizes : Bool
  sizes = sizes_fit o.G o.C o.generators o.pairs

  abbrev bad_kind : ℕ → Bool
  bad_kind g = ltb last_kind (kind_of o g)

  abbrev bad_capacity : ℕ → Bool
  bad_capacity g = ltb most_capacity (installed_of o g) || ltb most_capacity (contracted_of o g)

  abbrev bad_pair : ℕ → ℕ → Bool
  bad_pair g c = ltb 1 (link_of o g c) || ltb most_loss (rate_of_loss o g c)

  abbrev terms : Bool
  terms = terms_fit o.rate o.cycle o.gone

  -- a count out of range or a length other than stated is refusal 2
  pub opening_sized :
      (opening_refusal o ≡ 2) ⊎ (((o.G ≤ most_generators) × (o.C ≤ most_consumers)) × ((length o.generators ≡ 3 * o.G) × (length o.pairs ≡ 2 * (o.G * o.C))))
  unfolding opening_refusal sizes_fit terms_fit
  opening_sized =
      let x = within 1 most_generators o.G in
      let y = within 1 most_consumers o.C in
      ⊎_elim inl
      (λ (e : sizes ≡ true).
      let s = chain_at x (y ∷ eqb (length o.generators) (3 * o.G) ∷ eqb (length o.pairs) (2 * (o.G * o.C)) ∷ []) e in
      inr ((within_high 1 most_generators o.G (s 0), within_high 1 most_consumers o.C (s 1)), (eqb-true _ _ (s 2), eqb-true _ _ (s 3))))
      (first_or 2 sizes _)

  pub accepted_permitted : opening_refusal o ≡ 0 → Permitted o
  unfolding opening_refusal sizes_fit terms_fit
  accepted_permitted e =
      let e₃ = first_tail 1 _ _ e in
      let e₄ = first_tail 2 _ _ e₃ in
      let e₅ = first_tail 3 _ _ e₄ in
      let e₆ = first_tail 4 _ _ e₅ in
      let s = chain_at (within 1 most_generators o.G) (within 1 most_consumers o.C ∷ eqb (length o.generators) (3 * o.G) ∷ eqb (length o.pairs) (2 * (o.G * o.C)) ∷ []) (not-false sizes (first_head 1 _ _ e)) in
      let t = chain_at (leb o.rate most_rate) (within 1 most_cycle o.cycle ∷ ltb o.gone o.cycle ∷ []) (not-false terms (first_head 5 _ _ e₆)) in
      let capacity : (g : ℕ) → g < o.G → bad_capacity g ≡ false = some_none o.G bad_capacity (first_head 3 _ _ e₄) in
      let pair : (g c : ℕ) → g < o.G → c < o.C → bad_pair g c ≡ false = λ g c h k. some_none o.C (bad_pair g) (some_none o.G (λ g. some o.C (bad_pair g)) (first_head 4 _ _ e₅) g h) c k in
      record {
        G_low = within_low 1 most_generators o.G (s 0);
        G_high = within_high 1 most_generators o.G (s 0);
        C_low = within_low 1 most_consumers o.C (s 1);
        C_high = within_high 1 most_consumers o.C (s 1);
        generators_size = eqb-true _ _ (s 2);
        pairs_size = eqb-true _ _ (s 3);
        kind = λ g h. ltb-false _ _ (some_none o.G bad_kind (first_head 2 _ _ e₃) g h);
        installed = λ g h. ltb-false _ _ (or_left (ltb most_capacity (installed_of o g)) (ltb most_capacity (contracted_of o g)) (capacity g h));
        contracted = λ g h. ltb-false _ _ (or_right (ltb most_capacity (installed_of o g)) (ltb most_capacity (contracted_of o g)) (capacity g h));
        link = λ g c h k. ltb-false _ _ (or_left (ltb 1 (link_of o g c)) (ltb most_loss (rate_of_loss o g c)) (pair g c h k));
        loss = λ g c h k. ltb-false _ _ (or_right (ltb 1 (link_of o g c)) (ltb most_loss (rate_of_loss o g c)) (pair g c h k));
        rate_high = leb-true _ _ (t 0);
        cycle_low = within_low 1 most_cycle o.cycle (t 1);
        cycle_high = within_high 1 most_cycle o.cycle (t 1);
        gone_high = ltb-true _ _ (t 2);
        switch_high = ltb-false _ _ (first_head 18 _ _ (first_tail 5 _ _ e₆));
      }

  pub permitted_accepted : Permitted o → opening_refusal o ≡ 0
  unfolding opening_refusal sizes_fit terms_fit
  permitted_accepted p =
      let s : sizes ≡ true = and_both (and_both (and_both (within_from 1 most_generators o.G p.G_low p.G_high) (within_from 1 most_consumers o.C p.C_low p.C_high)) (eq-eqb _ _ p.generators_size)) (eq-eqb _ _ p.pairs_size) in
      let t : terms ≡ true = and_both (and_both (le-leb _ _ p.rate_high) (within_from 1 most_cycle o.cycle p.cycle_low p.cycle_high)) (lt-ltb _ _ p.gone_high) in
      first_none _ _ _ (ap not s)
      (first_none _ _ _ (some_never o.G bad_kind (λ g h. le-ltb _ _ (p.kind g h)))
      (first_none _ _ _ (some_never o.G bad_capacity (λ g h. neither (le-ltb _ _ (p.installed g h)) (le-ltb _ _ (p.contracted g h))))
      (first_none _ _ _
      (some_never o.G (λ g. some o.C (bad_pair g)) (λ g h. some_never o.C (bad_pair g) (λ c k. neither (le-ltb _ _ (p.link g c h k)) (le-ltb _ _ (p.loss g c h k)))))
      (first_none _ _ _ (ap not t) (first_none _ _ _ (le-ltb _ _ p.switch_high) first_end)))))
    where
      neither : {a b : Bool} → a ≡ false → b ≡ false → a || b ≡ false
      neither {a} {b} e q = rw (e, q)

-- ---- what a permitted opening gives is sound

module _ (o : Opening) (p : Permitted o) where
  one_or_none : (inside : Bool) → (if inside then 1 else 0) ≤ 255
  one_or_none true = omega arith
  one_or_none false = omega arith

  beyond_generator : (g k : ℕ) → ltb g o.G ≡ false → cell o.G 3 o.generators g k ≡ 0
  beyond_generator g k e = cell_out o.G 3 o.generators g k (inl (ltb-false g o.G e))

  agreed : (g : ℕ) → AgreedFacts (ltb g o.G) (kind_of o g) (installed_of o g) (contracted_of o g) (scheduled (opened o).plan g)
  unfolding kind_of installed_of contracted_of scheduled opened
  agreed g =
      record {
        kind = at_most 0 last_kind p.kind;
        installed = at_most 1 most_capacity p.installed;
        contracted = at_most 2 most_capacity p.contracted;
        total = omega (arith, sum_zero o.C (λ c. 0) (λ c l. refl));
        beyond = λ z. (beyond_generator g 0 z, (beyond_generator g 1 z, beyond_generator g 2 z));
      }
    where
      at_most : (k m : ℕ) → ((h : ℕ) → h < o.G → cell o.G 3 o.generators h k ≤ m) → cell o.G 3 o.generators g k ≤ m
      at_most k m h = go (ltb g o.G) refl
        where
          go : (t : Bool) → ltb g o.G ≡ t → cell o.G 3 o.generators g k ≤ m
          go true e = h g (ltb-true g o.G e)
          go false e = omega (arith, beyond_generator g k e)

  pair : (g c : ℕ) → PairFacts (ltb g o.G && ltb c o.C) (link_of o g c) (rate_of_loss o g c) 0 (if ltb g o.G && ltb c o.C then 1 else 0)
  unfolding link_of rate_of_loss cell
  pair g c =
      record {
        link = cell_all (λ x. x ≤ 1) o.G o.C (take (o.G * o.C) o.pairs) (omega arith) p.link g c;
        loss = cell_all (λ x. x ≤ most_loss) o.G o.C (drop (o.G * o.C) o.pairs) (omega arith) p.loss g c;
        rank = one_or_none (ltb g o.G && ltb c o.C);
        unlinked = λ z. refl;
        ranked = λ z. ranked (ltb g o.G && ltb c o.C) z;
        beyond = λ z. (out (take (o.G * o.C) o.pairs) z, (out (drop (o.G * o.C) o.pairs) z, (refl, none (ltb g o.G && ltb c o.C) z)));
      }
    where
      ranked : (t : Bool) → t ≡ true → 1 ≤ (if t then 1 else 0)
      ranked true z = omega arith
      ranked false z = absurd (false≢true z)

      none : (t : Bool) → t ≡ false → ◌≡◌ {A = ℕ} (if t then 1 else 0) 0
      none true z = absurd (false≢true (sym z))
      none false z = refl

      out : (xs : List ℕ) → ltb g o.G && ltb c o.C ≡ false → cell o.G o.C xs g c ≡ 0
      out xs z = rw z

  gone_less : first_gone o.switch o.gone < o.cycle
  unfolding first_gone
  gone_less = go (eqb o.switch 1)
    where
      go : (t : Bool) → (if t then 0 else o.gone) < o.cycle
      go true = omega (arith, p.cycle_low)
      go false = p.gone_high

  gone_first : hours_apply o.switch 0 ≡ true → first_gone o.switch o.gone ≡ 0
  unfolding hours_apply first_gone
  gone_first e = go (eqb o.switch 1) refl
    where
      one : (z : Bool) → eqb o.switch 0 ≡ z → not z && leb o.switch 1 ≡ true → o.switch ≡ 1
      one true q r = absurd (false≢true r)
      one false q r = omega (arith, eqb-false o.switch 0 q, leb-true o.switch 1 r)

      go : (t : Bool) → eqb o.switch 1 ≡ t → (if t then 0 else o.gone) ≡ 0
      go true q = refl
      go false q = absurd (eqb-false o.switch 1 q (one (eqb o.switch 0) refl e))

  none_held : (t : Bool) → 0 ≡ limit t 0
  none_held true = refl
  none_held false = refl

  pub opened_facts : Facts (opened o)
  unfolding opened no_stocks no_injection no_consumption bank_total pending_total open_total sum
  opened_facts =
      record {
        counts =
            record {
              G_low = p.G_low;
              G_high = p.G_high;
              C_low = p.C_low;
              C_high = p.C_high;
              rate_high = p.rate_high;
              cycle_low = p.cycle_low;
              cycle_high = p.cycle_high;
              gone_high = gone_less;
              blocks_high = omega arith;
              month_high = omega arith;
              month_blocks = omega arith;
            };
        agreed = agreed;
        pair = pair;
        gen = λ g. no_injection_lem 0 (ltb g o.G);
        con = λ c. no_consumption_lem 0 (ltb c o.C);
        switch = record { switch_high = p.switch_high; closings_blocks = omega arith; gone_none = gone_first };
        hours_bank = λ g. none_held (hours_apply o.switch 0);
        hours_pending = λ g. none_held (hours_apply o.switch 0);
        hours_open = λ c. none_held (hours_apply o.switch 0);
        hours_three = λ k l. refl;
      }
