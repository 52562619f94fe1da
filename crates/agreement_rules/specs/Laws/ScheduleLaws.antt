-- An accepted schedule keeps soundness. Assumes nothing.
use Rattle.std.specs.Prelude.{ℕ, ◌*◌, ◌≤◌, ◌<◌, ◌≡◌, refl, Bool, false, ◌&&◌, not, List, ◌⊎◌, ltb, length}
use Rattle.std.proofs.Common.{sym, ◌∙◌, true≢false, inl, inr, ⊎_elim, arith}
use Rattle.std.proofs.Math.Bool.{true}
use Rattle.std.proofs.lemmas.Bool.{false≢true}
use borrow.Author.Tests.{eqb-true, eq-eqb, ltb-true, ltb-false, not-false}
use Rattle.std.proofs.Math.Dec.{eqb}
use Rattle.lists.specs.Sums.{sum}
use Rattle.lists.specs.Laws.SumsLaws.{sum_zero}
use Rattle.lists.specs.Tests.{some, within}
use Rattle.lists.specs.Laws.TestsLaws.{some_none, and_left, and_right, within_low, within_high}
use Rattle.lists.specs.Laws.PairsLaws.{cell_out}
use Rattle.lists.specs.Laws.RefusalsLaws.{first_head, first_tail, first_or}
use Rattle.energy.specs.Limits.{most_rank}
use Rattle.record.specs.Plan.{lower_capacity, scheduled}
use Rattle.record.specs.Book.{Book}
use Rattle.record.specs.Sound.{bank_total, pending_total, open_total}
use Rattle.record.specs.Laws.CalledLaws.{Keeps}
use Rattle.record.specs.Laws.SoundLaws.{Facts, AgreedFacts, PairFacts, pair_beyond}
use Rattle.agreement_rules.specs.Schedule.{new_kw, new_rank, schedule_refusal, after_schedule, schedule_rule}

-- a schedule to which no number applies
pub record Schedulable (kws ranks : List ℕ) (b : Book) : Type 0 where
  pub kws_size : length kws ≡ b.plan.G * b.plan.C
  pub ranks_size : length ranks ≡ b.plan.G * b.plan.C
  pub unlinked : (g c : ℕ) → g < b.plan.G → c < b.plan.C → b.plan.link g c ≡ 0 → new_kw kws ranks b g c ≡ 0
  pub total : (g : ℕ) → g < b.plan.G → sum b.plan.C (new_kw kws ranks b g) ≤ lower_capacity (b.plan.installed g) (b.plan.contracted g)
  pub rank_low : (g c : ℕ) → g < b.plan.G → c < b.plan.C → 1 ≤ new_rank kws ranks b g c
  pub rank_high : (g c : ℕ) → g < b.plan.G → c < b.plan.C → new_rank kws ranks b g c ≤ most_rank

-- a length other than stated is refusal 2
pub schedule_sized : (kws ranks : List ℕ) (b : Book) →
    (schedule_refusal kws ranks b ≡ 2) ⊎ ((length kws ≡ b.plan.G * b.plan.C) × (length ranks ≡ b.plan.G * b.plan.C))
unfolding schedule_refusal
schedule_sized kws ranks b =
    let x = eqb (length kws) (b.plan.G * b.plan.C) in
    let y = eqb (length ranks) (b.plan.G * b.plan.C) in
    ⊎_elim inl (λ (e : x && y ≡ true). inr (eqb-true _ _ (and_left x y e), eqb-true _ _ (and_right x y e))) (first_or 2 (x && y) _)

module _ (kws ranks : List ℕ) (b : Book) where
  abbrev off_link : ℕ → ℕ → Bool
  off_link g c = eqb (b.plan.link g c) 0 && ltb 0 (new_kw kws ranks b g c)

  abbrev over_capacity : ℕ → Bool
  over_capacity g = ltb (lower_capacity (b.plan.installed g) (b.plan.contracted g)) (sum b.plan.C (new_kw kws ranks b g))

  abbrev bad_rank : ℕ → ℕ → Bool
  bad_rank g c = not (within 1 most_rank (new_rank kws ranks b g c))

  none_off : (g c : ℕ) → off_link g c ≡ false → b.plan.link g c ≡ 0 → new_kw kws ranks b g c ≡ 0
  none_off g c e z = go (ltb 0 (new_kw kws ranks b g c)) refl
    where
      go : (t : Bool) → ltb 0 (new_kw kws ranks b g c) ≡ t → new_kw kws ranks b g c ≡ 0
      go true q = absurd (true≢false (sym (both (eq-eqb (b.plan.link g c) 0 z) q) ∙ e))
        where
          both : {s t : Bool} → s ≡ true → t ≡ true → s && t ≡ true
          both {s} {t} p r = rw (p, r)
      go false q = omega (arith, ltb-false 0 (new_kw kws ranks b g c) q)

  pub accepted_schedulable : schedule_refusal kws ranks b ≡ 0 → Schedulable kws ranks b
  unfolding schedule_refusal
  accepted_schedulable e =
      let G = b.plan.G in
      let C = b.plan.C in
      let x = eqb (length kws) (G * C) in
      let y = eqb (length ranks) (G * C) in
      let s = not-false (x && y) (first_head 1 _ _ e) in
      let e₇ = first_tail 1 _ _ e in
      let e₈ = first_tail 6 _ _ e₇ in
      let e₉ = first_tail 7 _ _ e₈ in
      let rank : (g c : ℕ) → g < G → c < C → within 1 most_rank (new_rank kws ranks b g c) ≡ true = λ g c h k. not-false (within 1 most_rank (new_rank kws ranks b g c)) (some_none C (bad_rank g) (some_none G (λ g. some C (bad_rank g)) (first_head 8 _ _ e₉) g h) c k) in
      record {
        kws_size = eqb-true _ _ (and_left x y s);
        ranks_size = eqb-true _ _ (and_right x y s);
        unlinked = λ g c h k. none_off g c (some_none C (off_link g) (some_none G (λ g. some C (off_link g)) (first_head 6 _ _ e₇) g h) c k);
        total = λ g h. ltb-false _ _ (some_none G over_capacity (first_head 7 _ _ e₈) g h);
        rank_low = λ g c h k. within_low 1 most_rank (new_rank kws ranks b g c) (rank g c h k);
        rank_high = λ g c h k. within_high 1 most_rank (new_rank kws ranks b g c) (rank g c h k);
      }

  module _ (f : Facts b) (s : Schedulable kws ranks b) where
    no_kw : (g c : ℕ) → (b.plan.G ≤ g) ⊎ (b.plan.C ≤ c) → new_kw kws ranks b g c ≡ 0
    unfolding new_kw
    no_kw g c o = cell_out b.plan.G b.plan.C kws g c o

    no_rank : (g c : ℕ) → (b.plan.G ≤ g) ⊎ (b.plan.C ≤ c) → new_rank kws ranks b g c ≡ 0
    unfolding new_rank
    no_rank g c o = cell_out b.plan.G b.plan.C ranks g c o

    agreed : (g : ℕ) → AgreedFacts (ltb g b.plan.G) (b.plan.kind g) (b.plan.installed g) (b.plan.contracted g) (sum b.plan.C (new_kw kws ranks b g))
    agreed g =
        let old = f.agreed g in
        record { kind = old.kind; installed = old.installed; contracted = old.contracted; total = total (ltb g b.plan.G) refl; beyond = old.beyond }
      where
        total : (t : Bool) → ltb g b.plan.G ≡ t → sum b.plan.C (new_kw kws ranks b g) ≤ lower_capacity (b.plan.installed g) (b.plan.contracted g)
        total true e = s.total g (ltb-true g b.plan.G e)
        total false e = omega (arith, none e)
          where
            none : ltb g b.plan.G ≡ false → sum b.plan.C (new_kw kws ranks b g) ≡ 0
            none e = sum_zero b.plan.C (new_kw kws ranks b g) (λ c l. no_kw g c (inl (ltb-false g b.plan.G e)))

    pair : (g c : ℕ) → PairFacts (ltb g b.plan.G && ltb c b.plan.C) (b.plan.link g c) (b.plan.loss g c) (new_kw kws ranks b g c) (new_rank kws ranks b g c)
    pair g c = go (ltb g b.plan.G) refl (ltb c b.plan.C) refl
      where
        out : (inside : Bool) → inside ≡ false → (b.plan.G ≤ g) ⊎ (b.plan.C ≤ c) → PairFacts inside (b.plan.link g c) (b.plan.loss g c) (new_kw kws ranks b g c) (new_rank kws ranks b g c)
        out inside z o =
            let old = pair_beyond b f g c o in
            record {
              link = (f.pair g c).link;
              loss = (f.pair g c).loss;
              rank = omega (arith, no_rank g c o);
              unlinked = λ l. no_kw g c o;
              ranked = λ t. absurd (false≢true (sym z ∙ t));
              beyond = λ t. (old.0, (old.1.0, (no_kw g c o, no_rank g c o)));
            }

        go : (x : Bool) → ltb g b.plan.G ≡ x → (y : Bool) → ltb c b.plan.C ≡ y → PairFacts (x && y) (b.plan.link g c) (b.plan.loss g c) (new_kw kws ranks b g c) (new_rank kws ranks b g c)
        go true e true q =
            let h = ltb-true g b.plan.G e in
            let k = ltb-true c b.plan.C q in
            record {
              link = (f.pair g c).link;
              loss = (f.pair g c).loss;
              rank = s.rank_high g c h k;
              unlinked = s.unlinked g c h k;
              ranked = λ t. s.rank_low g c h k;
              beyond = λ t. absurd (true≢false t);
            }
        go true e false q = out false refl (inr (ltb-false c b.plan.C q))
        go false e y q = out false refl (inl (ltb-false g b.plan.G e))

    schedule_facts : Facts (after_schedule kws ranks b)
    unfolding after_schedule scheduled bank_total pending_total open_total
    schedule_facts =
        record {
          counts = f.counts;
          agreed = agreed;
          pair = pair;
          gen = f.gen;
          con = f.con;
          switch = f.switch;
          hours_bank = f.hours_bank;
          hours_pending = f.hours_pending;
          hours_open = f.hours_open;
          hours_three = f.hours_three;
        }

pub schedule_keeps : (kws ranks : List ℕ) → Keeps (schedule_rule kws ranks)
unfolding schedule_rule
schedule_keeps kws ranks b f e = schedule_facts kws ranks b f (accepted_schedulable kws ranks b e)
