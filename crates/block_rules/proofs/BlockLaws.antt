-- An accepted block keeps soundness and the cross totals, and its output has the stated length. Assumes nothing.
use Rattle.std.specs.Prelude.{ℕ, ◌+◌, ◌≤◌, ◌≡◌, Bool, ◌&&◌, ◌||◌, List, [], ◌∷◌, ◌⊎◌, length, if◌then◌else◌}
use Rattle.std.proofs.Math.Path.{refl}
use Rattle.std.proofs.Math.Bool.{true, false}
use Rattle.std.proofs.Common.{inl, inr, ⊎_elim}
use native.Mathlib.Omega.{arith}
use borrow.Author.Tests.{eqb-true, ltb-true, ltb-false, leb-false, not-false}
use Rattle.std.proofs.Math.Dec.{eqb, ltb}
use Rattle.lists.specs.Sums.{sum}
use Rattle.lists.specs.Laws.SumsLaws.{sum_both_ways}
use Rattle.lists.specs.Tests.{some}
use Rattle.lists.specs.Laws.TestsLaws.{some_none, or_left, or_right, chain_at}
use Rattle.lists.specs.Laws.PairsLaws.{place_out}
use Rattle.lists.specs.Laws.RefusalsLaws.{first_head, first_tail, first_or}
use Rattle.energy.specs.Limits.{most_reading, most_month_blocks, most_unit_blocks}
use Rattle.record.specs.Plan.{deemed}
use Rattle.block_rules.specs.Settlement.{set_off}
use Rattle.block_rules.proofs.SettlementLaws.{entry_split, exit_split}
use Rattle.record.specs.Book.{Book}
use Rattle.record.specs.Sound.{bank_total, pending_total, open_total}
use Rattle.record.specs.Laws.CalledLaws.{Keeps}
use Rattle.record.specs.Laws.SoundLaws.{Facts, GeneratorFacts, ConsumerFacts}
use Rattle.block_rules.specs.Laws.Enterable.{Enterable}
use Rattle.block_rules.specs.Block.{underdrawn_sum, generator_after_block, consumer_after_block, after_block, block_length, entry_of, exit_of, block_number, block_refusal, block_rule}
use Rattle.block_rules.proofs.BlockClasses.{classes_after_lem, no_fourth}

-- a length other than stated is refusal 2
pub block_sized : (entry exit : List ℕ) (size : ℕ) (b : Book) →
    (block_refusal entry exit size b ≡ 2) ⊎ ((length entry ≡ b.plan.G) × ((length exit ≡ b.plan.C) × (size ≡ block_length b.plan.G b.plan.C)))
unfolding block_number block_refusal
block_sized entry exit size b =
    let p = b.plan in
    let x = eqb (length entry) p.G in
    let y = eqb (length exit) p.C in
    let z = eqb size (block_length p.G p.C) in
    ⊎_elim inl
    (λ (e : x && y && z ≡ true).
    let s = chain_at x (y ∷ z ∷ []) e in
    inr (eqb-true _ _ (s 0), (eqb-true _ _ (s 1), eqb-true _ _ (s 2))))
    (first_or 2 (x && y && z) _)

module _ (entry exit : List ℕ) (b : Book) where
  pub entry_out : (g : ℕ) → b.plan.G ≤ g → entry_of entry exit b g ≡ 0
  unfolding entry_of
  entry_out g h = place_out b.plan.G entry g h

  pub exit_out : (c : ℕ) → b.plan.C ≤ c → exit_of entry exit b c ≡ 0
  unfolding exit_of
  exit_out c h = place_out b.plan.C exit c h

  abbrev over_entry : ℕ → Bool
  over_entry g = ltb most_reading (entry_of entry exit b g)

  abbrev over_exit : ℕ → Bool
  over_exit c = ltb most_reading (exit_of entry exit b c)

  pub accepted_enterable : (size : ℕ) → block_refusal entry exit size b ≡ 0 → Enterable entry exit size b
  unfolding block_number block_refusal entry_of exit_of
  accepted_enterable size e =
      let p = b.plan in
      let s =
      chain_at (eqb (length entry) p.G) (eqb (length exit) p.C ∷ eqb size (block_length p.G p.C) ∷ [])
      (not-false (eqb (length entry) p.G && eqb (length exit) p.C && eqb size (block_length p.G p.C)) (first_head 1 _ _ e)) in
      let e₁ = first_tail 1 _ _ e in
      let e₂ = first_tail 9 _ _ e₁ in
      let e₃ = first_tail 10 _ _ e₂ in
      let ten = first_head 9 _ _ e₁ in
      record {
        entry_size = eqb-true _ _ (s 0);
        exit_size = eqb-true _ _ (s 1);
        output_size = eqb-true _ _ (s 2);
        entry_most = λ g. entries g (ltb g p.G) refl ten;
        exit_most = λ c. exits c (ltb c p.C) refl ten;
        monthblocks = leb-false most_month_blocks b.monthblocks (first_head 10 _ _ e₂);
        unitblocks = leb-false most_unit_blocks b.unitblocks (first_head 11 _ _ e₃);
      }
    where
      entries : (g : ℕ) (t : Bool) → ltb g b.plan.G ≡ t → some b.plan.G over_entry || some b.plan.C over_exit ≡ false → entry_of entry exit b g ≤ most_reading
      entries g true l ten = ltb-false _ _ (some_none b.plan.G over_entry (or_left (some b.plan.G over_entry) (some b.plan.C over_exit) ten) g (ltb-true g b.plan.G l))
      entries g false l ten = omega (arith, entry_out g (ltb-false g b.plan.G l))

      exits : (c : ℕ) (t : Bool) → ltb c b.plan.C ≡ t → some b.plan.G over_entry || some b.plan.C over_exit ≡ false → exit_of entry exit b c ≤ most_reading
      exits c true l ten = ltb-false _ _ (some_none b.plan.C over_exit (or_right (some b.plan.G over_entry) (some b.plan.C over_exit) ten) c (ltb-true c b.plan.C l))
      exits c false l ten = omega (arith, exit_out c (ltb-false c b.plan.C l))

-- the two places that underdrawn energy can go to
either_place : (t : Bool) (x : ℕ) → (if t then 0 else x) + (if t then x else 0) ≡ x
either_place true x = omega arith
either_place false x = omega arith

module _ (entry exit : List ℕ) (size : ℕ) (b : Book) (f : Facts b) (ok : Enterable entry exit size b) where
  abbrev E : ℕ → ℕ
  E = entry_of entry exit b

  abbrev R : ℕ → ℕ
  R = exit_of entry exit b

  generator : (g : ℕ) → GeneratorFacts (b.unitblocks + 1) (ltb g b.plan.G) (generator_after_block b E R g)
  unfolding generator_after_block
  generator g =
      record {
        injected = omega (arith, (f.gen g).injected, ok.entry_most g);
        equation =
            omega (
              arith,
              (f.gen g).equation,
              entry_split b.plan E R g (λ c l. omega (arith, (f.pair g c).loss)),
              either_place (deemed b.plan g) (underdrawn_sum b.plan E R g),
            );
        beyond = λ z. omega (arith, (f.gen g).beyond z, entry_out entry exit b g (ltb-false g b.plan.G z));
      }

  consumer : (c : ℕ) → ConsumerFacts (b.unitblocks + 1) (ltb c b.plan.C) (consumer_after_block b E R c)
  unfolding consumer_after_block
  consumer c =
      record {
        metered = omega (arith, (f.con c).metered, ok.exit_most c);
        equation = omega (arith, (f.con c).equation, exit_split b.plan E c (R c));
        beyond = λ z. omega (arith, (f.con c).beyond z, exit_out entry exit b c (ltb-false c b.plan.C z));
      }

  block_facts : Facts (after_block b E R)
  unfolding after_block generator_after_block consumer_after_block bank_total pending_total open_total
  block_facts =
      let n = f.counts in
      record {
        counts =
            record {
              G_low = n.G_low;
              G_high = n.G_high;
              C_low = n.C_low;
              C_high = n.C_high;
              rate_high = n.rate_high;
              cycle_low = n.cycle_low;
              cycle_high = n.cycle_high;
              gone_high = n.gone_high;
              blocks_high = omega (arith, ok.unitblocks);
              month_high = omega (arith, ok.monthblocks);
              month_blocks = omega (arith, n.month_blocks);
            };
        agreed = f.agreed;
        pair = f.pair;
        gen = generator;
        con = consumer;
        switch = record { switch_high = f.switch.switch_high; closings_blocks = omega (arith, f.switch.closings_blocks); gone_none = f.switch.gone_none };
        hours_bank = λ g. classes_after_lem b E R (λ t. t.bank g) 0 (b.gen g).bank _ (λ x. omega arith) (omega arith) (f.hours_bank g);
        hours_pending = λ g. classes_after_lem b E R (λ t. t.pending g) _ (b.gen g).pending _ (λ x. refl) refl (f.hours_pending g);
        hours_open = λ c. classes_after_lem b E R (λ t. t.outstanding c) _ (b.con c).outstanding _ (λ x. refl) refl (f.hours_open c);
        hours_three = no_fourth b E R f;
      }

pub block_keeps : (entry exit : List ℕ) (size : ℕ) → Keeps (block_rule entry exit size)
unfolding block_rule
block_keeps entry exit size b f e = block_facts entry exit size b f (accepted_enterable entry exit b size e)

-- set off totals the same over all generators as over all consumers, and drawn is not touched
module _ (b : Book) (E R : ℕ → ℕ) where
  pub block_setoff :
      sum b.plan.G (λ g. (b.gen g).setoff) ≡ sum b.plan.C (λ c. (b.con c).setoff) →
      sum b.plan.G (λ g. (generator_after_block b E R g).setoff) ≡ sum b.plan.C (λ c. (consumer_after_block b E R c).setoff)
  unfolding generator_after_block consumer_after_block
  block_setoff h = sum_both_ways b.plan.G b.plan.C (λ g c. set_off b.plan E c (R c) g) (λ g. (b.gen g).setoff) (λ c. (b.con c).setoff) h

  pub block_drawn :
      sum b.plan.G (λ g. (b.gen g).drawn) ≡ sum b.plan.C (λ c. (b.con c).drawn) →
      sum b.plan.G (λ g. (generator_after_block b E R g).drawn) ≡ sum b.plan.C (λ c. (consumer_after_block b E R c).drawn)
  unfolding generator_after_block consumer_after_block
  block_drawn h = h
