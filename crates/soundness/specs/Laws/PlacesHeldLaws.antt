-- What is read at a place of the bytes is the figure of the record that they hold. Assumes nothing.
use Prim.Native.Nat.{ℕ, ◌+◌, ◌*◌, ◌≤◌, ◌<◌}
use Rattle.std.specs.Prelude.{◌≡◌, refl, Bool, true, false, ◌&&◌, ◌||◌, eqb, leb, ltb, get_or}
use Rattle.std.proofs.Math.Path.{sym}
use Rattle.std.proofs.Common.{ap, ◌∙◌, arith, leb-true, eqb-true, ne_eqb}
use mathlib.Core.List.{List}
use Rattle.lists.specs.Laws.SumsLaws.{sum_none, sum_zero}
use Rattle.lists.specs.Pairs.{cell}
use Rattle.lists.specs.Tests.{all}
use Rattle.lists.specs.Laws.TestsLaws.{and_left, and_right, all_at, all_same}
use Rattle.sound_items.specs.Laws.Capped.{RowTotal}
use Rattle.record.specs.Sound.{limit, agreed_sound, pair_sound, sound}
use Rattle.sound_items.specs.Laws.SoundTests.{counts_test, counts_fit, agreed_test, agreed_here, pair_read, pair_test, generator_read, generator_test, consumer_read, consumer_test, hours_test, sound_by_parts, unsound_counts}
use Rattle.record.specs.Stored.{figures}
use Rattle.record.specs.declared.Record.{Record}
use Rattle.record.specs.declared.Terms.{Terms}
use Rattle.record.specs.declared.Counts.{Counts}
use Rattle.record.specs.declared.GeneratorTerms.{GeneratorTerms}
use Rattle.record.specs.declared.ConsumerTerms.{ConsumerTerms}
use Rattle.record_layout.specs.Laws.FigurePlaces as places
use Rattle.record_layout.specs.OnBytes.{record_in, book_in}
use Rattle.record_layout.specs.Laws.RecordHead.{HeadRead}
use Rattle.soundness.specs.Laws.PairHeld.{pair_held}
use Rattle.record_places.specs.RecordSize.{words_in}
use Rattle.record_places.specs.Laws.Places.{agreed_at, link_at, loss_at, kw_at, rank_at, injected_at, metered_at}

-- the numbers of the bytes s
abbrev at : List ℕ → ℕ → ℕ
at s k = get_or (words_in s) k 0

-- the record with its terms and counts read apart
parts_read : {s : List ℕ} {terms : Terms} {counts : Counts} → HeadRead s terms counts →
    record {
      terms = terms;
      counts = counts;
      agreed = (record_in s).agreed;
      links = (record_in s).links;
      schedule = (record_in s).schedule;
      generators = (record_in s).generators;
      consumers = (record_in s).consumers;
      switch = (record_in s).switch;
      offpeak = (record_in s).offpeak;
      normal = (record_in s).normal;
      peak = (record_in s).peak;
    } ≡ record_in s
parts_read {s} h =
    let r = record_in s in
    λ i. record {
      terms = h.terms_are i;
      counts = h.counts_are i;
      agreed = r.agreed;
      links = r.links;
      schedule = r.schedule;
      generators = r.generators;
      consumers = r.consumers;
      switch = r.switch;
      offpeak = r.offpeak;
      normal = r.normal;
      peak = r.peak;
    }

-- a sound pair beyond the agreement has no kW
none : (link loss k rank : ℕ) → pair_sound false link loss k rank ≡ true → k ≡ 0
unfolding pair_sound
none link loss k rank t =
    let three : leb link 0 && leb loss 0 && (eqb link 1 || eqb k 0) ≡ true = and_left _ _ (and_left _ _ t) in
    let low = leb-true link 0 (and_left _ _ (and_left (leb link 0 && leb loss 0) _ three)) in
    let kw : eqb link 1 || eqb k 0 ≡ true = and_right (leb link 0 && leb loss 0) _ three in
    eqb-true k 0 (rw (ne_eqb link 1 (λ q. omega (arith, low, q))) at kw)

-- no row is wider than the agreement
pub limit_high : (inside : Bool) (n : ℕ) → limit inside n ≤ n
limit_high true n = omega arith
limit_high false n = omega arith

both_false : (x y : Bool) → (x && false) ≡ (y && false)
both_false true true = refl
both_false true false = refl
both_false false true = refl
both_false false false = refl

module _ (s : List ℕ) where
  pub kw_held : (i : ℕ) → i < 128 → at s (kw_at + i) ≡ get_or (record_in s).schedule.kw i 0
  kw_held i h = sym (places.kw_place (words_in s) i h)

  pub agreed_held : (G C g : ℕ) {kind installed contracted total : ℕ} → g < 8 →
      kind ≡ at s (agreed_at + g * 3) → installed ≡ at s (agreed_at + g * 3 + 1) → contracted ≡ at s (agreed_at + g * 3 + 2) → RowTotal (record_in s).schedule.kw g C total →
      agreed_sound (ltb g G) kind installed contracted total ≡ agreed_test (record_in s).agreed (record_in s).schedule.kw G C g
  agreed_held G C g h a b c t =
      let ws = words_in s in
      rw (a ∙ sym (places.kind_place ws g h), b ∙ sym (places.installed_place ws g h), c ∙ sym (places.contracted_place ws g h)) (agreed_here _ _ G C g h t)

  pub pair_held_lem : (inside : Bool) (k : ℕ) {link loss kw rank : ℕ} → k < 128 →
      link ≡ at s (link_at + k) → loss ≡ at s (loss_at + k) → kw ≡ at s (kw_at + k) → rank ≡ at s (rank_at + k) →
      pair_sound inside link loss kw rank ≡ pair_held s inside k
  unfolding pair_held pair_read
  pair_held_lem inside k h a b c d =
      let ws = words_in s in
      rw (a ∙ sym (places.link_place ws k h), b ∙ sym (places.loss_place ws k h), c ∙ sym (places.kw_place ws k h), d ∙ sym (places.rank_place ws k h))

  pub generator_held : (g : ℕ) {x : GeneratorTerms} → g < 8 →
      x ≡ record {
        injected = at s (injected_at + g);
        unaccounted = at s (injected_at + g + 8);
        lost = at s (injected_at + g + 16);
        setoff = at s (injected_at + g + 24);
        inadvertent = at s (injected_at + g + 32);
        charge = at s (injected_at + g + 40);
        drawn = at s (injected_at + g + 48);
        lapsed = at s (injected_at + g + 56);
        bank = at s (injected_at + g + 64);
        pending = at s (injected_at + g + 72);
      } → x ≡ generator_read (record_in s).generators g
  generator_held g h e =
      let ws = words_in s in
      e ∙ sym (λ i. record {
        injected = places.generator_injected_place ws g h i;
        unaccounted = places.generator_unaccounted_place ws g h i;
        lost = places.generator_lost_place ws g h i;
        setoff = places.generator_setoff_place ws g h i;
        inadvertent = places.generator_inadvertent_place ws g h i;
        charge = places.generator_charge_place ws g h i;
        drawn = places.generator_drawn_place ws g h i;
        lapsed = places.generator_lapsed_place ws g h i;
        bank = places.generator_bank_place ws g h i;
        pending = places.generator_pending_place ws g h i;
      })

  pub consumer_held : (c : ℕ) {x : ConsumerTerms} → c < 16 →
      x ≡ record {
        metered = at s (metered_at + c);
        setoff = at s (metered_at + c + 16);
        shortfall = at s (metered_at + c + 32);
        drawn = at s (metered_at + c + 48);
        supplied = at s (metered_at + c + 64);
        outstanding = at s (metered_at + c + 80);
      } → x ≡ consumer_read (record_in s).consumers c
  consumer_held c h e =
      let ws = words_in s in
      e ∙ sym (λ i. record {
        metered = places.consumer_metered_place ws c h i;
        setoff = places.consumer_setoff_place ws c h i;
        shortfall = places.consumer_shortfall_place ws c h i;
        drawn = places.consumer_drawn_place ws c h i;
        supplied = places.consumer_supplied_place ws c h i;
        outstanding = places.consumer_outstanding_place ws c h i;
      })

  -- Where every pair is sound, those beyond the agreement have no kW: the row of a generator beyond it need not be added up.
  rows_within : (G C : ℕ) {a b : Bool} → a ≡ all 8 (λ g. agreed_test (record_in s).agreed (record_in s).schedule.kw G (limit (ltb g G) C) g) →
      b ≡ all 8 (λ g. all 16 (pair_test (record_in s).links.link (record_in s).links.loss (record_in s).schedule.kw (record_in s).schedule.rank G C g)) → C ≤ 16 →
      (a && b) ≡ (all 8 (agreed_test (record_in s).agreed (record_in s).schedule.kw G C) && b)
  unfolding agreed_test pair_test
  rows_within G C {a} {b} e f h = rw e (go b f)
    where
      kw : List ℕ
      kw = (record_in s).schedule.kw

      same : (g : ℕ) → g < 8 → all 8 (λ g. all 16 (pair_test (record_in s).links.link (record_in s).links.loss kw (record_in s).schedule.rank G C g)) ≡ true →
          (t : Bool) → ltb g G ≡ t → agreed_test (record_in s).agreed kw G (limit t C) g ≡ agreed_test (record_in s).agreed kw G C g
      same g l p true q = refl
      same g l p false q =
          let row = all_at 8 _ p g l in
          let zero : (c : ℕ) → c < C → cell 8 16 kw g c ≡ 0 = λ c k. none _ _ _ _ (rw q at (all_at 16 _ row c (omega (arith, k, h)))) in
          rw (sum_none (cell 8 16 kw g), sum_zero C (cell 8 16 kw g) zero)

      go : (t : Bool) → t ≡ all 8 (λ g. all 16 (pair_test (record_in s).links.link (record_in s).links.loss kw (record_in s).schedule.rank G C g)) →
          (all 8 (λ g. agreed_test (record_in s).agreed kw G (limit (ltb g G) C) g) && t) ≡ (all 8 (agreed_test (record_in s).agreed kw G C) && t)
      go false p = both_false (all 8 (λ g. agreed_test (record_in s).agreed kw G (limit (ltb g G) C) g)) (all 8 (agreed_test (record_in s).agreed kw G C))
      go true p = ap (λ (x : Bool). x && true) (all_same 8 _ _ (λ g l. same g l (sym p) (ltb g G) refl))

  -- the tests of the parts make up the test of the record, its terms and counts being read apart
  pub sound_held : {terms : Terms} {counts : Counts} {a b c d hours : Bool} → HeadRead s terms counts → counts_test terms counts ≡ true →
      a ≡ all 8 (λ g. agreed_test (record_in s).agreed (record_in s).schedule.kw terms.generators (limit (ltb g terms.generators) terms.consumers) g) →
      b ≡ all 8 (λ g. all 16 (pair_test (record_in s).links.link (record_in s).links.loss (record_in s).schedule.kw (record_in s).schedule.rank terms.generators terms.consumers g)) →
      c ≡ all 8 (generator_test (record_in s).generators terms.generators counts.unitblocks) →
      d ≡ all 16 (consumer_test (record_in s).consumers terms.consumers counts.unitblocks) →
      hours ≡ hours_test (book_in s) →
      (a && b && c && d && hours) ≡ sound (book_in s)
  sound_held {c = c} {d = d} {hours = hours} e h p q x y z =
      let whole = parts_read e in
      ap (λ (t : Bool). t && c && d && hours) (rows_within _ _ p q (counts_fit _ _ h).consumers_fit) ∙
      sound_by_parts _ h refl q x y (z ∙ ap (λ (r : Record). hours_test (figures r)) (sym whole)) ∙
      ap (λ (r : Record). sound (figures r)) whole

  pub unsound_held : {terms : Terms} {counts : Counts} → HeadRead s terms counts → counts_test terms counts ≡ false →
      false ≡ sound (book_in s)
  unsound_held e h = unsound_counts _ (rw (e.terms_are, e.counts_are) at h)
