-- What follows from `Called` for every call. Assumes nothing.
use Rattle.std.specs.Prelude.{ℕ, ◌≤◌, ◌≡◌, Bool, List, eqb, if◌then◌else◌}
use Rattle.std.proofs.Math.Path.{refl}
use Rattle.std.proofs.Common.{sym, ap, ◌∙◌, arith, eqb-true, eq-eqb, ne_eqb}
use Rattle.std.proofs.Math.Bool.{true, false}
use Rattle.std.proofs.lemmas.Bool.{eqb-false}
use Rattle.record.specs.Book.{Book}
use Rattle.record.specs.Stored.{plan_of, figures, stored}
use Rattle.record.specs.Sound.{sound}
use Rattle.record.specs.Laws.SoundLaws.{Facts, facts_sound, facts_cut, sound_facts}
use Rattle.record.specs.Laws.StoredLaws.{figures_cut, figures_stored}
use Rattle.record.specs.Called.{Rule, number_on, record_after, output_after, Called}
use Rattle.record.specs.declared.Record.{Record}
use Rattle.record.specs.declared.Terms.{Terms}

-- an accepted call by the rule keeps what soundness says
abbrev pub Keeps : Rule → Type 0
Keeps rule = (b : Book) → Facts b → rule.refusal b ≡ 0 → Facts (rule.after b)

-- a sound record's facts, and back
pub record_facts : (r : Record) → sound (figures r) ≡ true → Facts (figures r)
record_facts r e = sound_facts (figures r) (figures_cut r) e

pub terms_few : (r : Record) {t : Terms} → t ≡ r.terms → sound (figures r) ≡ true → (t.generators ≤ 8) × (t.consumers ≤ 16)
unfolding figures plan_of
terms_few r e s = let f = (record_facts r s).counts in rw e (f.G_high, f.C_high)

pub stored_sound : (b : Book) → Facts b → sound (figures (stored b)) ≡ true
stored_sound b f = rw (figures_stored b (facts_cut b f)) (facts_sound b f)

module _ (rule : Rule) (r : Record) where
  pub number_unsound : sound (figures r) ≡ false → number_on rule r ≡ 1
  unfolding number_on
  number_unsound e = rw e

  pub number_sound : sound (figures r) ≡ true → number_on rule r ≡ rule.refusal (figures r)
  unfolding number_on
  number_sound e = rw e

  -- a call is accepted on sound records only
  pub accepted_sound : number_on rule r ≡ 0 → sound (figures r) ≡ true
  unfolding number_on
  accepted_sound = go (sound (figures r)) refl
    where
      go : (t : Bool) → sound (figures r) ≡ t → (if t then rule.refusal (figures r) else 1) ≡ 0 → sound (figures r) ≡ true
      go true e z = e
      go false e z = absurd (omega arith)

  pub record_accepted : number_on rule r ≡ 0 → record_after rule r ≡ stored (rule.after (figures r))
  unfolding record_after
  record_accepted e = rw (eq-eqb (number_on rule r) 0 e)

  pub record_refused : (number_on rule r ≡ 0 → ⊥) → record_after rule r ≡ r
  unfolding record_after
  record_refused e = rw (ne_eqb (number_on rule r) 0 e)

  pub output_accepted : (lent : List ℕ) → number_on rule r ≡ 0 → output_after rule r lent ≡ rule.output (figures r)
  unfolding output_after
  output_accepted lent e = rw (eq-eqb (number_on rule r) 0 e)

  pub output_refused : (lent : List ℕ) → (number_on rule r ≡ 0 → ⊥) → output_after rule r lent ≡ lent
  unfolding output_after
  output_refused lent e = rw (ne_eqb (number_on rule r) 0 e)

  -- what an accepted call makes of a record's figures is sound
  pub accepted_keeps : Keeps rule → number_on rule r ≡ 0 → Facts (rule.after (figures r))
  accepted_keeps keeps z = let s = accepted_sound z in keeps (figures r) (record_facts r s) (sym (number_sound s) ∙ z)

  -- Soundness is kept from any sound record, by every call, refused or accepted.
  pub stays_sound : Keeps rule → sound (figures r) ≡ true → sound (figures (record_after rule r)) ≡ true
  stays_sound keeps e = go (eqb (number_on rule r) 0) refl
    where
      go : (t : Bool) → eqb (number_on rule r) 0 ≡ t → sound (figures (record_after rule r)) ≡ true
      go true q =
          let z = eqb-true (number_on rule r) 0 q in
          rw (record_accepted z) (stored_sound (rule.after (figures r)) (accepted_keeps keeps z))
      go false q = rw (record_refused (eqb-false (number_on rule r) 0 q)) e

-- ---- from what a call gave

module _ {rule : Rule} {r : Record} {lent : List ℕ} {number : ℕ} {r' : Record} {out' : List ℕ} (c : Called rule r lent number r' out') where
  pub refused_record : (number ≡ 0 → ⊥) → r' ≡ r
  refused_record not-0 = c.record_is ∙ record_refused rule r (λ z. not-0 (c.number_is ∙ z))

  pub accepted_output : number ≡ 0 → out' ≡ rule.output (figures r)
  accepted_output z = c.output_is ∙ output_accepted rule r lent (sym c.number_is ∙ z)

  -- the figures of the record that it left are what the rule makes of those before
  pub accepted_figures : Keeps rule → number ≡ 0 → figures r' ≡ rule.after (figures r)
  accepted_figures keeps z =
      let e : number_on rule r ≡ 0 = sym c.number_is ∙ z in
      ap figures (c.record_is ∙ record_accepted rule r e) ∙ figures_stored (rule.after (figures r)) (facts_cut (rule.after (figures r)) (accepted_keeps rule r keeps e))

-- ---- a call on the record stored of a book

module _ (rule : Rule) (b : Book) (f : Facts b) where
  pub stored_number : number_on rule (stored b) ≡ rule.refusal b
  stored_number = number_sound rule (stored b) (stored_sound b f) ∙ ap rule.refusal (figures_stored b (facts_cut b f))

  pub stored_record : record_after rule (stored b) ≡ stored (if eqb (rule.refusal b) 0 then rule.after b else b)
  unfolding record_after
  stored_record = rw (stored_number, figures_stored b (facts_cut b f)) (go (eqb (rule.refusal b) 0))
    where
      go : (t : Bool) → (if t then stored (rule.after b) else stored b) ≡ stored (if t then rule.after b else b)
      go true = refl
      go false = refl

  pub stored_output : (lent : List ℕ) → output_after rule (stored b) lent ≡ (if eqb (rule.refusal b) 0 then rule.output b else lent)
  unfolding output_after
  stored_output lent = rw (stored_number, figures_stored b (facts_cut b f))

-- a call always gives something
pub called : (rule : Rule) (r : Record) (lent : List ℕ) → Called rule r lent (number_on rule r) (record_after rule r) (output_after rule r lent)
called rule r lent = record { number_is = refl; record_is = refl; output_is = refl }
