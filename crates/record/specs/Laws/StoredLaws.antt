-- A record's figures and the record stored of figures are each other's inverse. Assumes nothing.
use Prim.Native.Nat.{ℕ, zero, suc, ◌≤◌}
use Rattle.std.specs.Prelude.{◌≡◌, false}
use Rattle.std.proofs.Math.Path.{refl, sym}
use Rattle.std.proofs.Common.{ap, ◌∙◌, arith}
use Rattle.lists.specs.Tables.{table}
use Rattle.lists.specs.Tests.{within}
use Rattle.lists.specs.Pairs.{place}
use Rattle.lists.specs.Laws.PairsLaws.{place_out, cell_out, place_table, cell_pairs}
use Rattle.record.specs.Book.{Book, no_injection, no_consumption, no_stocks}
use Rattle.record.specs.Stored.{generator_at, consumer_at, class_at, hours_of, plan_of, figures, stored_generators, stored_consumers, stored_stocks, stored, zeros}
use Rattle.record.specs.Sound.{counts_sound, sound}
use Rattle.record.specs.Laws.SoundLaws.{Cut}
use Rattle.record.specs.declared.Record.{Record}
use Rattle.record.specs.declared.Generators.{Generators}
use Rattle.record.specs.declared.Consumers.{Consumers}
use Rattle.record.specs.declared.GeneratorTerms.{GeneratorTerms}
use Rattle.record.specs.declared.ConsumerTerms.{ConsumerTerms}

generator_out : (t : Generators) (g : ℕ) → 8 ≤ g → generator_at t g ≡ no_injection
unfolding generator_at no_injection
generator_out t g h =
    λ i. record {
      injected = place_out 8 t.injected g h i;
      unaccounted = place_out 8 t.unaccounted g h i;
      lost = place_out 8 t.lost g h i;
      setoff = place_out 8 t.setoff g h i;
      inadvertent = place_out 8 t.inadvertent g h i;
      charge = place_out 8 t.charge g h i;
      drawn = place_out 8 t.drawn g h i;
      lapsed = place_out 8 t.lapsed g h i;
      bank = place_out 8 t.bank g h i;
      pending = place_out 8 t.pending g h i;
    }

consumer_out : (t : Consumers) (c : ℕ) → 16 ≤ c → consumer_at t c ≡ no_consumption
unfolding consumer_at no_consumption
consumer_out t c h =
    λ i. record {
      metered = place_out 16 t.metered c h i;
      setoff = place_out 16 t.setoff c h i;
      shortfall = place_out 16 t.shortfall c h i;
      drawn = place_out 16 t.drawn c h i;
      supplied = place_out 16 t.supplied c h i;
      outstanding = place_out 16 t.outstanding c h i;
    }

module _ (r : Record) where
  bank_out : (k g : ℕ) → 8 ≤ g → (hours_of r k).bank g ≡ 0
  unfolding hours_of class_at no_stocks
  bank_out zero g h = place_out 8 r.offpeak.bank g h
  bank_out (suc zero) g h = place_out 8 r.normal.bank g h
  bank_out (suc (suc zero)) g h = place_out 8 r.peak.bank g h
  bank_out (suc (suc (suc k))) g h = refl

  pending_out : (k g : ℕ) → 8 ≤ g → (hours_of r k).pending g ≡ 0
  unfolding hours_of class_at no_stocks
  pending_out zero g h = place_out 8 r.offpeak.pending g h
  pending_out (suc zero) g h = place_out 8 r.normal.pending g h
  pending_out (suc (suc zero)) g h = place_out 8 r.peak.pending g h
  pending_out (suc (suc (suc k))) g h = refl

  open_out : (k c : ℕ) → 16 ≤ c → (hours_of r k).outstanding c ≡ 0
  unfolding hours_of class_at no_stocks
  open_out zero c h = place_out 16 r.offpeak.outstanding c h
  open_out (suc zero) c h = place_out 16 r.normal.outstanding c h
  open_out (suc (suc zero)) c h = place_out 16 r.peak.outstanding c h
  open_out (suc (suc (suc k))) c h = refl

  three_out : (k : ℕ) → 3 ≤ k → hours_of r k ≡ no_stocks
  unfolding hours_of
  three_out zero h = absurd (omega arith)
  three_out (suc zero) h = absurd (omega arith)
  three_out (suc (suc zero)) h = absurd (omega arith)
  three_out (suc (suc (suc k))) h = refl

-- whatever a record holds, its figures are 0 beyond its places
pub figures_cut : (r : Record) → Cut (figures r)
unfolding figures plan_of
figures_cut r =
    record {
      kind = place_out 8 r.agreed.kind;
      installed = place_out 8 r.agreed.installed;
      contracted = place_out 8 r.agreed.contracted;
      link = cell_out 8 16 r.links.link;
      loss = cell_out 8 16 r.links.loss;
      kw = cell_out 8 16 r.schedule.kw;
      rank = cell_out 8 16 r.schedule.rank;
      gen = generator_out r.generators;
      con = consumer_out r.consumers;
      bank = bank_out r;
      pending = pending_out r;
      outstanding = open_out r;
      three = three_out r;
    }

module _ (gen : ℕ → GeneratorTerms) (z : (g : ℕ) → 8 ≤ g → gen g ≡ no_injection) where
  read8 : (f : GeneratorTerms → ℕ) → f no_injection ≡ 0 → place 8 (table 8 (λ g. f (gen g))) ≡ (λ g. f (gen g))
  read8 f e = place_table 8 (λ g. f (gen g)) (λ g h. ap f (z g h) ∙ e)

  generators_stored : generator_at (stored_generators gen) ≡ gen
  unfolding generator_at stored_generators no_injection
  generators_stored =
      λ i g. record {
        injected = read8 (λ x. x.injected) refl i g;
        unaccounted = read8 (λ x. x.unaccounted) refl i g;
        lost = read8 (λ x. x.lost) refl i g;
        setoff = read8 (λ x. x.setoff) refl i g;
        inadvertent = read8 (λ x. x.inadvertent) refl i g;
        charge = read8 (λ x. x.charge) refl i g;
        drawn = read8 (λ x. x.drawn) refl i g;
        lapsed = read8 (λ x. x.lapsed) refl i g;
        bank = read8 (λ x. x.bank) refl i g;
        pending = read8 (λ x. x.pending) refl i g;
      }

module _ (con : ℕ → ConsumerTerms) (z : (c : ℕ) → 16 ≤ c → con c ≡ no_consumption) where
  read16 : (f : ConsumerTerms → ℕ) → f no_consumption ≡ 0 → place 16 (table 16 (λ c. f (con c))) ≡ (λ c. f (con c))
  read16 f e = place_table 16 (λ c. f (con c)) (λ c h. ap f (z c h) ∙ e)

  consumers_stored : consumer_at (stored_consumers con) ≡ con
  unfolding consumer_at stored_consumers no_consumption
  consumers_stored =
      λ i c. record {
        metered = read16 (λ x. x.metered) refl i c;
        setoff = read16 (λ x. x.setoff) refl i c;
        shortfall = read16 (λ x. x.shortfall) refl i c;
        drawn = read16 (λ x. x.drawn) refl i c;
        supplied = read16 (λ x. x.supplied) refl i c;
        outstanding = read16 (λ x. x.outstanding) refl i c;
      }

module _ (b : Book) (cut : Cut b) where
  class_stored : (k : ℕ) → class_at (stored_stocks (b.hours k)) ≡ b.hours k
  unfolding class_at stored_stocks
  class_stored k =
      λ i. record {
        bank = place_table 8 (b.hours k).bank (cut.bank k) i;
        pending = place_table 8 (b.hours k).pending (cut.pending k) i;
        outstanding = place_table 16 (b.hours k).outstanding (cut.outstanding k) i;
      }

  hours_stored : (k : ℕ) → hours_of (stored b) k ≡ b.hours k
  unfolding hours_of stored
  hours_stored zero = class_stored 0
  hours_stored (suc zero) = class_stored 1
  hours_stored (suc (suc zero)) = class_stored 2
  hours_stored (suc (suc (suc k))) = sym (cut.three (suc (suc (suc k))) (omega arith))

pub figures_stored : (b : Book) → Cut b → figures (stored b) ≡ b
unfolding figures stored plan_of
figures_stored b cut =
    λ i. record {
      plan =
          record {
            G = b.plan.G;
            C = b.plan.C;
            kind = place_table 8 b.plan.kind cut.kind i;
            installed = place_table 8 b.plan.installed cut.installed i;
            contracted = place_table 8 b.plan.contracted cut.contracted i;
            link = cell_pairs 8 16 b.plan.link cut.link i;
            loss = cell_pairs 8 16 b.plan.loss cut.loss i;
            kw = cell_pairs 8 16 b.plan.kw cut.kw i;
            rank = cell_pairs 8 16 b.plan.rank cut.rank i;
          };
      rate = b.rate;
      cycle = b.cycle;
      gone = b.gone;
      unitblocks = b.unitblocks;
      monthblocks = b.monthblocks;
      gen = generators_stored b.gen cut.gen i;
      con = consumers_stored b.con cut.con i;
      switch = b.switch;
      closings = b.closings;
      hours = λ k. hours_stored b cut k i;
    }

-- the record that a refused opening returns is not sound
pub zeros_unsound : sound (figures zeros) ≡ false
unfolding sound figures zeros stored plan_of counts_sound within
zeros_unsound = refl
