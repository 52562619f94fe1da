-- A record made of its parts is the one that the rules store. Assumes nothing.
use Rattle.std.specs.Prelude.{ℕ, ◌*◌, ◌≤◌, ◌≡◌, refl, List, drop, replicate}
use Rattle.std.proofs.Common.{sym, ap, ◌∙◌, eq-eqb, ne_eqb}
use Rattle.lists.specs.Tables.{table}
use Rattle.lists.specs.Pairs.{cell, pairs}
use Rattle.record.specs.Book.{no_injection, no_consumption, no_stocks}
use Rattle.record.specs.Stored.{stored_generators, stored_consumers, stored_stocks, stored, zeros}
use Rattle.record.specs.declared.Terms.{Terms}
use Rattle.record.specs.declared.Counts.{Counts}
use Rattle.record.specs.declared.Agreed.{Agreed}
use Rattle.record.specs.declared.Links.{Links}
use Rattle.record.specs.declared.Schedule.{Schedule}
use Rattle.record.specs.declared.Generators.{Generators}
use Rattle.record.specs.declared.Consumers.{Consumers}
use Rattle.record.specs.declared.Switch.{Switch}
use Rattle.record.specs.declared.Stocks.{Stocks}
use Rattle.record.specs.declared.Record.{Record}
use Rattle.agreement_rules.specs.Opening.{Opening, asked, first_gone, kind_of, installed_of, contracted_of, link_of, rate_of_loss, opening_refusal, opened, Opened}
use Rattle.agreement_rules.specs.Laws.AgreedReadingLaws.{cell_drop_none, cell_take, cell_ones}
use Rattle.agreement_rules.specs.Laws.AgreedParts.{terms_from, first_counts, first_switch, agreed_from, links_from, first_schedule}

-- ---- opening

pub links_from_lem : (n m : ℕ) (xs : List ℕ) {a b : List ℕ} → a ≡ pairs 8 16 (cell n m (drop 0 xs)) → b ≡ pairs 8 16 (cell n m (drop (n * m) xs)) →
    record { link = a; loss = b } ≡ links_from n m xs
unfolding links_from
links_from_lem n m xs p q = λ i. record { link = (p ∙ ap (pairs 8 16) (cell_drop_none n m xs ∙ sym (cell_take n m xs))) i; loss = q i }

pub zeros8 : replicate {A = ℕ} 8 0 ≡ table 8 (λ g. 0)
unfolding table
zeros8 = refl

pub zeros128 : replicate 128 0 ≡ pairs 8 16 (λ g c. 0)
unfolding table pairs
zeros128 = refl

pub first_schedule_lem : (n m : ℕ) {b : List ℕ} → n ≤ 8 → m ≤ 16 → b ≡ pairs 8 16 (cell n m (drop 0 (replicate 128 1))) → record { kw = replicate 128 0; rank = b } ≡ first_schedule n m
unfolding first_schedule
first_schedule_lem n m h k q = λ i. record { kw = zeros128 i; rank = (q ∙ ap (pairs 8 16) (cell_drop_none n m (replicate 128 1) ∙ cell_ones n m h k)) i }

pub zero_parts : {t : Terms} {n : Counts} {x : Generators} {y : Consumers} {w : Switch} {z : Stocks} → t ≡ terms_from 0 0 0 0 → n ≡ first_counts 0 0 →
    x ≡ stored_generators (λ g. no_injection) → y ≡ stored_consumers (λ c. no_consumption) → w ≡ first_switch 0 → z ≡ stored_stocks no_stocks →
    record {
      terms = t;
      counts = n;
      agreed = record { kind = replicate 8 0; installed = replicate 8 0; contracted = replicate 8 0 };
      links = record { link = replicate 128 0; loss = replicate 128 0 };
      schedule = record { kw = replicate 128 0; rank = replicate 128 0 };
      generators = x;
      consumers = y;
      switch = w;
      offpeak = z;
      normal = z;
      peak = z;
    } ≡ zeros
unfolding zeros stored terms_from first_counts first_gone first_switch
zero_parts t n x y w z =
    λ i. record {
      terms = t i;
      counts = n i;
      agreed = record { kind = zeros8 i; installed = zeros8 i; contracted = zeros8 i };
      links = record { link = zeros128 i; loss = zeros128 i };
      schedule = record { kw = zeros128 i; rank = zeros128 i };
      generators = x i;
      consumers = y i;
      switch = w i;
      offpeak = z i;
      normal = z i;
      peak = z i;
    }

module _ (G C rate cycle gone switch : ℕ) (generators pairs : List ℕ) where
  pub opened_parts : {t : Terms} {n : Counts} {a : Agreed} {l : Links} {s : Schedule} {x : Generators} {y : Consumers} {w : Switch} {z : Stocks} →
      t ≡ terms_from G C rate cycle → n ≡ first_counts gone switch → a ≡ agreed_from G generators → l ≡ links_from G C pairs → s ≡ first_schedule G C →
      x ≡ stored_generators (λ g. no_injection) → y ≡ stored_consumers (λ c. no_consumption) → w ≡ first_switch switch → z ≡ stored_stocks no_stocks →
      record { terms = t; counts = n; agreed = a; links = l; schedule = s; generators = x; consumers = y; switch = w; offpeak = z; normal = z; peak = z } ≡
      stored (opened (asked G C rate cycle gone switch generators pairs))
  unfolding stored opened terms_from first_counts agreed_from links_from first_schedule first_switch kind_of installed_of contracted_of link_of rate_of_loss
  opened_parts t n a l s x y w z =
      λ i. record { terms = t i; counts = n i; agreed = a i; links = l i; schedule = s i; generators = x i; consumers = y i; switch = w i; offpeak = z i; normal = z i; peak = z i }

pub opening_accepted : {o : Opening} {r : Record} → opening_refusal o ≡ 0 → r ≡ stored (opened o) → Opened o 0 r
opening_accepted {o} {r} z e = record { number_is = sym z; record_is = rw (eq-eqb (opening_refusal o) 0 z) e }

pub opening_refused : {o : Opening} {n : ℕ} {r : Record} → (n ≡ 0 → ⊥) → n ≡ opening_refusal o → r ≡ zeros → Opened o n r
opening_refused {o} {n} {r} z e q = record { number_is = e; record_is = rw (ne_eqb (opening_refusal o) 0 (λ y. z (e ∙ y))) q }
