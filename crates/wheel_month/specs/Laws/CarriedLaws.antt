-- Laws of the calls of a list, one after the other. Assumes nothing.
use Rattle.std.specs.Prelude.{ℕ, ◌≡◌, Bool, List, [], ◌∷◌, ◌++◌, length, if◌then◌else◌}
use Rattle.std.proofs.Math.Path.{refl, subst}
use Rattle.std.proofs.Common.{sym, ap, ◌∙◌}
use Rattle.std.proofs.Math.Bool.{true, false}
use borrow.Author.Tests.{eqb-true, eqb-false, eq-eqb}
use Rattle.std.proofs.Math.Dec.{eqb}
use Rattle.record.specs.Book.{Book}
use Rattle.record.specs.Stored.{figures}
use Rattle.record.specs.Sound.{sound}
use Rattle.record.specs.Laws.SoundLaws.{Facts, facts_sound, facts_cut}
use Rattle.record.specs.Laws.StoredLaws.{figures_stored}
use Rattle.record.specs.Called.{record_after, Called}
use Rattle.record.specs.Laws.CalledLaws.{record_facts, number_sound, record_accepted}
use Rattle.record.specs.declared.Record.{Record}
use Rattle.record.specs.declared.Answer.{Answer}
use Rattle.record_layout.specs.OnBytes.{record_in, CalledOn, book_in}
use Rattle.record_layout.specs.Laws.OnBytesLaws.{on_struct}
use Rattle.book.specs.BookCalls.{Call, rule_of, next, book_after, book_answers}
use Rattle.book.proofs.Demand3Proof.{call_keeps}
use Rattle.wheel_rules.specs.Display.{first_refused}
use Rattle.wheel_month.specs.Laws.Carried.{Holds, Carried, Ready, answered}
use Rattle.record_places.specs.RecordSize.{record_bytes}

-- ---- one call

-- an accepted call's record holds the next book
next_held : (k : Call) (r : Record) → sound (figures r) ≡ true → (rule_of k).refusal (figures r) ≡ 0 → Holds (record_after (rule_of k) r) (next (figures r) k)
unfolding next
next_held k r s z =
    let b = (rule_of k).after (figures r) in
    let f : Facts b = call_keeps k (figures r) (record_facts r s) z in
    let e = record_accepted (rule_of k) r (number_sound (rule_of k) r s ∙ z) in
    rw (eq-eqb ((rule_of k).refusal (figures r)) 0 z)
    (record { is = ap figures e ∙ figures_stored b (facts_cut b f); sound_is = facts_sound b f })

module _ (k : Call) {r : Record} {lent out' : List ℕ} {a : Answer} (s : sound (figures r) ≡ true) (h : Called (rule_of k) r lent a.number a.after out') where
  number_book : a.number ≡ (rule_of k).refusal (figures r)
  number_book = h.number_is ∙ number_sound (rule_of k) r s

  carried_one : Carried (figures r) (k ∷ []) a
  unfolding book_answers book_after first_refused
  carried_one =
      record {
        number_is = number_book ∙ go (eqb ((rule_of k).refusal (figures r)) 0) refl;
        holds = λ z. subst (λ (x : Record). Holds x (next (figures r) k)) (sym h.record_is) (next_held k r s (sym number_book ∙ z));
      }
    where
      go : (t : Bool) → eqb ((rule_of k).refusal (figures r)) 0 ≡ t → (rule_of k).refusal (figures r) ≡ (if t then 0 else (rule_of k).refusal (figures r))
      go true e = eqb-true ((rule_of k).refusal (figures r)) 0 e
      go false e = refl

-- the same on the record's bytes
pub carried_on : (k : Call) {bytes lent bytes' out : List ℕ} {n : ℕ} → Ready bytes → CalledOn (rule_of k) bytes lent n bytes' out → Carried (book_in bytes) (k ∷ []) (answered n bytes')
carried_on k {bytes} {lent} {bytes'} {out} {n} q h = carried_one k {a = answered n bytes'} q.sound_is (on_struct (record_in bytes) (record_in bytes') (call_keeps k) refl refl h)

-- ---- lists of calls

pub carried_none : (bytes : List ℕ) → Ready bytes → Carried (book_in bytes) [] (answered 0 bytes)
unfolding book_answers book_after first_refused
carried_none bytes q = record { number_is = refl; holds = λ z. record { is = refl; sound_is = q.sound_is } }

book_append : (b : Book) (ks js : List Call) → book_after b (ks ++ js) ≡ book_after (book_after b ks) js
unfolding book_after
book_append b [] js = refl
book_append b (k ∷ ks) js = book_append (next b k) ks js

-- the calls of the first list are accepted: the number is that of the second, on the book after the first
first_accepted : (b : Book) (ks js : List Call) → first_refused (book_answers b ks) ≡ 0 → first_refused (book_answers b (ks ++ js)) ≡ first_refused (book_answers (book_after b ks) js)
unfolding book_answers book_after first_refused
first_accepted b [] js z = refl
first_accepted b (k ∷ ks) js z = go (eqb ((rule_of k).refusal b) 0) refl z (first_accepted (next b k) ks js)
  where
    go : (t : Bool) → eqb ((rule_of k).refusal b) 0 ≡ t
        → (if t then first_refused (book_answers (next b k) ks) else (rule_of k).refusal b) ≡ 0
        → (first_refused (book_answers (next b k) ks) ≡ 0 → first_refused (book_answers (next b k) (ks ++ js)) ≡ first_refused (book_answers (book_after (next b k) ks) js))
        → (if t then first_refused (book_answers (next b k) (ks ++ js)) else (rule_of k).refusal b) ≡ first_refused (book_answers (book_after (next b k) ks) js)
    go true e z ih = ih z
    go false e z ih = absurd (eqb-false ((rule_of k).refusal b) 0 e z)

-- a call of the first list is refused
first_stops : (b : Book) (ks js : List Call) → (first_refused (book_answers b ks) ≡ 0 → ⊥) → first_refused (book_answers b (ks ++ js)) ≡ first_refused (book_answers b ks)
unfolding book_answers first_refused
first_stops b [] js z = absurd (z refl)
first_stops b (k ∷ ks) js z = go (eqb ((rule_of k).refusal b) 0) z (first_stops (next b k) ks js)
  where
    go : (t : Bool)
        → ((if t then first_refused (book_answers (next b k) ks) else (rule_of k).refusal b) ≡ 0 → ⊥)
        → ((first_refused (book_answers (next b k) ks) ≡ 0 → ⊥) → first_refused (book_answers (next b k) (ks ++ js)) ≡ first_refused (book_answers (next b k) ks))
        → (if t then first_refused (book_answers (next b k) (ks ++ js)) else (rule_of k).refusal b) ≡ (if t then first_refused (book_answers (next b k) ks) else (rule_of k).refusal b)
    go true z ih = ih z
    go false z ih = refl

module _ {b : Book} {ks : List Call} {a : Answer} (h : Carried b ks a) where
  -- the first list was accepted, and the second carried out on the record after it
  pub carried_then : {js : List Call} {a' : Answer} → a.number ≡ 0 → Carried (figures a.after) js a' → Carried b (ks ++ js) a'
  carried_then {js} {a'} z h' =
      let e = (h.holds z).is in
      record {
        number_is = h'.number_is ∙ ap (λ (x : Book). first_refused (book_answers x js)) e ∙ sym (first_accepted b ks js (sym h.number_is ∙ z));
        holds = λ y. subst (Holds a'.after) (ap (λ (x : Book). book_after x js) e ∙ sym (book_append b ks js)) (h'.holds y);
      }

  -- a call of the first list was refused: nothing is entered after it
  pub carried_stop : (js : List Call) → (a.number ≡ 0 → ⊥) → Carried b (ks ++ js) a
  carried_stop js z =
      record {
        number_is = h.number_is ∙ sym (first_stops b ks js (λ y. z (h.number_is ∙ y)));
        holds = λ y. absurd (z y);
      }

-- an accepted list leaves a sound record
pub carried_ready : {b : Book} {ks : List Call} {n : ℕ} {bytes : List ℕ} → Carried b ks (answered n bytes) → n ≡ 0 → length bytes ≡ record_bytes → Ready bytes
carried_ready h z whole = record { whole = whole; sound_is = rw (h.holds z).is (h.holds z).sound_is }
