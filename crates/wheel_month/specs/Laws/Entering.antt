-- Agreement A and the lines of a table entered under it, as the functions make the calls. Assumes nothing.
use Rattle.std.specs.Prelude.{ℕ, suc, ◌+◌, ◌-◌, ◌≤◌, ◌<◌, ◌≡◌, List, [], ◌∷◌, ◌++◌, length, drop, get_or}
use Rattle.std.proofs.Math.Path.{refl}
use Rattle.std.proofs.Common.{sym, ap, ◌∙◌, subst, arith, eq-eqb, length-drop, drop-cons}
use Rattle.record.specs.Book.{Book}
use Rattle.record.specs.Stored.{figures, stored}
use Rattle.record.specs.Sound.{sound}
use Rattle.record.specs.Laws.SoundLaws.{Facts, facts_sound, facts_cut}
use Rattle.record.specs.Laws.StoredLaws.{figures_stored}
use Rattle.record.specs.declared.Record.{Record}
use Rattle.record.specs.declared.Answer.{Answer}
use Rattle.record_layout.specs.OnBytes.{book_in, CalledOn, record_in}
use Rattle.agreement_rules.specs.Opening.{opening_refusal, opened, Opened}
use Rattle.agreement_rules.specs.Laws.OpeningLaws.{accepted_permitted, opened_facts}
use Rattle.agreement_rules.specs.Schedule.{schedule_rule}
use Rattle.book.specs.BookCalls.{block, closing, rule_of, book_after, BookAnswer, book_answers}
use Rattle.book.specs.AgreementA.{agreement_a, schedule_a}
use Rattle.book.proofs.BenchCases.{bench_cases}
use Rattle.wheel_rules.specs.Display.{blocks, calls, call_number, last_book, first_refused}
use Rattle.agreement_rules.specs.OpenedOn.{OpenedOn}
use Rattle.opening.specs.Laws.OpenedOnLaws.{opened_back}
use Rattle.wheel_month.specs.Laws.Carried.{Holds, Carried, Ready, answered}
use Rattle.wheel_month.specs.Laws.CarriedLaws.{carried_on, carried_none, carried_then, carried_stop, carried_ready}
use Rattle.record_places.specs.RecordSize.{record_bytes}

-- ---- agreement A

opening_accepted : opening_refusal agreement_a ≡ 0
opening_accepted = omega (arith, bench_cases.all_opened)

first : List BookAnswer → ℕ
first [] = 0
first (e ∷ es) = e.number

schedule_accepted : (rule_of schedule_a).refusal (opened agreement_a) ≡ 0
unfolding book_answers first
schedule_accepted = ap first bench_cases.P1

opened_held : {number : ℕ} {r : Record} → Opened agreement_a number r → Holds r (opened agreement_a)
opened_held {number} {r} h =
    let f : Facts (opened agreement_a) = opened_facts agreement_a (accepted_permitted agreement_a opening_accepted) in
    let e : r ≡ stored (opened agreement_a) = h.record_is ∙ rw (eq-eqb (opening_refusal agreement_a) 0 opening_accepted) in
    record { is = ap figures e ∙ figures_stored (opened agreement_a) (facts_cut (opened agreement_a) f); sound_is = facts_sound (opened agreement_a) f }

-- the first call's number is the schedule's
schedule_first : first_refused (book_answers (opened agreement_a) (schedule_a ∷ [])) ≡ 0
unfolding book_answers first_refused
schedule_first = rw (eq-eqb ((rule_of schedule_a).refusal (opened agreement_a)) 0 schedule_accepted)

-- the record that agreement A starts with, in the bytes
pub agreement_held : {s s₁ s₂ : List ℕ} {n m : ℕ} → OpenedOn agreement_a s n s₁ → length s₁ ≡ record_bytes → CalledOn (schedule_rule (100 ∷ 200 ∷ []) (1 ∷ 1 ∷ [])) s₁ [] m s₂ []
    → Holds (record_in s₂) (book_after (opened agreement_a) (schedule_a ∷ []))
unfolding rule_of
agreement_held {s} {s₁} {s₂} {n} {m} o whole h =
    let q = opened_held (opened_back o (o.number_is ∙ opening_accepted) refl) in
    let k : Carried (opened agreement_a) (schedule_a ∷ []) (answered m s₂) =
    subst (λ (b : Book). Carried b (schedule_a ∷ []) (answered m s₂)) q.is (carried_on schedule_a (record { whole = whole; sound_is = ap sound q.is ∙ q.sound_is }) h) in
    k.holds (k.number_is ∙ schedule_first)

-- ---- lines

pub blocks_none : (vs : List ℕ) → length vs ≤ 2 → blocks vs ≡ []
unfolding blocks
blocks_none [] h = refl
blocks_none (e ∷ []) h = refl
blocks_none (e ∷ r₁ ∷ []) h = refl
blocks_none (e ∷ r₁ ∷ r₂ ∷ vs) h = absurd (omega arith)

pub blocks_line : (vs : List ℕ) (i : ℕ) → 2 < length vs - i
    → blocks (drop i vs) ≡ block (get_or vs i 0 ∷ []) (get_or vs (i + 1) 0 ∷ get_or vs (i + 2) 0 ∷ []) 11 ∷ blocks (drop (i + 3) vs)
unfolding blocks
blocks_line vs i h =
    let a : i + 1 ≡ suc i = omega arith in
    let b : i + 2 ≡ suc (suc i) = omega arith in
    let c : i + 3 ≡ suc (suc (suc i)) = omega arith in
    rw (a, b, c, drop-cons vs i 0 (omega arith), drop-cons vs (suc i) 0 (omega arith), drop-cons vs (suc (suc i)) 0 (omega arith))

-- The invariant of the loop over the lines: i values are entered, and carrying out the lines after them on the record in the bytes at
-- carries out all lines on the record that start held.
pub record Entering (start vs at : List ℕ) (i : ℕ) : Type 0 where
  pub within : i ≤ length vs
  pub ready : Ready at
  pub rest : (a : Answer) → Carried (book_in at) (blocks (drop i vs)) a → Carried (book_in start) (blocks vs) a

pub entering_start : (s vs : List ℕ) → Ready s → Entering s vs s 0
entering_start s vs q = record { within = omega arith; ready = q; rest = λ a h. h }

module _ {start vs at : List ℕ} {i : ℕ} (h : Entering start vs at i) where
  module _ (s : List ℕ) {n : ℕ} (l : 2 < length vs - i) (k : Carried (book_in at) (block (get_or vs i 0 ∷ []) (get_or vs (i + 1) 0 ∷ get_or vs (i + 2) 0 ∷ []) 11 ∷ []) (answered n s)) where
    pub entering_step : n ≡ 0 → length s ≡ record_bytes → Entering start vs s (i + 3)
    entering_step z whole =
        record {
          within = omega arith;
          ready = carried_ready k z whole;
          rest = λ a k'. h.rest a (rw (blocks_line vs i l) (carried_then k z k'));
        }

    pub entering_stop : (n ≡ 0 → ⊥) → Carried (book_in start) (blocks vs) (answered n s)
    entering_stop z = h.rest (answered n s) (rw (blocks_line vs i l) (carried_stop k (blocks (drop (i + 3) vs)) z))

  pub entering_done : length vs - i ≤ 2 → Carried (book_in start) (blocks vs) (answered 0 at)
  entering_done l = h.rest (answered 0 at) (rw (blocks_none (drop i vs) (omega (arith, length-drop i vs))) (carried_none at h.ready))

-- ---- the month

scheduled : {r : Record} → Holds r (book_after (opened agreement_a) (schedule_a ∷ [])) → Carried (opened agreement_a) (schedule_a ∷ []) (record { number = 0; after = r })
scheduled {r} q = record { number_is = sym schedule_first; holds = λ z. q }

module _ (s : List ℕ) (q : Holds (record_in s) (book_after (opened agreement_a) (schedule_a ∷ []))) where
  pub month_ready : length s ≡ record_bytes → Ready s
  month_ready whole = record { whole = whole; sound_is = ap sound q.is ∙ q.sound_is }

  pub month_carried : (vs s' : List ℕ) {n : ℕ} {after : Record} → Carried (book_in s) (blocks vs ++ (closing 9 ∷ [])) (answered n s') → after ≡ record_in s'
      → Carried (opened agreement_a) (calls vs) (record { number = n; after = after })
  unfolding calls
  month_carried vs s' k loaded = rw loaded (carried_then (scheduled q) refl k)

  module _ (vs s' : List ℕ) {n : ℕ} (k : Carried (book_in s) (blocks vs ++ (closing 9 ∷ [])) (answered n s')) where
    pub month_number : n ≡ call_number vs
    unfolding call_number
    month_number = (month_carried vs s' k refl).number_is

    pub month_holds : {after : Record} → n ≡ 0 → after ≡ record_in s' → Holds after (last_book vs)
    unfolding last_book
    month_holds z loaded = (month_carried vs s' k loaded).holds z
