-- Demand 3 holds on the bytes: the theorem `byte_demand_3`, and that its lists of calls exist. The calls on bytes are calls on the numbers
-- that the bytes hold, so `demand_3` applies. Assumes nothing.
use Rattle.std.specs.Prelude.{ℕ, zero, suc, ◌^◌, ◌≡◌, Bool, List, [], ◌∷◌, map, length, take, if◌then◌else◌}
use Rattle.std.proofs.Math.Path.{refl, sym, ap}
use Rattle.std.proofs.Common.{◌∙◌, subst, arith, eqb-true, eq-eqb}
use Rattle.std.proofs.Math.Bool.{true, false}
use Rattle.std.proofs.lemmas.Bool.{eqb-false}
use Rattle.std.proofs.Math.Dec.{eqb}
use Rattle.output_lists.specs.Laws.Bounds.{Moderate}
use Rattle.codec.specs.Bytes.{encode}
use Rattle.codec.specs.Laws.BytesLaws.{Below}
use Rattle.record.specs.Book.{Book}
use Rattle.record.specs.Stored.{figures, stored}
use Rattle.record.specs.Laws.StoredLaws.{figures_stored}
use Rattle.record.specs.Laws.SoundLaws.{Facts, facts_cut}
use Rattle.record.specs.RecordWords.{words}
use Rattle.record.specs.Called.{Rule, number_on, Called}
use Rattle.record.specs.Laws.CalledLaws.{stored_number, stored_record, stored_output}
use Rattle.record.specs.declared.Record.{Record}
use Rattle.record_layout.specs.Laws.LayoutLaws.{bytes_of_stored, record_of_bytes}
use Rattle.agreement_rules.specs.Opening.{Opening, opening_refusal, opened, Opened, Permitted}
use Rattle.agreement_rules.specs.OpenedOn.{OpenedOn}
use Rattle.agreement_rules.specs.Laws.OpeningLaws.{permitted_accepted}
use Rattle.agreement_rules.specs.Schedule.{schedule_rule}
use Rattle.block_rules.specs.Block.{block_rule}
use Rattle.block_rules.proofs.BlockAccepted.{block_output_moderate}
use Rattle.closing_rules.specs.Closing.{closing_rule}
use Rattle.closing_rules.proofs.ClosingRoom.{closing_output_moderate}
use Rattle.book.specs.BookCalls.{Call, schedule, block, closing, rule_of, next, book_after, book_answers}
use Rattle.book.specs.Trace.{Ask, call_of, Given, Done, Trace, trace_none, trace_one, last_record}
use Rattle.book.proofs.Demand3Proof.{Kept, next_kept, opened_kept, demand_3}
use Rattle.record_layout.specs.OnBytes.{record_in, bytes_after, book_in}
use Rattle.wheeling_rules.specs.Wheeling.{numbers_in, ByRule, OnBytes, opening_in, ByteOpened, CalledOnBytes}
use Rattle.wheeling_rules.specs.Laws.BytesReadLaws.{numbers_encode, numbers_none, no_bytes}
use Rattle.byte_book.specs.ByteTrace.{ByteAsk, byte_schedule, byte_block, byte_closing, ask_in, bytes_lent, ByteGiven, given_in, ByteDone, ByteTrace, bytes_none, bytes_one, last_bytes}
use Rattle.byte_book.specs.ByteDemand3.{ByteMatch, ByteMatches, match_none, match_one, calls_in, ByteDemand3, ByteClaim}
use Rattle.record_places.specs.RecordSize.{record_bytes}

-- ---- every number of an accepted call's output fits its 8 bytes

moderate_below : {xs : List ℕ} → Moderate xs → Below (256 ^ 8) xs
moderate_below h i = omega (arith, h.at i)

output_below : (b : Book) → Facts b → (k : Call) → (rule_of k).refusal b ≡ 0 → Below (256 ^ 8) ((rule_of k).output b)
unfolding rule_of schedule_rule closing_rule
output_below b f (schedule kws ranks) z = λ i. omega arith
output_below b f (block entry exit size) z =
    let rule = block_rule entry exit size in
    rw (figures_stored b (facts_cut b f)) at (moderate_below (block_output_moderate (stored b) entry exit size (stored_number rule b f ∙ z)))
output_below b f (closing size) z = moderate_below (closing_output_moderate b f)

-- ---- the bytes of a record stored of the book

module _ (b : Book) (f : Facts b) {s : List ℕ} (q : s ≡ encode 8 (words (stored b))) where
  whole_record : length s ≡ record_bytes
  whole_record = ap length q ∙ bytes_of_stored b

  record_in_lem : record_in s ≡ stored b
  record_in_lem = rw q (record_of_bytes b f)

-- ---- one call, on the bytes s of the record stored of book b

module _ (o : Opening) (b : Book) (h : Kept o b) (k : Call) {s lent s' lent' : List ℕ} {n : ℕ} (q : s ≡ encode 8 (words (stored b))) (c : ByRule (rule_of k) s lent n s' lent') where
  in_record : record_in s ≡ stored b
  in_record = record_in_lem b h.facts q

  figures_are : book_in s ≡ b
  figures_are = ap figures in_record ∙ figures_stored b (facts_cut b h.facts)

  number_on_lem : n ≡ number_on (rule_of k) (stored b)
  number_on_lem = c.number_is ∙ ap (number_on (rule_of k)) in_record

  number_is : n ≡ (rule_of k).refusal b
  number_is = number_on_lem ∙ stored_number (rule_of k) b h.facts

  bytes_are : s' ≡ encode 8 (words (stored (next b k)))
  unfolding bytes_after next
  bytes_are =
      go (eqb ((rule_of k).refusal b) 0)
      (c.record_is ∙ (λ i. bytes_after (number_is i) (words (stored ((rule_of k).after (figures_are i)))) s))
    where
      go : (u : Bool) → s' ≡ (if u then encode 8 (words (stored ((rule_of k).after b))) else s) → s' ≡ encode 8 (words (stored (if u then (rule_of k).after b else b)))
      go true p = p
      go false p = p ∙ q

  output_is : lent' ≡ bytes_after ((rule_of k).refusal b) ((rule_of k).output b) lent
  output_is = c.output_is ∙ (λ i. bytes_after (number_is i) ((rule_of k).output (figures_are i)) lent)

  numbers_out : numbers_in 8 lent' ≡ (if eqb ((rule_of k).refusal b) 0 then (rule_of k).output b else numbers_in 8 lent)
  unfolding bytes_after
  numbers_out = go (eqb ((rule_of k).refusal b) 0) refl output_is
    where
      go : (u : Bool) → eqb ((rule_of k).refusal b) 0 ≡ u → lent' ≡ (if u then encode 8 ((rule_of k).output b) else lent) →
          numbers_in 8 lent' ≡ (if u then (rule_of k).output b else numbers_in 8 lent)
      go true z p = ap (numbers_in 8) p ∙ numbers_encode ((rule_of k).output b) (output_below b h.facts k (eqb-true ((rule_of k).refusal b) 0 z))
      go false z p = ap (numbers_in 8) p

  numbers_called : Called (rule_of k) (stored b) (numbers_in 8 lent) n (record_in s') (numbers_in 8 lent')
  unfolding next
  numbers_called =
      record {
        number_is = number_on_lem;
        record_is = record_in_lem (next b k) (next_kept o b k h).facts bytes_are ∙ sym (stored_record (rule_of k) b h.facts);
        output_is = numbers_out ∙ sym (stored_output (rule_of k) b h.facts (numbers_in 8 lent));
      }

-- what one call gives, by the book
record Step (o : Opening) (b : Book) (a : ByteAsk) (w : ByteGiven) : Type 0 where
  done : Done (stored b) (ask_in a) (given_in w)
  matches : ByteMatch a w (record { number = (rule_of (call_of (ask_in a))).refusal b; output = (rule_of (call_of (ask_in a))).output b })
  left : w.bytes ≡ encode 8 (words (stored (next b (call_of (ask_in a)))))

module _ (o : Opening) (b : Book) (h : Kept o b) {s : List ℕ} (q : s ≡ encode 8 (words (stored b))) where
  one_call : (a : ByteAsk) (w : ByteGiven) → ByteDone s a w → Step o b a w
  unfolding ByteDone Done ask_in given_in call_of bytes_lent rule_of
  one_call (byte_schedule kws ranks) w (d, e) =
      let k = schedule (numbers_in 4 kws) (numbers_in 4 ranks) in
      let c = d.whole (whole_record b h.facts q) in
      record {
        done = (rw numbers_none at (numbers_called o b h k q c), ap (numbers_in 8) e ∙ numbers_none);
        matches = record { number_is = number_is o b h k q c; output_is = e ∙ output_is o b h k q c };
        left = bytes_are o b h k q c;
      }
  one_call (byte_block entry exit lent) w d =
      let k = block (numbers_in 4 entry) (numbers_in 4 exit) (length (numbers_in 8 lent)) in
      let c = d.whole (whole_record b h.facts q) in
      record {
        done = numbers_called o b h k q c;
        matches = record { number_is = number_is o b h k q c; output_is = output_is o b h k q c };
        left = bytes_are o b h k q c;
      }
  one_call (byte_closing lent) w d =
      let k = closing (length (numbers_in 8 lent)) in
      let c = d.whole (whole_record b h.facts q) in
      record {
        done = numbers_called o b h k q c;
        matches = record { number_is = number_is o b h k q c; output_is = output_is o b h k q c };
        left = bytes_are o b h k q c;
      }

-- ---- a list of calls

given_after : (w : ByteGiven) (as' : List Ask) (ws : List Given) {r : Record} → r ≡ record_in w.bytes → Trace r as' ws → Trace (given_in w).answer.after as' ws
unfolding given_in
given_after w as' ws e t = subst (λ (r : Record). Trace r as' ws) e t

follows : (o : Opening) (b : Book) → Kept o b → (s : List ℕ) → s ≡ encode 8 (words (stored b)) → {asks : List ByteAsk} {ws : List ByteGiven} → ByteTrace s asks ws →
    Trace (stored b) (map ask_in asks) (map given_in ws) × (ByteMatches asks ws (book_answers b (calls_in asks)) × (last_bytes s ws ≡ encode 8 (words (stored (book_after b (calls_in asks))))))
unfolding book_answers book_after last_bytes
follows o b h s q bytes_none = (trace_none, (match_none, q))
follows o b h s q (bytes_one {a = a} {w = w} {as' = as'} {ws = ws} d rest) =
    let k = call_of (ask_in a) in
    let one = one_call o b h q a w d in
    let next-facts = next_kept o b k h in
    let ih = follows o (next b k) next-facts w.bytes one.left rest in
    let after : record_in w.bytes ≡ stored (next b k) = record_in_lem (next b k) next-facts.facts one.left in
    (trace_one one.done (given_after w (map ask_in as') (map given_in ws) (sym after) ih.0), (match_one one.matches ih.1.0, ih.1.1))

trace_take : (n : ℕ) {s : List ℕ} {asks : List ByteAsk} {ws : List ByteGiven} → ByteTrace s asks ws → ByteTrace s (take n asks) (take n ws)
trace_take zero t = bytes_none
trace_take (suc n) bytes_none = bytes_none
trace_take (suc n) (bytes_one d rest) = bytes_one d (trace_take n rest)

last_record_lem : (s : List ℕ) (ws : List ByteGiven) → last_record (record_in s) (map given_in ws) ≡ record_in (last_bytes s ws)
unfolding last_record last_bytes given_in
last_record_lem s [] = refl
last_record_lem s (w ∷ ws) = last_record_lem w.bytes ws

module _ (o : Opening) (p : Permitted o) (s₀ : List ℕ) (q : s₀ ≡ encode 8 (words (stored (opened o)))) where
  kept : Kept o (opened o)
  kept = opened_kept o p

  starts : record_in s₀ ≡ stored (opened o)
  starts = record_in_lem (opened o) kept.facts q

  opened_numbers : Opened o 0 (record_in s₀)
  opened_numbers =
      let z = permitted_accepted o p in
      record { number_is = sym z; record_is = starts ∙ rw (eq-eqb (opening_refusal o) 0 z) }

  demand : (asks : List ByteAsk) (ws : List ByteGiven) → ByteTrace s₀ asks ws → ByteDemand3 o asks ws (last_bytes s₀ ws)
  demand asks ws t =
      let f = follows o (opened o) kept s₀ q t in
      let numbers : Trace (record_in s₀) (map ask_in asks) (map given_in ws) = subst (λ (r : Record). Trace r (map ask_in asks) (map given_in ws)) (sym starts) f.0 in
      record {
        answers = f.1.0;
        bytes_are = f.1.1;
        numbers = rw (last_record_lem s₀ ws) at ((demand_3 o p 0 (record_in s₀) opened_numbers).1 (map ask_in asks) (map given_in ws) numbers).0;
      }

pub byte_demand_3 : ByteClaim
unfolding bytes_after
byte_demand_3 G C rate cycle gone switch generators pairs p before l number s₀ start =
    let o = opening_in G C rate cycle gone switch generators pairs in
    let opened-so = start.whole l in
    let accepted : number ≡ 0 = opened-so.number_is ∙ permitted_accepted o p in
    let q : s₀ ≡ encode 8 (words (stored (opened o))) = rw accepted at opened-so.record_is in
    (accepted, λ asks ws t. (demand o p s₀ q asks ws t, λ n. demand o p s₀ q (take n asks) (take n ws) (trace_take n t)))

-- ---- no list of calls is ruled out

-- what a call on bytes gives, where the record is whole or not: the number, and the numbers for record and output where it is 0
abbrev picked : (whole : Bool) (refusal number : ℕ) (after out s lent : List ℕ) → ByteGiven
picked true refusal number after out s lent = record { number = number; bytes = bytes_after number after s; out = bytes_after number out lent }
picked false refusal number after out s lent = record { number = refusal; bytes = s; out = lent }

module _ (refusal number : ℕ) (after out s lent : List ℕ) where
  given_bytes : ByteGiven
  given_bytes = picked (eqb (length s) record_bytes) refusal number after out s lent

  given_bytes_lem : (Whole : ℕ → List ℕ → List ℕ → Type 0) → Whole number (bytes_after number after s) (bytes_after number out lent) →
      OnBytes refusal (Whole given_bytes.number given_bytes.bytes given_bytes.out) s lent given_bytes.number given_bytes.bytes given_bytes.out
  unfolding given_bytes
  given_bytes_lem Whole h = go (eqb (length s) record_bytes) refl
    where
      go : (t : Bool) → eqb (length s) record_bytes ≡ t → let w = picked t refusal number after out s lent in OnBytes refusal (Whole w.number w.bytes w.out) s lent w.number w.bytes w.out
      go true e = record { whole = λ l. h; other = λ ne. absurd (ne (eqb-true (length s) record_bytes e)) }
      go false e = record { whole = λ l. absurd (eqb-false (length s) record_bytes e l); other = λ ne. (refl, (refl, refl)) }

-- without an output
given_silent : (refusal number : ℕ) (after s : List ℕ) → (given_bytes refusal number after [] s []).out ≡ []
unfolding given_bytes
given_silent refusal number after s = go (eqb (length s) record_bytes)
  where
    go : (t : Bool) → (picked t refusal number after [] s []).out ≡ []
    go true = sym (no_bytes number)
    go false = refl

-- by a rule
module _ (rule : Rule) (s lent : List ℕ) where
  by_rule : ByteGiven
  by_rule = given_bytes 1 (number_on rule (record_in s)) (words (stored (rule.after (book_in s)))) (rule.output (book_in s)) s lent

  by_rule_lem : CalledOnBytes rule s lent by_rule.number by_rule.bytes by_rule.out
  unfolding by_rule
  by_rule_lem = given_bytes_lem 1 _ _ _ s lent (λ n s' lent'. ByRule rule s lent n s' lent') (record { number_is = refl; record_is = refl; output_is = refl })

byte_given : (s : List ℕ) (a : ByteAsk) → (w : ByteGiven) × ByteDone s a w
unfolding ByteDone by_rule schedule_rule
byte_given s (byte_schedule kws ranks) =
    let rule = schedule_rule (numbers_in 4 kws) (numbers_in 4 ranks) in
    let w = by_rule rule s [] in
    let none : w.out ≡ [] = given_silent 1 _ _ s in
    (w, (subst (λ (l : List ℕ). CalledOnBytes rule s [] w.number w.bytes l) none (by_rule_lem rule s []), none))
byte_given s (byte_block entry exit lent) =
    let rule = block_rule (numbers_in 4 entry) (numbers_in 4 exit) (length (numbers_in 8 lent)) in
    (by_rule rule s lent, by_rule_lem rule s lent)
byte_given s (byte_closing lent) = let rule = closing_rule (length (numbers_in 8 lent)) in (by_rule rule s lent, by_rule_lem rule s lent)

pub every_byte_list : (s : List ℕ) (asks : List ByteAsk) → (ws : List ByteGiven) × ByteTrace s asks ws
every_byte_list s [] = ([], bytes_none)
every_byte_list s (a ∷ as') =
    let first = byte_given s a in
    let rest = every_byte_list first.0.bytes as' in
    (first.0 ∷ rest.0, bytes_one first.1 rest.1)

pub every_byte_opening : (o : Opening) (s : List ℕ) → (number : ℕ) × (s' : List ℕ) × ByteOpened o s number s'
every_byte_opening o s =
    let n = opening_refusal o in
    let after = words (stored (opened o)) in
    let w = given_bytes 2 n after [] s [] in (
      w.number,
      w.bytes,
      subst (λ (l : List ℕ). OnBytes 2 (OpenedOn o s w.number w.bytes) s [] w.number w.bytes l) (given_silent 2 n after s)
          (given_bytes_lem 2 n after [] s [] (λ n s' lent'. OpenedOn o s n s') (record { number_is = refl; record_is = refl })),
    )
