-- How the calls on bytes follow from those on numbers. Assumes nothing.
use Rattle.std.specs.Prelude.{ℕ, ◌*◌, ◌≤◌, ◌<◌, ◌≡◌, refl, Bool, true, false, List, [], ◌++◌, ◌⊎◌, length, take, drop, if◌then◌else◌}
use Rattle.std.proofs.Common.{sym, ◌∙◌, subst, true≢false, arith, mul-le-mul}
use Rattle.std.proofs.Math.Logic.{inl, inr, ⊎_elim}
use Rattle.record.specs.RecordWords.{words}
use Rattle.record.specs.Stored.{figures, stored}
use Rattle.record.specs.Sound.{sound}
use Rattle.record.specs.Laws.SoundLaws.{Facts}
use Rattle.record.specs.Called.{Rule, number_on}
use Rattle.record.specs.Laws.CalledLaws.{record_facts, number_sound, number_unsound, accepted_sound, output_accepted}
use Rattle.record.specs.declared.Record.{Record}
use Rattle.agreement_rules.specs.Opening.{Opening, asked, opening_refusal}
use Rattle.agreement_rules.specs.OpenedOn.{OpenedOn}
use Rattle.agreement_rules.specs.Laws.OpeningLaws.{opening_sized}
use Rattle.agreement_rules.specs.Schedule.{schedule_rule}
use Rattle.agreement_rules.specs.Laws.ScheduleLaws.{schedule_sized}
use Rattle.block_rules.specs.Block.{block_length, block_refusal, block_rule}
use Rattle.block_rules.proofs.BlockLaws.{block_sized}
use Rattle.closing_rules.specs.Closing.{closing_length, closing_refusal, closing_rule}
use Rattle.closing_rules.proofs.ClosingLaws.{closing_sized}
use Rattle.record_layout.specs.OnBytes.{record_in, bytes_after, CalledOn, book_in}
use Rattle.wheeling_rules.specs.Wheeling.{numbers_in, ByRule, OnBytes, opening_in, ByteOpened, ByteScheduled, ByteBlocked, ByteClosed}
use Rattle.wheeling_rules.specs.Laws.BytesReadLaws.{room_fits, room_alike, left_there, after_same, no_bytes}
use Rattle.wheeling_rules.specs.Laws.BytesRead.{AlikeSize, Alike, Room, Written}
use Rattle.record_places.specs.RecordSize.{record_bytes}

-- ---- a call does not tell lists apart that are too long for it

few : {A : Type 0} {x y : A} {k n m : ℕ} → (x ≡ y) ⊎ ((k ≤ n) × (k ≤ m)) → (n < k) ⊎ (m < k) → x ≡ y
few (inl e) s = e
few (inr l) (inl s) = absurd (omega arith)
few (inr l) (inr s) = absurd (omega arith)

-- on record r the rules are the same, or both refuse with 2
abbrev SameOn : Record → Rule → Rule → Type 0
SameOn r rule rule' = (rule ≡ rule') ⊎ (sound (figures r) ≡ true → (rule.refusal (figures r) ≡ 2) × (rule'.refusal (figures r) ≡ 2))

module _ (r : Record) where
  two : (rule : Rule) → (sound (figures r) ≡ true → rule.refusal (figures r) ≡ 2) → number_on rule r ≡ (if sound (figures r) then 2 else 1)
  two rule h = go (sound (figures r)) refl
    where
      go : (t : Bool) → sound (figures r) ≡ t → number_on rule r ≡ (if t then 2 else 1)
      go true e = number_sound rule r e ∙ h e
      go false e = number_unsound rule r e

  two_refused : (rule : Rule) → (sound (figures r) ≡ true → rule.refusal (figures r) ≡ 2) → number_on rule r ≡ 0 → ⊥
  two_refused rule h z = go (sound (figures r)) (sym (two rule h) ∙ z)
    where
      go : (t : Bool) → ◌≡◌ {A = ℕ} (if t then 2 else 1) 0 → ⊥
      go true e = omega arith
      go false e = omega arith

  -- on a sound record the counts are in range
  sized_same : {rule rule' : Rule} {S S' : Type 0} → (rule.refusal (figures r) ≡ 2) ⊎ S → (rule'.refusal (figures r) ≡ 2) ⊎ S' → (Facts (figures r) → S ⊎ S' → rule ≡ rule') → SameOn r rule rule'
  sized_same {rule} {rule'} {S} {S'} p q h = go (sound (figures r)) refl p q
    where
      go : (t : Bool) → sound (figures r) ≡ t → (rule.refusal (figures r) ≡ 2) ⊎ S → (rule'.refusal (figures r) ≡ 2) ⊎ S' → SameOn r rule rule'
      go false e p q = inr (λ s. absurd (true≢false (sym s ∙ e)))
      go true e (inl x) (inl y) = inr (λ s. (x, y))
      go true e (inr x) q = inl (h (record_facts r e) (inl x))
      go true e (inl x) (inr y) = inl (h (record_facts r e) (inr y))

  module _ (f : Facts (figures r)) where
    pairs_few : (figures r).plan.G * (figures r).plan.C ≤ 128
    pairs_few = mul-le-mul f.counts.G_high f.counts.C_high

    block_few : block_length (figures r).plan.G (figures r).plan.C < 537
    unfolding block_length
    block_few = omega (arith, pairs_few, f.counts.G_high, f.counts.C_high)

    closing_few : closing_length (figures r).plan.G (figures r).plan.C < 185
    unfolding closing_length
    closing_few = omega (arith, pairs_few, f.counts.G_high, f.counts.C_high)

  schedule_same : {kws kws' ranks ranks' : List ℕ} → Alike 129 kws kws' → Alike 129 ranks ranks' → SameOn r (schedule_rule kws ranks) (schedule_rule kws' ranks')
  unfolding schedule_rule
  schedule_same {kws} {kws'} {ranks} {ranks'} x y =
      let n = (figures r).plan.G * (figures r).plan.C in
      sized_same (schedule_sized kws ranks (figures r)) (schedule_sized kws' ranks' (figures r))
      (λ f s.
      let most = pairs_few f in
      let p : kws ≡ kws' = few x (⊎_elim (λ (t : (length kws ≡ n) × (length ranks ≡ n)). inl (omega arith)) (λ t. inr (omega arith)) s) in
      let q : ranks ≡ ranks' = few y (⊎_elim (λ (t : (length kws ≡ n) × (length ranks ≡ n)). inl (omega arith)) (λ t. inr (omega arith)) s) in
      λ i. schedule_rule (p i) (q i))

  block_same : {entry entry' exit exit' : List ℕ} {size size' : ℕ} → Alike 9 entry entry' → Alike 17 exit exit' → AlikeSize 537 size size' →
      SameOn r (block_rule entry exit size) (block_rule entry' exit' size')
  unfolding block_rule
  block_same {entry} {entry'} {exit} {exit'} {size} {size'} x y z =
      let G = (figures r).plan.G in
      let C = (figures r).plan.C in
      let L = block_length (figures r).plan.G (figures r).plan.C in
      sized_same (block_sized entry exit size (figures r)) (block_sized entry' exit' size' (figures r))
      (λ f s.
      let most = block_few f in
      let p : entry ≡ entry' = few x (⊎_elim (λ (t : (length entry ≡ G) × ((length exit ≡ C) × (size ≡ L))). inl (omega (arith, f.counts.G_high))) (λ t. inr (omega (arith, f.counts.G_high))) s) in
      let q : exit ≡ exit' = few y (⊎_elim (λ (t : (length entry ≡ G) × ((length exit ≡ C) × (size ≡ L))). inl (omega (arith, f.counts.C_high))) (λ t. inr (omega (arith, f.counts.C_high))) s) in
      let u : size ≡ size' = few z (⊎_elim (λ (t : (length entry ≡ G) × ((length exit ≡ C) × (size ≡ L))). inl (omega arith)) (λ t. inr (omega arith)) s) in
      λ i. block_rule (p i) (q i) (u i))

  closing_same : {size size' : ℕ} → AlikeSize 185 size size' → SameOn r (closing_rule size) (closing_rule size')
  unfolding closing_rule
  closing_same {size} {size'} z =
      sized_same (closing_sized size (figures r)) (closing_sized size' (figures r))
      (λ f s.
      let most = closing_few f in
      let u : size ≡ size' = few z (⊎_elim (λ (t : size ≡ closing_length (figures r).plan.G (figures r).plan.C). inl (omega arith)) (λ t. inr (omega arith)) s) in
      λ i. closing_rule (u i))

  -- an accepted call's output has the stated length
  accepted_facts : (rule : Rule) → number_on rule r ≡ 0 → Facts (figures r) × (rule.refusal (figures r) ≡ 0)
  accepted_facts rule accepted =
      let s = accepted_sound rule r accepted in
      (record_facts r s, sym (number_sound rule r s) ∙ accepted)

  block_room : (entry exit : List ℕ) (size : ℕ) → number_on (block_rule entry exit size) r ≡ 0 → size < 537
  unfolding block_rule
  block_room entry exit size z =
      let f = accepted_facts (block_rule entry exit size) z in
      ⊎_elim (λ (e : block_refusal entry exit size (figures r) ≡ 2). absurd (omega (arith, f.1))) (λ t. omega (arith, block_few f.0)) (block_sized entry exit size (figures r))

  closing_room : (size : ℕ) → number_on (closing_rule size) r ≡ 0 → size < 185
  unfolding closing_rule
  closing_room size z =
      let f = accepted_facts (closing_rule size) z in
      ⊎_elim (λ (e : closing_refusal size (figures r) ≡ 2). absurd (omega (arith, f.1))) (λ t. omega (arith, closing_few f.0)) (closing_sized size (figures r))

abbrev Sized : Opening → Type 0
Sized o = ((o.G ≤ 8) × (o.C ≤ 16)) × ((length o.generators ≡ 3 * o.G) × (length o.pairs ≡ 2 * (o.G * o.C)))

module _ (G C rate cycle gone switch : ℕ) {xs xs' ys ys' bytes bytes' : List ℕ} {n : ℕ} (x : Alike 25 xs xs') (y : Alike 257 ys ys') (h : OpenedOn (asked G C rate cycle gone switch xs ys) bytes n bytes') where
  sized_opened : Sized (asked G C rate cycle gone switch xs ys) ⊎ Sized (asked G C rate cycle gone switch xs' ys') → OpenedOn (asked G C rate cycle gone switch xs' ys') bytes n bytes'
  sized_opened s =
      let p : xs ≡ xs' = few x (⊎_elim (λ (t : Sized (asked G C rate cycle gone switch xs ys)). inl (omega arith)) (λ t. inr (omega arith)) s) in
      let most : G * C ≤ 128 = ⊎_elim (λ (t : Sized (asked G C rate cycle gone switch xs ys)). mul-le-mul t.0.0 t.0.1) (λ t. mul-le-mul t.0.0 t.0.1) s in
      let q : ys ≡ ys' = few y (⊎_elim (λ (t : Sized (asked G C rate cycle gone switch xs ys)). inl (omega arith)) (λ t. inr (omega arith)) s) in
      subst (λ (v : Opening). OpenedOn v bytes n bytes') (λ i. asked G C rate cycle gone switch (p i) (q i)) h

  opening_same : OpenedOn (asked G C rate cycle gone switch xs' ys') bytes n bytes'
  opening_same = go (opening_sized (asked G C rate cycle gone switch xs ys)) (opening_sized (asked G C rate cycle gone switch xs' ys'))
    where
      go : (opening_refusal (asked G C rate cycle gone switch xs ys) ≡ 2) ⊎ Sized (asked G C rate cycle gone switch xs ys) →
          (opening_refusal (asked G C rate cycle gone switch xs' ys') ≡ 2) ⊎ Sized (asked G C rate cycle gone switch xs' ys') → OpenedOn (asked G C rate cycle gone switch xs' ys') bytes n bytes'
      go (inl p) (inl q) = record { number_is = h.number_is ∙ p ∙ sym q; record_is = h.record_is ∙ after_same bytes (λ z. absurd (omega (arith, h.number_is))) }
      go (inr s) q = sized_opened (inl s)
      go (inl p) (inr s) = sized_opened (inr s)

-- ---- the parts of a call on bytes

-- the call by one rule is the call by the other
rule_moved : {rule rule' : Rule} {bytes lent bytes' lent' : List ℕ} {n : ℕ} → SameOn (record_in bytes) rule rule' → ByRule rule bytes lent n bytes' lent' → ByRule rule' bytes lent n bytes' lent'
rule_moved {bytes = bytes} {lent} {bytes'} {lent'} {n} (inl e) c = subst (λ (x : Rule). ByRule x bytes lent n bytes' lent') e c
rule_moved {rule} {rule'} {bytes} {lent} {n = n} (inr h) c =
    let first : sound (book_in bytes) ≡ true → rule.refusal (book_in bytes) ≡ 2 = λ s. (h s).0 in
    let refused : n ≡ 0 → ⊥ = λ z. two_refused (record_in bytes) rule first (sym c.number_is ∙ z) in
    record {
      number_is = c.number_is ∙ two (record_in bytes) rule first ∙ sym (two (record_in bytes) rule' (λ s. (h s).1));
      record_is = c.record_is ∙ after_same bytes (λ z. absurd (refused z));
      output_is = c.output_is ∙ after_same lent (λ z. absurd (refused z));
    }

-- a call on the bytes, and its output written
written : {rule : Rule} {bytes numbers bytes' out lent lent' : List ℕ} {n m : ℕ} → CalledOn rule bytes numbers n bytes' out → Written n out lent m lent' → ByRule rule bytes lent m bytes' lent'
written {rule} {bytes} {numbers} {bytes'} {out} {lent} {lent'} {n} {m} c w =
    let e = sym w.number_is in
    record {
      number_is = w.number_is ∙ c.number_is;
      record_is = subst (λ (i : ℕ). bytes' ≡ bytes_after i (words (stored (rule.after (book_in bytes)))) bytes) e c.record_is;
      output_is =
          subst (λ (i : ℕ). lent' ≡ bytes_after i (rule.output (book_in bytes)) lent) e
          (w.output_is ∙ after_same lent (λ z. c.output_is ∙ output_accepted rule (record_in bytes) numbers (sym c.number_is ∙ z)));
    }

module _ {refusal : ℕ} {Whole : Type 0} {bytes lent : List ℕ} where
  on_whole : {number : ℕ} {bytes' lent' : List ℕ} → length bytes ≡ record_bytes → Whole → OnBytes refusal Whole bytes lent number bytes' lent'
  on_whole l d = record { whole = λ _. d; other = λ ne. absurd (ne l) }

  pub on_other : (length bytes ≡ record_bytes → ⊥) → OnBytes refusal Whole bytes lent refusal bytes lent
  on_other ne = record { whole = λ l. absurd (ne l); other = λ _. (refl, (refl, refl)) }

-- ---- the four calls

pub opening_on_bytes : (G C rate cycle gone switch : ℕ) (generators pairs : List ℕ) {xs ys bytes bytes' : List ℕ} {n : ℕ} → length bytes ≡ record_bytes →
    Alike 25 xs (numbers_in 4 generators) → Alike 257 ys (numbers_in 4 pairs) → OpenedOn (asked G C rate cycle gone switch xs ys) bytes n bytes' →
    ByteOpened (opening_in G C rate cycle gone switch generators pairs) bytes n bytes'
opening_on_bytes G C rate cycle gone switch generators pairs l x y h = on_whole l (opening_same G C rate cycle gone switch x y h)

pub schedule_on_bytes : (kws ranks : List ℕ) {xs ys bytes bytes' out : List ℕ} {n : ℕ} → length bytes ≡ record_bytes →
    Alike 129 xs (numbers_in 4 kws) → Alike 129 ys (numbers_in 4 ranks) → CalledOn (schedule_rule xs ys) bytes [] n bytes' out → ByteScheduled bytes kws ranks n bytes'
unfolding schedule_rule
schedule_on_bytes kws ranks {xs} {ys} {bytes} {bytes'} {n = n} l x y c = on_whole l (rule_moved (schedule_same (record_in bytes) x y) silent)
  where
    -- schedule has no output
    silent : ByRule (schedule_rule xs ys) bytes [] n bytes' []
    silent = record { number_is = c.number_is; record_is = c.record_is; output_is = no_bytes n }

-- a call that was lent the first n of k numbers, and its output written
module _ (out : List ℕ) {k : ℕ} {rule : Rule} {bytes lent bytes' ys : List ℕ} {n number : ℕ} (h : Room lent k n) (size : length out ≡ k)
    (c : CalledOn rule bytes (take n out) number bytes' ys) (e : length ys ≡ length (take n out)) where
  written_moved : {rule' : Rule} {m : ℕ} {lent' : List ℕ} → SameOn (record_in bytes) rule rule' → Written number (take n (ys ++ drop n out)) lent m lent' → ByRule rule' bytes lent m bytes' lent'
  written_moved {m = m} {lent'} same w = rule_moved same (written c (subst (λ (xs : List ℕ). Written number xs lent m lent') (left_there out h size e) w))

module _ (entry exit out : List ℕ) {bytes lent bytes' ys : List ℕ} {n number : ℕ} (h : Room lent 537 n) (size : length out ≡ 537)
    (c : CalledOn (block_rule entry exit (length (take n out))) bytes (take n out) number bytes' ys) where
  pub block_fits : number ≡ 0 → length lent ≡ 8 * n
  block_fits z = room_fits out h size (block_room (record_in bytes) entry exit (length (take n out)) (sym c.number_is ∙ z))

  pub block_written : {m : ℕ} {lent' : List ℕ} → length ys ≡ length (take n out) → Written number (take n (ys ++ drop n out)) lent m lent' →
      ByRule (block_rule entry exit (length (numbers_in 8 lent))) bytes lent m bytes' lent'
  block_written e w = written_moved out h size c e (block_same (record_in bytes) (inl refl) (inl refl) (room_alike out h size)) w

module _ (out : List ℕ) {bytes lent bytes' ys : List ℕ} {n number : ℕ} (h : Room lent 185 n) (size : length out ≡ 185)
    (c : CalledOn (closing_rule (length (take n out))) bytes (take n out) number bytes' ys) where
  pub closing_fits : number ≡ 0 → length lent ≡ 8 * n
  closing_fits z = room_fits out h size (closing_room (record_in bytes) (length (take n out)) (sym c.number_is ∙ z))

  pub closing_on_bytes : {m : ℕ} {lent' : List ℕ} → length bytes ≡ record_bytes → length ys ≡ length (take n out) → Written number (take n (ys ++ drop n out)) lent m lent' →
      ByteClosed bytes lent m bytes' lent'
  closing_on_bytes l e w = on_whole l (written_moved out h size c e (closing_same (record_in bytes) (room_alike out h size)) w)

pub block_on_bytes : (entry exit : List ℕ) {xs ys bytes lent bytes' lent' : List ℕ} {n : ℕ} → length bytes ≡ record_bytes →
    Alike 9 xs (numbers_in 4 entry) → Alike 17 ys (numbers_in 4 exit) →
    ByRule (block_rule xs ys (length (numbers_in 8 lent))) bytes lent n bytes' lent' → ByteBlocked bytes entry exit lent n bytes' lent'
block_on_bytes entry exit {bytes = bytes} l x y d = on_whole l (rule_moved (block_same (record_in bytes) x y (inl refl)) d)
