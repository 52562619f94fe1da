-- The steps and the invariants of the reader's loops. Assumes nothing.
use Rattle.std.specs.Prelude.{ℕ, suc, ◌+◌, ◌-◌, ◌*◌, ◌≤◌, ◌<◌, ◌≡◌, refl, Bool, true, false, List, [], ◌∷◌, ◌++◌, leb, eqb, length, take, drop, get_or, set, if◌then◌else◌}
use Rattle.std.proofs.Common.{sym, ap, ◌∙◌, append_assoc, add-one, arith, length-take, length-drop, length-append, drop_of_length-le, drop-cons, take-suc, take_all}
use Rattle.std.proofs.lemmas.List.{set_at}
use Rattle.table_text.specs.TableText.{separator_after}
use Rattle.table_scan.specs.Values.{is_digit, largest}
use Rattle.table_scan.specs.Laws.Scan.{next_byte, values_ended, whole_lines, scan, value_so_far}
use Rattle.table_scan.specs.declared.Progress.{Progress}
use Rattle.table_scan.specs.declared.Progress.TheVariants.{Start, Digits, Malformed}
use Rattle.table.specs.Table.{numbers, well_formed}
use Rattle.table.specs.Laws.TableLaws.{never, numbers_digit, numbers_end}
use Rattle.table.specs.Laws.TableScanning.{scan_malformed, scan_is, formed_scans}

-- ---- one byte

next_byte_lem : (s : List ℕ) (i : ℕ) → i < length s → drop i s ≡ get_or s i 0 ∷ drop (i + 1) s
next_byte_lem s i h = rw add-one (drop-cons s i 0 h)

ended_digit : (b : ℕ) → is_digit b ≡ true → values_ended b ≡ 0
unfolding values_ended
ended_digit b h = rw h

ended_other : (b : ℕ) → is_digit b ≡ false → values_ended b ≡ 1
unfolding values_ended
ended_other b h = rw h

pub ended_few : (b : ℕ) → values_ended b ≤ 1
ended_few b = go (is_digit b) refl
  where
    go : (t : Bool) → is_digit b ≡ t → values_ended b ≤ 1
    go true e = omega (arith, ended_digit b e)
    go false e = omega (arith, ended_other b e)

-- ---- well_formed: what is to come decides as the whole text does

pub record Scanned (w : ℕ) (s : List ℕ) (at : Progress) (k i : ℕ) : Type 0 where
  pub within : i ≤ length s
  pub few : k ≤ i
  pub is : scan w k at (drop i s) ≡ scan w 0 Start s

pub scan_start : {w : ℕ} {s : List ℕ} → Scanned w s Start 0 0
scan_start {w} {s} = record { within = omega arith; few = omega arith; is = refl }

pub scan_step : {w : ℕ} {s : List ℕ} {at at' : Progress} {k i e : ℕ} → Scanned w s at k i → i < length s
    → at' ≡ next_byte at (get_or s i 0) (separator_after w k) → e ≡ values_ended (get_or s i 0) → Scanned w s at' (k + e) (i + 1)
unfolding scan
scan_step {w} {s} {at} {at'} {k} {i} {e} h l n p =
    record {
      within = omega arith;
      few = omega (arith, h.few, ended_few (get_or s i 0));
      is = rw (n, p) (sym (ap (λ (x : List ℕ). scan w k at x) (next_byte_lem s i l)) ∙ h.is);
    }

pub scan_done : {w : ℕ} {s : List ℕ} {at : Progress} {k i : ℕ} → Scanned w s at k i → length s ≤ i → whole_lines w k at ≡ well_formed w s
unfolding scan
scan_done {w} {s} {at} {k} {i} h l = sym (ap (λ (x : List ℕ). scan w k at x) (drop_of_length-le s {i = i} l)) ∙ h.is ∙ scan_is w s

-- ---- write_values: the values passed are laid over the output as it was, first; what is to come holds the others

-- while the text is read without fault, a digit goes on with the value as `numbers` has it
so_far_digit : (w k : ℕ) (at : Progress) (b : ℕ) (s : List ℕ) → is_digit b ≡ true → scan w k at (b ∷ s) ≡ true
    → value_so_far (next_byte at b (separator_after w k)) ≡ value_so_far at * 10 + (b - 48)
unfolding scan
so_far_digit w k Start b s e h = rw e (omega arith)
so_far_digit w k Malformed b s e h = never (sym (scan_malformed w (k + values_ended b) s) ∙ h)
so_far_digit w k (Digits n) b s e h = rw e (go (eqb n 0) (leb (n * 10 + (b - 48)) largest) (rw e at h))
  where
    go : (t u : Bool) → scan w (k + values_ended b) (if t then Malformed else if u then Digits (n * 10 + (b - 48)) else Malformed) s ≡ true
        → value_so_far (if t then Malformed else if u then Digits (n * 10 + (b - 48)) else Malformed) ≡ n * 10 + (b - 48)
    go true u h = never (sym (scan_malformed w (k + values_ended b) s) ∙ h)
    go false true h = refl
    go false false h = never (sym (scan_malformed w (k + values_ended b) s) ∙ h)

so_far_end : (at : Progress) (b sep : ℕ) → is_digit b ≡ false → value_so_far (next_byte at b sep) ≡ 0
so_far_end Start b sep e = rw e
so_far_end Malformed b sep e = refl
so_far_end (Digits n) b sep e = rw e (go (eqb b sep))
  where
    go : (t : Bool) → value_so_far (if t then Start else Malformed) ≡ 0
    go true = refl
    go false = refl

-- one more of the values vs is laid over out
put_next : (vs out : List ℕ) (k n : ℕ) (t : List ℕ) → drop k vs ≡ n ∷ t → length vs ≤ length out
    → (k < length vs) × ((drop (k + 1) vs ≡ t) × (set (take k vs ++ drop k out) k n ≡ take (k + 1) vs ++ drop (k + 1) out))
put_next vs out k n t e h =
    let l : k < length vs = omega (arith, length-drop k vs, ap length e) in
    let d : drop k vs ≡ get_or vs k 0 ∷ drop (suc k) vs = drop-cons vs k 0 l in
    let a : n ≡ get_or vs k 0 = cc in
    let b : drop (suc k) vs ≡ t = cc in
    let s = set_at (take k vs) (get_or out k 0) (drop (suc k) out) (get_or vs k 0) k (omega (arith, length-take k vs)) in
    (l, (rw add-one b, rw (add-one, take-suc vs k 0 l, drop-cons out k 0 (omega arith), append_assoc, a) s))

pub record Writing (w : ℕ) (s first out : List ℕ) (at : Progress) (k i : ℕ) : Type 0 where
  pub within : i ≤ length s
  pub few : k ≤ i
  pub scans : scan w k at (drop i s) ≡ true
  pub upto : k ≤ length (numbers 0 s)
  pub rest : drop k (numbers 0 s) ≡ numbers (value_so_far at) (drop i s)
  pub room : length (numbers 0 s) ≤ length first
  pub is : out ≡ take k (numbers 0 s) ++ drop k first

pub writing_start : {w : ℕ} {s first : List ℕ} → well_formed w s ≡ true → length (numbers 0 s) ≤ length first → Writing w s first first Start 0 0
writing_start {w} {s} {first} h r =
    record { within = omega arith; few = omega arith; scans = formed_scans w s h; upto = omega arith; rest = refl; room = r; is = refl }

scans_on : {w : ℕ} {s first out : List ℕ} {at : Progress} {k i : ℕ} → Writing w s first out at k i → i < length s
    → scan w (k + values_ended (get_or s i 0)) (next_byte at (get_or s i 0) (separator_after w k)) (drop (i + 1) s) ≡ true
unfolding scan
scans_on {w} {s} {first} {out} {at} {k} {i} h l = sym (ap (λ (x : List ℕ). scan w k at x) (next_byte_lem s i l)) ∙ h.scans

pub writing_digit : {w : ℕ} {s first out : List ℕ} {at at' : Progress} {k i e : ℕ} → Writing w s first out at k i → i < length s
    → is_digit (get_or s i 0) ≡ true → at' ≡ next_byte at (get_or s i 0) (separator_after w k) → e ≡ values_ended (get_or s i 0)
    → Writing w s first out at' (k + e) (i + 1)
writing_digit {w} {s} {first} {out} {at} {at'} {k} {i} {e} h l d n p =
    let z : k + e ≡ k = omega (arith, ended_digit (get_or s i 0) d) in
    let y : k + values_ended (get_or s i 0) ≡ k = omega (arith, ended_digit (get_or s i 0) d) in
    rw (z, n)
    record {
      within = omega arith;
      few = omega (arith, h.few);
      scans = rw y at (scans_on h l);
      upto = h.upto;
      rest = h.rest ∙ ap (λ (x : List ℕ). numbers (value_so_far at) x) (next_byte_lem s i l) ∙ numbers_digit (value_so_far at) (get_or s i 0) (drop (i + 1) s) d
          ∙ ap (λ (x : ℕ). numbers x (drop (i + 1) s)) (sym (so_far_digit w k at (get_or s i 0) (drop (i + 1) s) d (sym (ap (λ (x : List ℕ). scan w k at x) (next_byte_lem s i l)) ∙ h.scans)));
      room = h.room;
      is = h.is;
    }

-- a byte that is no digit ends the value so far, which is the next to be laid
writing_here : {w : ℕ} {s first out : List ℕ} {at : Progress} {k i : ℕ} → Writing w s first out at k i → i < length s
    → is_digit (get_or s i 0) ≡ false → drop k (numbers 0 s) ≡ value_so_far at ∷ numbers 0 (drop (i + 1) s)
writing_here {w} {s} {first} {out} {at} {k} {i} h l d =
    h.rest ∙ ap (λ (x : List ℕ). numbers (value_so_far at) x) (next_byte_lem s i l) ∙ numbers_end (value_so_far at) (get_or s i 0) (drop (i + 1) s) d

pub writing_end : {w : ℕ} {s first out : List ℕ} {at at' : Progress} {k i e v : ℕ} → Writing w s first out at k i → i < length s
    → is_digit (get_or s i 0) ≡ false → v ≡ value_so_far at → at' ≡ next_byte at (get_or s i 0) (separator_after w k) → e ≡ values_ended (get_or s i 0)
    → Writing w s first (set out k v) at' (k + e) (i + 1)
writing_end {w} {s} {first} {out} {at} {at'} {k} {i} {e} {v} h l d a n p =
    let z : k + e ≡ k + 1 = omega (arith, ended_other (get_or s i 0) d) in
    let y : k + values_ended (get_or s i 0) ≡ k + 1 = omega (arith, ended_other (get_or s i 0) d) in
    let q = put_next (numbers 0 s) first k (value_so_far at) (numbers 0 (drop (i + 1) s)) (writing_here h l d) h.room in
    rw (z, n, a)
    record {
      within = omega arith;
      few = omega (arith, h.few);
      scans = rw y at (scans_on h l);
      upto = omega (arith, q.0);
      rest = q.1.0 ∙ ap (λ (x : ℕ). numbers x (drop (i + 1) s)) (sym (so_far_end at (get_or s i 0) (separator_after w k) d));
      room = h.room;
      is = ap (λ (x : List ℕ). set x k (value_so_far at)) h.is ∙ q.1.1;
    }

pub writing_done : {w : ℕ} {s first out : List ℕ} {at : Progress} {k i : ℕ} → Writing w s first out at k i → length s ≤ i
    → out ≡ numbers 0 s ++ drop (length (numbers 0 s)) first
unfolding numbers
writing_done {w} {s} {first} {out} {at} {k} {i} h l =
    let q : drop k (numbers 0 s) ≡ [] = h.rest ∙ ap (λ (x : List ℕ). numbers (value_so_far at) x) (drop_of_length-le s {i = i} l) in
    let m : k ≡ length (numbers 0 s) = omega (arith, ap length q, length-drop k (numbers 0 s), h.upto) in
    h.is ∙ rw m (ap (λ (x : List ℕ). x ++ drop (length (numbers 0 s)) first) (take_all (length (numbers 0 s)) (numbers 0 s) (omega arith)))

pub writing_length : {w : ℕ} {s first out : List ℕ} {at : Progress} {k i : ℕ} → Writing w s first out at k i → length out ≡ length first
writing_length {w} {s} {first} {out} {at} {k} {i} h =
    ap length h.is ∙ simp (length-append, length-take, length-drop) (omega (arith, h.upto, h.room))

pub writing_room : {w : ℕ} {s first out : List ℕ} {at : Progress} {k i : ℕ} → Writing w s first out at k i → i < length s
    → is_digit (get_or s i 0) ≡ false → k < length out
writing_room {w} {s} {first} {out} {at} {k} {i} h l d =
    let q = put_next (numbers 0 s) first k (value_so_far at) (numbers 0 (drop (i + 1) s)) (writing_here h l d) h.room in
    omega (arith, q.0, h.room, writing_length h)
