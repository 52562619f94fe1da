-- The scan accepts a text exactly when the text is the printed form of its numbers, these fit, and they make whole lines. Assumes nothing.
use Rattle.std.specs.Prelude.{ℕ, zero, suc, ◌+◌, ◌-◌, ◌*◌, ◌/◌, ◌%◌, ◌^◌, ◌≤◌, ◌<◌, ◌≡◌, refl, Bool, true, false, not, List, [], ◌∷◌, ◌++◌, leb, eqb, length, count_by, if◌then◌else◌}
use Rattle.std.proofs.Common.{sym, ap, ◌∙◌, ⊎_elim, append_assoc, eq-zero-or-pos, arith, le-leb, eq-eqb, ne_eqb, leb-true, eqb-true}
use Rattle.std.proofs.lemmas.List.Sums.{sum_by-cons}
use Rattle.lists.specs.Laws.TestsLaws.{and_left, and_right, and_both}
use Rattle.table_text.specs.TableText.{digits, decimal, separator_after, printed}
use Rattle.table_text.specs.Laws.TableTextLaws.{digits_one, digits_step, decimal_one, decimal_more}
use Rattle.table_scan.specs.Values.{is_digit, largest}
use Rattle.table_scan.specs.Laws.Scan.{add_digit, values_ended, scan, value_so_far}
use Rattle.table_scan.specs.Laws.ScanLaws.{digit_low, digit_high, is_digit_lem}
use Rattle.table_scan.specs.declared.Progress.{Progress}
use Rattle.table_scan.specs.declared.Progress.TheVariants.{Start, Digits, Malformed}
use Rattle.table.specs.Table.{numbers, all_fit, well_formed}
use Rattle.table.specs.Laws.TableLaws.{never, separator_no_digit, numbers_digit, numbers_end, same_is, formed}

-- ---- one byte

-- nothing mends a malformed text
pub scan_malformed : (w k : ℕ) (s : List ℕ) → scan w k Malformed s ≡ false
unfolding scan
scan_malformed w k [] = refl
scan_malformed w k (b ∷ s) = scan_malformed w (k + values_ended b) s

scan_first : (w k b : ℕ) (s : List ℕ) → is_digit b ≡ true → scan w k Start (b ∷ s) ≡ scan w k (Digits (b - 48)) s
unfolding scan values_ended
scan_first w k b s h = let e : k + 0 ≡ k = omega arith in rw (h, e)

scan_more : (w k n b : ℕ) (s : List ℕ) → is_digit b ≡ true → scan w k (Digits n) (b ∷ s) ≡ scan w k (add_digit n (b - 48)) s
unfolding scan values_ended
scan_more w k n b s h = let e : k + 0 ≡ k = omega arith in rw (h, e)

scan_end : (w k n b : ℕ) (s : List ℕ) → is_digit b ≡ false → b ≡ separator_after w k → scan w k (Digits n) (b ∷ s) ≡ scan w (k + 1) Start s
unfolding scan values_ended
scan_end w k n b s h e = rw (h, eq-eqb b (separator_after w k) e)

add_digit_fits : (n d : ℕ) → 0 < n → n * 10 + d ≤ largest → add_digit n d ≡ Digits (n * 10 + d)
add_digit_fits n d p h = rw (ne_eqb n 0 (λ e. omega arith), le-leb (n * 10 + d) largest h)

-- ---- what is printed is accepted

scan_one : (f w k v : ℕ) (s : List ℕ) → v < 10 → scan w k Start (digits (suc f) v ++ s) ≡ scan w k (Digits v) s
scan_one f w k v s h =
    let e : (48 + v) - 48 ≡ v = omega arith in
    rw (digits_one f v h)
    (scan_first w k (48 + v) s (is_digit_lem (48 + v) (omega arith) (omega arith)) ∙ ap (λ (x : ℕ). scan w k (Digits x) s) e)

scan_digits : (f w k v : ℕ) (s : List ℕ) → v < 10 ^ suc f → v ≤ largest → scan w k Start (digits (suc f) v ++ s) ≡ scan w k (Digits v) s
scan_digits zero w k v s h m = scan_one zero w k v s (omega arith)
scan_digits (suc f) w k v s h m =
    ⊎_elim
    (λ (z : 10 - v ≡ 0).
    let l : 10 ≤ v = omega arith in
    let d : is_digit (48 + v % 10) ≡ true = is_digit_lem (48 + v % 10) (omega arith) (omega arith) in
    let e : (48 + v % 10) - 48 ≡ v % 10 = omega arith in
    let q : v / 10 * 10 + v % 10 ≡ v = omega arith in
    rw (digits_step (suc f) v l, append_assoc)
    (scan_digits f w k (v / 10) ((48 + v % 10) ∷ s) (omega arith) (omega arith)
    ∙ scan_more w k (v / 10) (48 + v % 10) s d
    ∙ ap (λ (x : ℕ). scan w k (add_digit (v / 10) x) s) e
    ∙ ap (λ (a : Progress). scan w k a s) (add_digit_fits (v / 10) (v % 10) (omega arith) (omega arith))
    ∙ ap (λ (x : ℕ). scan w k (Digits x) s) q))
    (λ (p : 0 < 10 - v). scan_one (suc f) w k v s (omega arith))
    (eq-zero-or-pos (10 - v))

scan_decimal : (w k v : ℕ) (s : List ℕ) → v ≤ largest → scan w k Start (decimal v ++ s) ≡ scan w k (Digits v) s
unfolding decimal
scan_decimal w k v s m = scan_digits 19 w k v s (omega arith) m

scan_printed : (w k : ℕ) (vs : List ℕ) → all_fit vs ≡ true → (k + length vs) % w ≡ 0 → scan w k Start (printed w k vs) ≡ true
unfolding printed all_fit scan
scan_printed w k [] h e = let i : k + 0 ≡ k = omega arith in eq-eqb (k % w) 0 (ap (λ (x : ℕ). x % w) (sym i) ∙ e)
scan_printed w k (v ∷ vs) h e =
    let m : v ≤ largest = leb-true v largest (and_left (leb v largest) (all_fit vs) h) in
    let i : k + suc (length vs) ≡ k + 1 + length vs = omega arith in
    scan_decimal w k v (separator_after w k ∷ printed w (k + 1) vs) m
    ∙ scan_end w k v (separator_after w k) (printed w (k + 1) vs) (separator_no_digit w k) refl
    ∙ scan_printed w (k + 1) vs (and_right (leb v largest) (all_fit vs) h) (ap (λ (x : ℕ). x % w) (sym i) ∙ e)

-- ---- what is accepted is printed

-- the digits that led to a progress
abbrev shown : Progress → List ℕ
shown Start = []
shown (Digits n) = decimal n
shown Malformed = []

-- digits so far make no number above the largest value
abbrev Fine : Progress → Type 0
Fine Start = Unit {0}
Fine (Digits n) = n ≤ largest
Fine Malformed = Unit {0}

-- the digits so far and the bytes s are the printed form of their numbers, the first of which stands at place k
pub record IsPrinted (w k : ℕ) (at : Progress) (s : List ℕ) : Type 0 where
  pub text : (shown at ++ s) ≡ printed w k (numbers (value_so_far at) s)
  pub fits : all_fit (numbers (value_so_far at) s) ≡ true
  pub whole : (k + length (numbers (value_so_far at) s)) % w ≡ 0

-- the statement for s, from any progress: the induction below goes over s
abbrev Sound : ℕ → List ℕ → Type 0
Sound w s = (k : ℕ) (at : Progress) → Fine at → scan w k at s ≡ true → IsPrinted w k at s

start_no_digit : (w k b : ℕ) (s : List ℕ) → is_digit b ≡ false → scan w k Start (b ∷ s) ≡ false
unfolding scan
start_no_digit w k b s e = rw e (scan_malformed w (k + values_ended b) s)

digits_no_separator : (w k n b : ℕ) (s : List ℕ) → is_digit b ≡ false → eqb b (separator_after w k) ≡ false → scan w k (Digits n) (b ∷ s) ≡ false
unfolding scan
digits_no_separator w k n b s e f = rw (e, f) (scan_malformed w (k + values_ended b) s)

leading_zero : (w k d : ℕ) (s : List ℕ) → scan w k (add_digit 0 d) s ≡ false
leading_zero w k d s = scan_malformed w k s

too_large : (w k n d : ℕ) (s : List ℕ) → leb (n * 10 + d) largest ≡ false → scan w k (add_digit n d) s ≡ false
too_large w k n d s e = go (eqb n 0)
  where
    go : (t : Bool) → scan w k (if t then Malformed else if leb (n * 10 + d) largest then Digits (n * 10 + d) else Malformed) s ≡ false
    go true = scan_malformed w k s
    go false = rw e (scan_malformed w k s)

start_step : (w k b : ℕ) (s : List ℕ) → Sound w s → (t : Bool) → is_digit b ≡ t → scan w k Start (b ∷ s) ≡ true → IsPrinted w k Start (b ∷ s)
start_step w k b s ih false e h = never (sym (start_no_digit w k b s e) ∙ h)
start_step w k b s ih true e h =
    let l = digit_low b e in
    let m = digit_high b e in
    let g = ih k (Digits (b - 48)) (omega arith) (sym (scan_first w k b s e) ∙ h) in
    let z : 0 * 10 + (b - 48) ≡ b - 48 = omega arith in
    let n : numbers 0 (b ∷ s) ≡ numbers (b - 48) s = numbers_digit 0 b s e ∙ ap (λ (x : ℕ). numbers x s) z in
    let y : 48 + (b - 48) ≡ b = omega arith in
    let d : decimal (b - 48) ≡ b ∷ [] = decimal_one (b - 48) (omega arith) ∙ ap (λ (x : ℕ). x ∷ []) y in
    record { text = rw n (rw d at g.text); fits = rw n g.fits; whole = rw n g.whole }

end_step : (w k n b : ℕ) (s : List ℕ) → n ≤ largest → Sound w s → is_digit b ≡ false
    → (t : Bool) → eqb b (separator_after w k) ≡ t → scan w k (Digits n) (b ∷ s) ≡ true → IsPrinted w k (Digits n) (b ∷ s)
unfolding printed all_fit
end_step w k n b s f ih e false q h = never (sym (digits_no_separator w k n b s e q) ∙ h)
end_step w k n b s f ih e true q h =
    let p : b ≡ separator_after w k = eqb-true b (separator_after w k) q in
    let g = ih (k + 1) Start tt (sym (scan_end w k n b s e p) ∙ h) in
    let r : s ≡ printed w (k + 1) (numbers 0 s) = g.text in
    let i : k + suc (length (numbers 0 s)) ≡ k + 1 + length (numbers 0 s) = omega arith in
    record {
      text = rw (numbers_end n b s e) (ap (λ (x : List ℕ). decimal n ++ (b ∷ x)) r ∙ ap (λ (x : ℕ). decimal n ++ (x ∷ printed w (k + 1) (numbers 0 s))) p);
      fits = rw (numbers_end n b s e) (and_both (le-leb n largest f) g.fits);
      whole = rw (numbers_end n b s e) (ap (λ (x : ℕ). x % w) i ∙ g.whole);
    }

more_step : (w k n b : ℕ) (s : List ℕ) → Sound w s → is_digit b ≡ true → 0 < n
    → (t : Bool) → leb (n * 10 + (b - 48)) largest ≡ t → scan w k (Digits n) (b ∷ s) ≡ true → IsPrinted w k (Digits n) (b ∷ s)
more_step w k n b s ih e p false q h = never (sym (scan_more w k n b s e ∙ too_large w k n (b - 48) s q) ∙ h)
more_step w k n b s ih e p true q h =
    let l = digit_low b e in
    let m = digit_high b e in
    let u = leb-true (n * 10 + (b - 48)) largest q in
    let g = ih k (Digits (n * 10 + (b - 48))) u (ap (λ (a : Progress). scan w k a s) (sym (add_digit_fits n (b - 48) p u)) ∙ sym (scan_more w k n b s e) ∙ h) in
    let y : 48 + (b - 48) ≡ b = omega arith in
    let d : decimal (n * 10 + (b - 48)) ++ s ≡ decimal n ++ (b ∷ s) =
    ap (λ (x : List ℕ). x ++ s) (decimal_more n (b - 48) p (omega arith) (omega arith)) ∙ append_assoc (decimal n) ((48 + (b - 48)) ∷ []) s ∙ ap (λ (x : ℕ). decimal n ++ (x ∷ s)) y in
    record { text = rw (numbers_digit n b s e) (sym d ∙ g.text); fits = rw (numbers_digit n b s e) g.fits; whole = rw (numbers_digit n b s e) g.whole }

later_step : (w k n b : ℕ) (s : List ℕ) → n ≤ largest → Sound w s → (t : Bool) → is_digit b ≡ t
    → scan w k (Digits n) (b ∷ s) ≡ true → IsPrinted w k (Digits n) (b ∷ s)
later_step w k n b s f ih false e h = end_step w k n b s f ih e (eqb b (separator_after w k)) refl h
later_step w k n b s f ih true e h =
    ⊎_elim
    (λ (z : n ≡ 0). never (sym (scan_more w k n b s e ∙ ap (λ (x : ℕ). scan w k (add_digit x (b - 48)) s) z ∙ leading_zero w k (b - 48) s) ∙ h))
    (λ (p : 0 < n). more_step w k n b s ih e p (leb (n * 10 + (b - 48)) largest) refl h)
    (eq-zero-or-pos n)

sound_nil : (w : ℕ) → Sound w []
unfolding scan printed numbers all_fit
sound_nil w k Start f h = let i : k + 0 ≡ k = omega arith in record { text = refl; fits = refl; whole = ap (λ (x : ℕ). x % w) i ∙ eqb-true (k % w) 0 h }
sound_nil w k (Digits n) f h = never h
sound_nil w k Malformed f h = never h

sound_cons : (w b : ℕ) (s : List ℕ) → Sound w s → Sound w (b ∷ s)
sound_cons w b s ih k Start f h = start_step w k b s ih (is_digit b) refl h
sound_cons w b s ih k (Digits n) f h = later_step w k n b s f ih (is_digit b) refl h
sound_cons w b s ih k Malformed f h = never (sym (scan_malformed w k (b ∷ s)) ∙ h)

-- a text that is accepted from some progress on is printed from there
sound : (w : ℕ) (s : List ℕ) → Sound w s
sound w [] = sound_nil w
sound w (b ∷ s) = sound_cons w b s (sound w s)

-- ---- the two are one test

scans_formed : (w : ℕ) (s : List ℕ) → scan w 0 Start s ≡ true → well_formed w s ≡ true
unfolding well_formed
scans_formed w s h =
    let g = sound w s 0 Start tt h in
    let i : 0 + length (numbers 0 s) ≡ length (numbers 0 s) = omega arith in
    and_both (same_is s (printed w 0 (numbers 0 s)) g.text) (and_both g.fits (eq-eqb (length (numbers 0 s) % w) 0 (ap (λ (x : ℕ). x % w) (sym i) ∙ g.whole)))

pub formed_scans : (w : ℕ) (s : List ℕ) → well_formed w s ≡ true → scan w 0 Start s ≡ true
formed_scans w s h =
    let g = formed w s h in
    let i : 0 + length (numbers 0 s) ≡ length (numbers 0 s) = omega arith in
    ap (λ (x : List ℕ). scan w 0 Start x) g.text ∙ scan_printed w 0 (numbers 0 s) g.fits (ap (λ (x : ℕ). x % w) i ∙ g.whole)

pub scan_is : (w : ℕ) (s : List ℕ) → scan w 0 Start s ≡ well_formed w s
scan_is w s = go (scan w 0 Start s) refl (well_formed w s) refl
  where
    go : (t : Bool) → scan w 0 Start s ≡ t → (u : Bool) → well_formed w s ≡ u → scan w 0 Start s ≡ well_formed w s
    go true p u q = p ∙ sym (scans_formed w s p)
    go false p true q = never (sym p ∙ formed_scans w s q)
    go false p false q = p ∙ sym q

-- ---- how many numbers there are: one for each byte that is no digit

pub length_numbers : (n : ℕ) (s : List ℕ) → length (numbers n s) ≡ count_by (λ b. not (is_digit b)) s
unfolding numbers
length_numbers n [] = refl
length_numbers n (b ∷ s) = rw sum_by-cons (go (is_digit b) (λ m. length_numbers m s))
  where
    go : (t : Bool) → ((m : ℕ) → length (numbers m s) ≡ count_by (λ b. not (is_digit b)) s)
        → length ((if t then [] else n ∷ []) ++ numbers (if t then n * 10 + (b - 48) else 0) s) ≡ (if not t then 1 else 0) + count_by (λ b. not (is_digit b)) s
    go true ih = omega (arith, ih (n * 10 + (b - 48)))
    go false ih = omega (arith, ih 0)
