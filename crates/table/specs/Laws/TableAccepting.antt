-- What number 0 says of a text: the reader accepts a text with values vs exactly where the text is the table of vs. Assumes nothing.
use Rattle.std.specs.Prelude.{ℕ, zero, suc, ◌+◌, ◌-◌, ◌*◌, ◌/◌, ◌%◌, ◌^◌, ◌≤◌, ◌<◌, ◌≡◌, refl, Bool, true, false, not, List, [], ◌∷◌, ◌++◌, leb, ltb, length, take, drop}
use Rattle.std.proofs.Common.{sym, ap, ◌∙◌, ⊎_elim, append_assoc, eq-zero-or-pos, arith, le-ltb, eq-eqb, leb-true, ltb-false, take-append-drop}
use Rattle.std.proofs.Math.Seq.{take-append_seam, drop-append_seam}
use Rattle.lists.specs.Laws.TestsLaws.{and_left, and_right, and_both}
use Rattle.lists.specs.Refusals.{first_of}
use Rattle.table_text.specs.TableText.{digits, decimal, separator_after, printed, names_line, table_text}
use Rattle.table_text.specs.Laws.TableTextLaws.{digits_one, digits_step}
use Rattle.table_scan.specs.Values.{is_digit, largest}
use Rattle.table_scan.specs.Laws.ScanLaws.{is_digit_lem}
use Rattle.table.specs.Table.{in_range, starts_with_names, later_lines, numbers, values, all_fit, well_formed, read_number}
use Rattle.table.specs.Laws.TableLaws.{separator_no_digit, numbers_digit, numbers_end, same_true, same_self, same_is, formed}

-- ---- the numbers of a printed list are the list

numbers_one : (f v : ℕ) (s : List ℕ) → v < 10 → numbers 0 (digits (suc f) v ++ s) ≡ numbers v s
numbers_one f v s h =
    let e : 0 * 10 + ((48 + v) - 48) ≡ v = omega arith in
    rw (digits_one f v h) (numbers_digit 0 (48 + v) s (is_digit_lem (48 + v) (omega arith) (omega arith)) ∙ ap (λ (x : ℕ). numbers x s) e)

numbers_digits : (f v : ℕ) (s : List ℕ) → v < 10 ^ suc f → numbers 0 (digits (suc f) v ++ s) ≡ numbers v s
numbers_digits zero v s h = numbers_one zero v s (omega arith)
numbers_digits (suc f) v s h =
    ⊎_elim
    (λ (z : 10 - v ≡ 0).
    let l : 10 ≤ v = omega arith in
    let d : is_digit (48 + v % 10) ≡ true = is_digit_lem (48 + v % 10) (omega arith) (omega arith) in
    let q : v / 10 * 10 + ((48 + v % 10) - 48) ≡ v = omega arith in
    rw (digits_step (suc f) v l, append_assoc)
    (numbers_digits f (v / 10) ((48 + v % 10) ∷ s) (omega arith)
    ∙ numbers_digit (v / 10) (48 + v % 10) s d
    ∙ ap (λ (x : ℕ). numbers x s) q))
    (λ (p : 0 < 10 - v). numbers_one (suc f) v s (omega arith))
    (eq-zero-or-pos (10 - v))

numbers_decimal : (v : ℕ) (s : List ℕ) → v ≤ largest → numbers 0 (decimal v ++ s) ≡ numbers v s
unfolding decimal
numbers_decimal v s h = numbers_digits 19 v s (omega arith)

pub numbers_printed : (w i : ℕ) (vs : List ℕ) → all_fit vs ≡ true → numbers 0 (printed w i vs) ≡ vs
unfolding printed all_fit numbers
numbers_printed w i [] h = refl
numbers_printed w i (v ∷ vs) h =
    numbers_decimal v (separator_after w i ∷ printed w (i + 1) vs) (leb-true v largest (and_left (leb v largest) (all_fit vs) h))
    ∙ numbers_end v (separator_after w i) (printed w (i + 1) vs) (separator_no_digit w i)
    ∙ ap (λ (x : List ℕ). v ∷ x) (numbers_printed w (i + 1) vs (and_right (leb v largest) (all_fit vs) h))

printed_formed : (w : ℕ) (vs : List ℕ) → all_fit vs ≡ true → length vs % w ≡ 0 → well_formed w (printed w 0 vs) ≡ true
unfolding well_formed
printed_formed w vs h e =
    rw (numbers_printed w 0 vs h)
    (and_both (same_self (printed w 0 vs)) (and_both h (eq-eqb (length vs % w) 0 e)))

-- ---- what number 0 says: no refusal applies

pub record Accepted (g c : ℕ) (text : List ℕ) (room : ℕ) : Type 0 where
  pub sizes_in_range : in_range g c ≡ true
  pub starts : starts_with_names g c text ≡ true
  pub lines : well_formed (g + c) (later_lines g c text) ≡ true
  pub room_enough : length (values g c text) ≤ room

pub accepted : (g c : ℕ) (text : List ℕ) (room : ℕ) → read_number g c text room ≡ 0 → Accepted g c text room
unfolding read_number first_of
accepted g c text room = go (in_range g c) refl (starts_with_names g c text) refl (well_formed (g + c) (later_lines g c text)) refl (ltb room (length (values g c text))) refl
  where
    go : (a : Bool) → in_range g c ≡ a → (b : Bool) → starts_with_names g c text ≡ b → (d : Bool) → well_formed (g + c) (later_lines g c text) ≡ d
        → (e : Bool) → ltb room (length (values g c text)) ≡ e → first_of ((2, not a) ∷ (14, not b) ∷ (15, not d) ∷ (16, e) ∷ []) ≡ 0 → Accepted g c text room
    go true p true q true r false s h = record { sizes_in_range = p; starts = q; lines = r; room_enough = ltb-false room (length (values g c text)) s }
    go true p true q true r true s h = absurd (omega arith)
    go true p true q false r e s h = absurd (omega arith)
    go true p false q d r e s h = absurd (omega arith)
    go false p b q d r e s h = absurd (omega arith)

-- ---- an accepted text is what its values are written as, byte for byte

pub text_again : (g c : ℕ) (text : List ℕ) (room : ℕ) → read_number g c text room ≡ 0 → table_text g c (values g c text) ≡ text
unfolding table_text values later_lines starts_with_names
text_again g c text room h =
    let a = accepted g c text room h in
    let f = formed (g + c) (later_lines g c text) a.lines in
    let n : names_line g c ≡ take (length (names_line g c)) text = same_true (names_line g c) (take (length (names_line g c)) text) a.starts in
    let p : drop (length (names_line g c)) text ≡ printed (g + c) 0 (numbers 0 (drop (length (names_line g c)) text)) = f.text in
    ap (λ (x : List ℕ). names_line g c ++ x) (sym p) ∙ ap (λ (x : List ℕ). x ++ drop (length (names_line g c)) text) n ∙ take-append-drop (length (names_line g c)) text

-- ---- a written text is accepted, and reads to the values it was written from

pub values_again : (g c : ℕ) (vs : List ℕ) → all_fit vs ≡ true → values g c (table_text g c vs) ≡ vs
unfolding values later_lines table_text
values_again g c vs s =
    ap (λ (x : List ℕ). numbers 0 x) (drop-append_seam (names_line g c) (printed (g + c) 0 vs)) ∙ numbers_printed (g + c) 0 vs s

starts_written : (g c : ℕ) (vs : List ℕ) → starts_with_names g c (table_text g c vs) ≡ true
unfolding starts_with_names table_text
starts_written g c vs =
    same_is (names_line g c) (take (length (names_line g c)) (names_line g c ++ printed (g + c) 0 vs)) (sym (take-append_seam (names_line g c) (printed (g + c) 0 vs)))

lines_written : (g c : ℕ) (vs : List ℕ) → all_fit vs ≡ true → length vs % (g + c) ≡ 0 → well_formed (g + c) (later_lines g c (table_text g c vs)) ≡ true
unfolding later_lines table_text
lines_written g c vs s e = rw (drop-append_seam (names_line g c) (printed (g + c) 0 vs)) (printed_formed (g + c) vs s e)

pub accepts_written : (g c : ℕ) (vs : List ℕ) (room : ℕ) → in_range g c ≡ true → all_fit vs ≡ true → length vs % (g + c) ≡ 0 → length vs ≤ room
    → read_number g c (table_text g c vs) room ≡ 0
unfolding read_number first_of
accepts_written g c vs room r s e l =
    rw (r, starts_written g c vs, lines_written g c vs s e, values_again g c vs s, le-ltb room (length vs) l) refl

-- ---- both in one

-- the text is the table of the values vs, which all fit and fill whole lines
pub record IsTable (g c : ℕ) (text vs : List ℕ) : Type 0 where
  pub written : text ≡ table_text g c vs
  pub fits : all_fit vs ≡ true
  pub whole : length vs % (g + c) ≡ 0

pub accepts_only : (g c : ℕ) (text : List ℕ) (room : ℕ) → read_number g c text room ≡ 0 → IsTable g c text (values g c text)
unfolding values
accepts_only g c text room z =
    let f = formed (g + c) (later_lines g c text) (accepted g c text room z).lines in
    record { written = sym (text_again g c text room z); fits = f.fits; whole = f.whole }

pub accepts_all : (g c : ℕ) (text vs : List ℕ) (room : ℕ) → in_range g c ≡ true → IsTable g c text vs → length vs ≤ room
    → (read_number g c text room ≡ 0) × (values g c text ≡ vs)
accepts_all g c text vs room r t l =
    (rw t.written (accepts_written g c vs room r t.fits t.whole l), rw t.written (values_again g c vs t.fits))

-- 14 and 15 are returned only where the text is the table of no values at all
pub not_14 : (g c : ℕ) (text vs : List ℕ) (room : ℕ) → IsTable g c text vs → read_number g c text room ≡ 14 → ⊥
unfolding read_number first_of
not_14 g c text vs room t =
    rw (ap (λ (x : List ℕ). starts_with_names g c x) t.written ∙ starts_written g c vs)
    (go (in_range g c) (well_formed (g + c) (later_lines g c text)) (ltb room (length (values g c text))))
  where
    go : (a d e : Bool) → first_of ((2, not a) ∷ (14, false) ∷ (15, not d) ∷ (16, e) ∷ []) ≡ 14 → ⊥
    go false d e h = omega arith
    go true false e h = omega arith
    go true true false h = omega arith
    go true true true h = omega arith

pub not_15 : (g c : ℕ) (text vs : List ℕ) (room : ℕ) → IsTable g c text vs → read_number g c text room ≡ 15 → ⊥
unfolding read_number first_of
not_15 g c text vs room t =
    rw (ap (λ (x : List ℕ). well_formed (g + c) (later_lines g c x)) t.written ∙ lines_written g c vs t.fits t.whole)
    (go (in_range g c) (starts_with_names g c text) (ltb room (length (values g c text))))
  where
    go : (a b e : Bool) → first_of ((2, not a) ∷ (14, not b) ∷ (15, false) ∷ (16, e) ∷ []) ≡ 15 → ⊥
    go false b e h = omega arith
    go true false e h = omega arith
    go true true false h = omega arith
    go true true true h = omega arith
