-- Laws of reading the text. Assumes nothing.
use Rattle.std.specs.Prelude.{ℕ, ◌*◌, ◌≤◌, ◌<◌, ◌≡◌, Bool, not, ◌&&◌, List, ltb, length, if◌then◌else◌, Result, Ok, Err}
use Rattle.std.proofs.Math.Path.{refl, sym}
use Rattle.std.proofs.Common.{ap, ◌∙◌, arith, lt-ltb, le-ltb}
use Rattle.std.proofs.Math.Bool.{true, false}
use Rattle.lists.specs.Tests.{within}
use Rattle.lists.specs.Refusals.{first_of}
use Rattle.refusal.specs.declared.Refusal.{Refusal}
use Rattle.refusal.specs.declared.Refusal.TheVariants.{WrongNames, WrongLine}
use Rattle.refusal.specs.Numbers.{shown}
use Rattle.refusal.specs.Laws.NumbersLaws.{one_refusal}
use Rattle.table.specs.Table.{in_range, starts_with_names, later_lines, well_formed, values, read_number, ReadMeets}
use Rattle.table.specs.Laws.ReadMeetsLaws.{lines_read}
use Rattle.wheel_rules.specs.Display.{most_input, space, table_number}
use Rattle.wheel_input.specs.Laws.Input.{InputRead}

-- ---- the names line

names_differ : (text : List ℕ) (room : ℕ) → starts_with_names 1 2 text ≡ false → read_number 1 2 text room ≡ 14
unfolding read_number in_range within first_of
names_differ text room e = rw e

names_right : (text : List ℕ) (room : ℕ) → starts_with_names 1 2 text ≡ true → read_number 1 2 text room ≡ 14 → ⊥
unfolding read_number in_range within first_of
names_right text room e h = go (not (well_formed 3 (later_lines 1 2 text))) (ltb room (length (values 1 2 text))) (rw e at h)
  where
    go : (malformed full : Bool) → ◌≡◌ {A = ℕ} (if malformed then 15 else (if full then 16 else 0)) 14 → ⊥
    go true full h = omega arith
    go false true h = omega arith
    go false false h = omega arith

-- ---- the answer that shows 14

shown_14 : (r : Result ℕ Refusal) → shown r ≡ 14 → r ≡ Err WrongNames
shown_14 (Ok k) e = absurd (omega arith)
shown_14 (Err q) e = ap Err (one_refusal q WrongNames e)

-- ---- the table's number

number_short : (text : List ℕ) → length text ≤ most_input → table_number text ≡ read_number 1 2 text space
unfolding table_number
number_short text h = rw (le-ltb most_input (length text) h) (go (starts_with_names 1 2 text))
  where
    go : (t : Bool) → (if t && false then 15 else read_number 1 2 text space) ≡ read_number 1 2 text space
    go true = refl
    go false = refl

pub number_differ : (text : List ℕ) → starts_with_names 1 2 text ≡ false → table_number text ≡ 14
unfolding table_number
number_differ text e = rw e (names_differ text space e)

pub number_long : (text : List ℕ) → starts_with_names 1 2 text ≡ true → most_input < length text → table_number text ≡ 15
unfolding table_number
number_long text e h = rw (e, lt-ltb most_input (length text) h)

module _ {text out last : List ℕ} (size : length out ≡ space) where
  number_read : {r : Result ℕ Refusal} → ReadMeets 1 2 text out r last → read_number 1 2 text space ≡ shown r
  number_read m = sym (m.number ∙ ap (read_number 1 2 text) size)

  pub input_short : (r : Result ℕ Refusal) → ReadMeets 1 2 text out r last → length text ≤ most_input → InputRead text r last
  unfolding InputRead
  input_short (Ok k) m h =
      let l = lines_read m in
      (number_short text h ∙ number_read m, (omega (arith, l.room), l.start))
  input_short (Err e) m h = number_short text h ∙ number_read m

  -- past 64 KiB, an answer other than 14
  pub input_long : (r : Result ℕ Refusal) → ReadMeets 1 2 text out r last → (r ≡ Err WrongNames → ⊥) → most_input < length text → InputRead text (Err WrongLine) last
  unfolding InputRead
  input_long r m n h = go (starts_with_names 1 2 text) refl
    where
      go : (t : Bool) → starts_with_names 1 2 text ≡ t → table_number text ≡ 15
      go true e = number_long text e h
      go false e = absurd (n (shown_14 r (sym (number_read m) ∙ names_differ text space e)))

  -- past 64 KiB, with names that differ
  pub input_names : ReadMeets 1 2 text out (Err WrongNames) last → InputRead text (Err WrongNames) last
  unfolding InputRead
  input_names m = go (starts_with_names 1 2 text) refl
    where
      go : (t : Bool) → starts_with_names 1 2 text ≡ t → table_number text ≡ 14
      go true e = absurd (names_right text space e (number_read m))
      go false e = number_differ text e

pub input_room : (text last : List ℕ) (k : ℕ) → InputRead text (Ok k) last → k * 3 ≤ space
unfolding InputRead
input_room text last k h = h.1.0
