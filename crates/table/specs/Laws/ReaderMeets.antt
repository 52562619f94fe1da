-- The ways in which a call of the reader meets its contract. Assumes nothing.
use Rattle.std.specs.Prelude.{ℕ, ◌+◌, ◌/◌, ◌≤◌, ◌<◌, ◌≡◌, refl, Bool, true, false, List, eqb, ltb, length, Result, Ok, Err}
use Rattle.std.specs.Cmp.Lexicographic.{pointwise}
use Rattle.std.proofs.Common.{sym, arith, lt-ltb, le-ltb, ne_eqb}
use Rattle.std.proofs.lemmas.Bool.Decides.{same_from_decides, Decides-eqb}
use Rattle.std.proofs.lemmas.Slice.Eq.{slice_eq-Decides}
use Rattle.lists.specs.Refusals.{first_of}
use Rattle.refusal.specs.declared.Refusal.{Refusal}
use Rattle.refusal.specs.declared.Refusal.TheVariants.{WrongSize, WrongNames, WrongLine, NoRoom}
use Rattle.refusal.specs.Numbers.{number_of}
use Rattle.refusal.specs.Laws.NumbersLaws.{number_some}
use Rattle.table.specs.Table.{in_range, same, starts_with_names, later_lines, numbers, values, well_formed, read_number, from_start, read_output, ReadMeets}
use Rattle.table.specs.Laws.TableLaws.{same_true, same_is}
use Rattle.table.specs.Laws.ReaderParts.{LinesMeet}

-- ---- the numbers

refused : (g c : ℕ) (text out : List ℕ) (e : Refusal) → read_number g c text (length out) ≡ number_of e → ReadMeets g c text out (Err e) out
unfolding read_output
refused g c text out e q =
    let z : eqb (read_number g c text (length out)) 0 ≡ false = ne_eqb (read_number g c text (length out)) 0 (λ y. omega (arith, number_some e)) in
    record { number = sym q; lines = tt; output = rw z }

pub meets_2 : (g c : ℕ) (text out : List ℕ) → in_range g c ≡ false → ReadMeets g c text out (Err WrongSize) out
unfolding read_number first_of
meets_2 g c text out r = refused g c text out WrongSize (rw r)

pub meets_14 : (g c : ℕ) (text out : List ℕ) → in_range g c ≡ true → starts_with_names g c text ≡ false → ReadMeets g c text out (Err WrongNames) out
unfolding read_number first_of
meets_14 g c text out r s = refused g c text out WrongNames (rw (r, s))

-- ---- the later lines

module _ {w : ℕ} {s : List ℕ} (out : List ℕ) where
  pub lines_15 : well_formed w s ≡ false → LinesMeet w s out (Err WrongLine) out
  lines_15 f = record { answer = rw f; output = rw f }

  pub lines_16 : well_formed w s ≡ true → length out < length (numbers 0 s) → LinesMeet w s out (Err NoRoom) out
  lines_16 f l = record { answer = rw (f, lt-ltb (length out) (length (numbers 0 s)) l); output = rw (f, lt-ltb (length out) (length (numbers 0 s)) l) }

  pub lines_laid : (m : List ℕ) → well_formed w s ≡ true → length (numbers 0 s) ≤ length out → m ≡ from_start (numbers 0 s) out
      → LinesMeet w s out (Ok (length (numbers 0 s) / w)) m
  lines_laid m f l h =
      record { answer = rw (f, le-ltb (length out) (length (numbers 0 s)) l); output = rw (f, le-ltb (length out) (length (numbers 0 s)) l) h }

-- the whole call, from its later lines
pub meets : {g c : ℕ} {text : List ℕ} (out : List ℕ) (r : Result ℕ Refusal) (m : List ℕ) → in_range g c ≡ true → starts_with_names g c text ≡ true
    → LinesMeet (g + c) (later_lines g c text) out r m → ReadMeets g c text out r m
unfolding read_number first_of values read_output
meets {g} {c} {text} out r m p q h = go (well_formed (g + c) (later_lines g c text)) refl (ltb (length out) (length (values g c text))) refl
  where
    go : (t : Bool) → well_formed (g + c) (later_lines g c text) ≡ t → (u : Bool) → ltb (length out) (length (values g c text)) ≡ u → ReadMeets g c text out r m
    go false f u l =
        let a : r ≡ Err WrongLine = rw f at h.answer in
        let o : m ≡ out = rw f at h.output in
        rw (a, o) (refused g c text out WrongLine (rw (p, q, f)))
    go true f true l =
        let a : r ≡ Err NoRoom = rw (f, l) at h.answer in
        let o : m ≡ out = rw (f, l) at h.output in
        rw (a, o) (refused g c text out NoRoom (rw (p, q, f, l)))
    go true f false l =
        let a : r ≡ Ok (length (values g c text) / (g + c)) = rw (f, l) at h.answer in
        let o : m ≡ from_start (values g c text) out = rw (f, l) at h.output in
        rw a (record { number = rw (p, q, f, l); lines = refl; output = rw (p, q, f, l) o })

-- ---- the names line

-- what std's test of a text's start says
pub starts_is : (s t : List ℕ) → pointwise eqb t s ≡ same s t
starts_is s t =
    same_from_decides
    (pointwise eqb t s)
    (same s t)
    (slice_eq-Decides Decides-eqb t s (pointwise eqb t s) refl)
    (λ e. sym (same_true s t e), λ e. same_is s t (sym e))
