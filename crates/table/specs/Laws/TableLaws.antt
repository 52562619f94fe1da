-- Laws of the definitions of Table: separators, numbers, texts that are the same, well formed lines, the range of G and C. Assumes nothing.
use Rattle.std.specs.Prelude.{ℕ, ◌+◌, ◌-◌, ◌*◌, ◌%◌, ◌≤◌, ◌≡◌, refl, Bool, true, false, ◌&&◌, List, [], ◌∷◌, eqb, length, if◌then◌else◌}
use Rattle.std.proofs.lemmas.Bool.{false≢true}
use Rattle.std.proofs.Common.{eq-eqb, eqb-true}
use Rattle.lists.specs.Tests.{within}
use Rattle.lists.specs.Laws.TestsLaws.{and_left, and_right, and_both, within_low, within_high}
use Rattle.table_text.specs.TableText.{separator_after, printed}
use Rattle.table_scan.specs.Values.{is_digit}
use Rattle.table.specs.Table.{in_range, same, numbers, all_fit, well_formed}

pub never : {A : Type 0} → ◌≡◌ {A = Bool} false true → A
never h = absurd (false≢true h)

-- ---- separators

pub separator_no_digit : (w k : ℕ) → is_digit (separator_after w k) ≡ false
unfolding is_digit separator_after within
separator_no_digit w k = go (eqb ((k + 1) % w) 0)
  where
    go : (t : Bool) → is_digit (if t then 10 else 44) ≡ false
    go true = refl
    go false = refl

-- ---- numbers

pub numbers_digit : (n b : ℕ) (s : List ℕ) → is_digit b ≡ true → numbers n (b ∷ s) ≡ numbers (n * 10 + (b - 48)) s
unfolding numbers
numbers_digit n b s h = rw h

pub numbers_end : (n b : ℕ) (s : List ℕ) → is_digit b ≡ false → numbers n (b ∷ s) ≡ n ∷ numbers 0 s
unfolding numbers
numbers_end n b s h = rw h

-- ---- texts that are the same

pub same_true : (s t : List ℕ) → same s t ≡ true → s ≡ t
unfolding same
same_true [] [] h = refl
same_true [] (b ∷ t) h = never h
same_true (a ∷ s) [] h = never h
same_true (a ∷ s) (b ∷ t) h =
    let p : a ≡ b = eqb-true a b (and_left (eqb a b) (same s t) h) in
    let q : s ≡ t = same_true s t (and_right (eqb a b) (same s t) h) in
    cc

pub same_self : (s : List ℕ) → same s s ≡ true
unfolding same
same_self [] = refl
same_self (a ∷ s) = and_both (eq-eqb a a refl) (same_self s)

pub same_is : (s t : List ℕ) → s ≡ t → same s t ≡ true
same_is s t e = rw e (same_self t)

pub same_false : (s t : List ℕ) → (s ≡ t → ⊥) → same s t ≡ false
same_false s t f = go (same s t) refl
  where
    go : (b : Bool) → same s t ≡ b → same s t ≡ false
    go false e = e
    go true e = absurd (f (same_true s t e))

-- ---- well formed lines

-- a well formed text is the printed form of its numbers, which all fit and make whole lines
pub record Formed (w : ℕ) (s : List ℕ) : Type 0 where
  pub text : s ≡ printed w 0 (numbers 0 s)
  pub fits : all_fit (numbers 0 s) ≡ true
  pub whole : length (numbers 0 s) % w ≡ 0

pub formed : (w : ℕ) (s : List ℕ) → well_formed w s ≡ true → Formed w s
unfolding well_formed
formed w s h =
    let a : Bool = same s (printed w 0 (numbers 0 s)) in
    let b : Bool = all_fit (numbers 0 s) in
    let c : Bool = eqb (length (numbers 0 s) % w) 0 in
    record {
      text = same_true s (printed w 0 (numbers 0 s)) (and_left a (b && c) h);
      fits = and_left b c (and_right a (b && c) h);
      whole = eqb-true (length (numbers 0 s) % w) 0 (and_right b c (and_right a (b && c) h));
    }

-- ---- G and C

pub record Ranged (g c : ℕ) : Type 0 where
  pub g_low : 1 ≤ g
  pub g_high : g ≤ 8
  pub c_low : 1 ≤ c
  pub c_high : c ≤ 16

pub ranged : (g c : ℕ) → in_range g c ≡ true → Ranged g c
unfolding in_range
ranged g c h =
    let p = and_left (within 1 8 g) (within 1 16 c) h in
    let q = and_right (within 1 8 g) (within 1 16 c) h in
    record { g_low = within_low 1 8 g p; g_high = within_high 1 8 g p; c_low = within_low 1 16 c q; c_high = within_high 1 16 c q }
