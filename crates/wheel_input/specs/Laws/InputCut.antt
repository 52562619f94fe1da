-- Program `wheel` reads at most one byte past 64 KiB: what is printed for a text depends on no byte after that. Assumes nothing.
use Rattle.std.specs.Prelude.{ℕ, ◌-◌, ◌≤◌, ◌<◌, ◌≡◌, refl, Bool, true, false, List, length, take}
use Rattle.std.proofs.Common.{sym, ap, ◌∙◌, ⊎_elim, eq-zero-or-pos, arith, ne_eqb, take_all, take-take, length-take-le}
use Rattle.table_text.specs.TableText.{digits, decimal, separator_after, name, names, names_line}
use Rattle.table.specs.Table.{starts_with_names}
use Rattle.wheel_rules.specs.Display.{most_input, table_number, refused_text, display}
use Rattle.wheel_input.specs.Laws.InputLaws.{number_differ, number_long}

-- a text that the table's number refuses prints this number
refused_so : (text : List ℕ) (n : ℕ) → table_number text ≡ n → (n ≡ 0 → ⊥) → display text ≡ refused_text n
unfolding display
refused_so text n e z = rw (e, ne_eqb n 0 z)

-- the names line is within the first k bytes
names_cut : (k : ℕ) (text : List ℕ) → length (names_line 1 2) ≤ k → starts_with_names 1 2 (take k text) ≡ starts_with_names 1 2 text
unfolding starts_with_names
names_cut k text h = rw (take-take (length (names_line 1 2)) k text h)

names_low : length (names_line 1 2) ≤ most_input
unfolding names_line names name separator_after decimal digits
names_low = omega arith

-- the first k bytes, k past 64 KiB, print what the whole text does
cut_prints : (k : ℕ) (text : List ℕ) → most_input < k → display (take k text) ≡ display text
cut_prints k text l =
    ⊎_elim
    (λ (e : length text - k ≡ 0). ap display (take_all k text (omega arith)))
    (λ (p : 0 < length text - k). go (starts_with_names 1 2 text) refl (omega arith))
    (eq-zero-or-pos (length text - k))
  where
    low : length (names_line 1 2) ≤ k
    low = omega (arith, names_low)

    go : (t : Bool) → starts_with_names 1 2 text ≡ t → k ≤ length text → display (take k text) ≡ display text
    go true e p =
        refused_so (take k text) 15 (number_long (take k text) (names_cut k text low ∙ e) (omega (arith, length-take-le k text p))) (λ z. omega arith) ∙
        sym (refused_so text 15 (number_long text e (omega arith)) (λ z. omega arith))
    go false e p =
        refused_so (take k text) 14 (number_differ (take k text) (names_cut k text low ∙ e)) (λ z. omega arith) ∙
        sym (refused_so text 14 (number_differ text e) (λ z. omega arith))

-- as `wheel` cuts: 64 KiB and one byte
pub first_bytes_decide : (text : List ℕ) → display (take 65_537 text) ≡ display text
first_bytes_decide text = cut_prints 65_537 text (omega arith)
