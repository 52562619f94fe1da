-- The places of a closing's output. Assumes nothing.
use Rattle.std.specs.Prelude.{ℕ, ◌+◌, ◌*◌, ◌<◌, ◌≡◌, length, get_or}
use Rattle.std.proofs.Common.{ap, ◌∙◌}
use mathlib.Core.List.{List, [], ◌∷◌}
use native.Mathlib.Omega.{arith}
use Rattle.lists.specs.Tables.{table}
use Rattle.lists.specs.Laws.TablesLaws.{length_table, get_or_table}
use Rattle.lists.specs.Pairs.{pairs, joined}
use Rattle.lists.specs.Laws.PairsLaws.{cell_index, get_or_pairs, length_pairs, length_joined, joined_here, joined_later, joined_none}
use Rattle.record.specs.Book.{Book}
use Rattle.closing_rules.specs.Closing.{charge, drawn, lapsed, bank_after, supplied, closing_lists, closing_output, closing_length}

module _ (b : Book) where
  abbrev opens : List ℕ
  opens = table b.plan.C (λ c. (b.con c).outstanding)

  abbrev from_supplied : List (List ℕ)
  from_supplied = table b.plan.C (supplied b) ∷ []

  abbrev from_bank : List (List ℕ)
  from_bank = table b.plan.G (bank_after b) ∷ opens ∷ from_supplied

  abbrev from_lapsed : List (List ℕ)
  from_lapsed = table b.plan.G (lapsed b) ∷ from_bank

  abbrev from_charge : List (List ℕ)
  from_charge = table b.plan.G (charge b) ∷ from_lapsed

  pub closing_length_lem : length (closing_output b) ≡ closing_length b.plan.G b.plan.C
  unfolding closing_output closing_lists closing_length
  closing_length_lem =
      omega (
        arith,
        length_joined (pairs b.plan.G b.plan.C (drawn b)) from_charge,
        length_joined (table b.plan.G (charge b)) from_lapsed,
        length_joined (table b.plan.G (lapsed b)) from_bank,
        length_joined (table b.plan.G (bank_after b)) (opens ∷ from_supplied),
        length_joined opens from_supplied,
        length_joined (table b.plan.C (supplied b)) [],
        joined_none,
        length_pairs b.plan.G b.plan.C (drawn b),
        length_table b.plan.G (charge b),
        length_table b.plan.G (lapsed b),
        length_table b.plan.G (bank_after b),
        length_table b.plan.C (λ c. (b.con c).outstanding),
        length_table b.plan.C (supplied b),
      )

  pub drawn_at_lem : (g c : ℕ) → g < b.plan.G → c < b.plan.C → get_or (closing_output b) (g * b.plan.C + c) 0 ≡ drawn b g c
  unfolding closing_output closing_lists
  drawn_at_lem g c h l =
      let G = b.plan.G in
      let C = b.plan.C in
      joined_here (pairs G C (drawn b)) from_charge (g * C + c) (omega (arith, length_pairs G C (drawn b), cell_index G C g c h l)) ∙ get_or_pairs G C (drawn b) g c h l

  pub charge_at_lem : (g : ℕ) → g < b.plan.G → get_or (closing_output b) (b.plan.G * b.plan.C + g) 0 ≡ charge b g
  unfolding closing_output closing_lists
  charge_at_lem g h =
      joined_later (pairs b.plan.G b.plan.C (drawn b)) from_charge (b.plan.G * b.plan.C) g (length_pairs b.plan.G b.plan.C (drawn b)) ∙
      joined_here (table b.plan.G (charge b)) from_lapsed g (omega (arith, length_table b.plan.G (charge b))) ∙ get_or_table b.plan.G (charge b) g 0 h

  -- what stands after drawn and charge
  after_charge : (i : ℕ) → get_or (closing_output b) (b.plan.G * b.plan.C + (b.plan.G + i)) 0 ≡ get_or (joined from_lapsed) i 0
  unfolding closing_output closing_lists
  after_charge i =
      joined_later (pairs b.plan.G b.plan.C (drawn b)) from_charge (b.plan.G * b.plan.C) (b.plan.G + i) (length_pairs b.plan.G b.plan.C (drawn b)) ∙
      joined_later (table b.plan.G (charge b)) from_lapsed b.plan.G i (length_table b.plan.G (charge b))

  after_lapsed : (i : ℕ) → get_or (joined from_lapsed) (b.plan.G + i) 0 ≡ get_or (joined from_bank) i 0
  after_lapsed i = joined_later (table b.plan.G (lapsed b)) from_bank b.plan.G i (length_table b.plan.G (lapsed b))

  pub lapsed_at_lem : (g : ℕ) → g < b.plan.G → get_or (closing_output b) (b.plan.G * b.plan.C + b.plan.G + g) 0 ≡ lapsed b g
  lapsed_at_lem g h =
      let e : b.plan.G * b.plan.C + b.plan.G + g ≡ b.plan.G * b.plan.C + (b.plan.G + g) = omega arith in
      ap (λ (i : ℕ). get_or (closing_output b) i 0) e ∙ after_charge g ∙
      joined_here (table b.plan.G (lapsed b)) from_bank g (omega (arith, length_table b.plan.G (lapsed b))) ∙ get_or_table b.plan.G (lapsed b) g 0 h

  pub bank_at_lem : (g : ℕ) → g < b.plan.G → get_or (closing_output b) (b.plan.G * b.plan.C + 2 * b.plan.G + g) 0 ≡ bank_after b g
  bank_at_lem g h =
      let e : b.plan.G * b.plan.C + 2 * b.plan.G + g ≡ b.plan.G * b.plan.C + (b.plan.G + (b.plan.G + g)) = omega arith in
      ap (λ (i : ℕ). get_or (closing_output b) i 0) e ∙ after_charge (b.plan.G + g) ∙ after_lapsed g ∙
      joined_here (table b.plan.G (bank_after b)) (opens ∷ from_supplied) g (omega (arith, length_table b.plan.G (bank_after b))) ∙ get_or_table b.plan.G (bank_after b) g 0 h

  after_bank : (i : ℕ) → get_or (closing_output b) (b.plan.G * b.plan.C + 3 * b.plan.G + i) 0 ≡ get_or (joined (opens ∷ from_supplied)) i 0
  after_bank i =
      let e : b.plan.G * b.plan.C + 3 * b.plan.G + i ≡ b.plan.G * b.plan.C + (b.plan.G + (b.plan.G + (b.plan.G + i))) = omega arith in
      ap (λ (k : ℕ). get_or (closing_output b) k 0) e ∙ after_charge (b.plan.G + (b.plan.G + i)) ∙ after_lapsed (b.plan.G + i) ∙
      joined_later (table b.plan.G (bank_after b)) (opens ∷ from_supplied) b.plan.G i (length_table b.plan.G (bank_after b))

  pub open_at : (c : ℕ) → c < b.plan.C → get_or (closing_output b) (b.plan.G * b.plan.C + 3 * b.plan.G + c) 0 ≡ (b.con c).outstanding
  open_at c h =
      after_bank c ∙ joined_here opens from_supplied c (omega (arith, length_table b.plan.C (λ c. (b.con c).outstanding))) ∙ get_or_table b.plan.C (λ c. (b.con c).outstanding) c 0 h

  pub supplied_at_lem : (c : ℕ) → c < b.plan.C → get_or (closing_output b) (b.plan.G * b.plan.C + 3 * b.plan.G + b.plan.C + c) 0 ≡ supplied b c
  supplied_at_lem c h =
      let e : b.plan.G * b.plan.C + 3 * b.plan.G + b.plan.C + c ≡ b.plan.G * b.plan.C + 3 * b.plan.G + (b.plan.C + c) = omega arith in
      ap (λ (k : ℕ). get_or (closing_output b) k 0) e ∙ after_bank (b.plan.C + c) ∙ joined_later opens from_supplied b.plan.C c (length_table b.plan.C (λ c. (b.con c).outstanding)) ∙
      joined_here (table b.plan.C (supplied b)) [] c (omega (arith, length_table b.plan.C (supplied b))) ∙ get_or_table b.plan.C (supplied b) c 0 h
