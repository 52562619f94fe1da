-- What the code makes of a generator's figures is rules 1 to 4, and each figure is within its limit. Assumes nothing.
use Rattle.std.specs.Prelude.{ℕ, zero, suc, ◌+◌, ◌-◌, ◌≤◌, ◌<◌, ◌≡◌, refl, Bool, true, false, not, List, eqb, if◌then◌else◌}
use Rattle.std.proofs.Math.Path.{sym}
use Rattle.std.proofs.Common.{◌∙◌, inr, add-zero, add-suc, eq-zero-or-pos, arith, eq-eqb}
use Rattle.std.proofs.Math.Logic.{⊎_elim}
use Rattle.lists.specs.Sums.{sum}
use Rattle.lists.specs.Laws.SumsLaws.{sum_part}
use Rattle.lists.specs.Tables.{table}
use Rattle.lists.specs.Laws.TablesLaws.{table_same}
use Rattle.lists.specs.Pairs.{place}
use Rattle.lists.specs.Laws.PairsLaws.{place_table}
use Rattle.energy.specs.Limits.{most_capacity, most_reading}
use Rattle.sharing.specs.Share.{part, shared}
use Rattle.sharing.specs.Laws.ShareLaws.{part_wide, shared_within}
use Rattle.record.specs.Plan.{Plan, deemed, scheduled}
use Rattle.block_rules.specs.Delivery.{counted_of, counted, part_of, delivered, scheduled_at_exit, at_exit}
use Rattle.block_rules.proofs.DeliveryLaws.{counted_le, delivered_le}
use Rattle.block_rules.specs.Laws.Deliverable.{Deliverable}
use Rattle.block_figures.specs.Laws.Gap.{gap_of}
use Rattle.block_delivery.specs.Laws.DeliveryRows.{gap_at}

sum_beyond : (a : ℕ → ℕ) (m j : ℕ) → ((c : ℕ) → m ≤ c → a c ≡ 0) → sum (m + j) a ≡ sum m a
unfolding sum
sum_beyond a m zero z = rw add-zero refl
sum_beyond a m (suc j) z = rw add-suc (omega (arith, sum_beyond a m j z, z (m + j) (omega arith)))

-- ---- one pair

pub gap_is : (p : Plan) (g e c : ℕ) → gap_at p g c (delivered p g e c) ≡ at_exit p g e c - delivered p g e c
unfolding gap_of at_exit deemed
gap_is p g e c = go (not (eqb (p.kind g) 0))
  where
    q : ℕ
    q = scheduled_at_exit p g c

    go : (t : Bool) → (if t then 0 else q - delivered p g e c) ≡ (if t then delivered p g e c else q) - delivered p g e c
    go true = omega arith
    go false = refl

exit_of_scheduled : (p : Plan) (g e c : ℕ) → p.kind g ≡ 0 → at_exit p g e c ≡ scheduled_at_exit p g c
unfolding at_exit deemed
exit_of_scheduled p g e c z = rw (eq-eqb (p.kind g) 0 z)

-- ---- one generator

module _ (p : Plan) (E : ℕ → ℕ) (d : Deliverable p E) (g : ℕ) where
  pub kw_high : (c : ℕ) → p.kw g c ≤ most_capacity
  unfolding scheduled
  kw_high c =
      ⊎_elim
      (λ (e : p.C - c ≡ 0). omega (arith, d.kw_beyond g c (inr (omega arith))))
      (λ (l : 0 < p.C - c). omega (arith, d.scheduled_high g, sum_part p.C (p.kw g) c (omega arith)))
      (eq-zero-or-pos (p.C - c))

  row_figures : place 16 (table 16 (p.kw g)) ≡ p.kw g
  row_figures = place_table 16 (p.kw g) (λ c l. d.kw_beyond g c (inr (omega (arith, d.C_high))))

  wide : sum 16 (p.kw g) ≡ sum p.C (p.kw g)
  wide =
      let e : p.C + (16 - p.C) ≡ 16 = omega (arith, d.C_high) in
      rw e at (sum_beyond (p.kw g) p.C (16 - p.C) (λ c l. d.kw_beyond g c (inr l)))

  row_sum_lem : sum 16 (place 16 (table 16 (p.kw g))) ≡ scheduled p g
  unfolding scheduled
  row_sum_lem = rw row_figures wide

  -- rule 1

  module _ {row : List ℕ} (r : row ≡ table 16 (p.kw g)) where
    scheduled_here : sum 16 (place 16 row) ≡ scheduled p g
    scheduled_here = rw r row_sum_lem

    pub scheduled_low : sum 16 (place 16 row) ≤ most_capacity
    scheduled_low = omega (arith, scheduled_here, d.scheduled_high g)

    pub counted_here : {e K : ℕ} → e ≡ E g → K ≡ counted_of (p.kind g) (sum 16 (place 16 row)) e → K ≡ counted p g (E g)
    unfolding counted
    counted_here a h = h ∙ rw (a, scheduled_here)

  -- rule 2

  counted_high : counted p g (E g) ≤ most_reading
  counted_high = omega (arith, counted_le p g (E g), d.entry_high g)

  part_row : shared (counted p g (E g)) (table 16 (p.kw g)) ≡ table 16 (part_of p g (E g))
  unfolding part_of
  part_row =
      let K = counted p g (E g) in
      sym
      (table_same 16 (part_of p g (E g)) (part 16 (p.kw g) K) (λ c l. part_wide p.C 16 (p.kw g) K c (sym wide)) ∙
      (rw row_figures at (shared_within K (table 16 (p.kw g)) counted_high (omega (arith, row_sum_lem, d.scheduled_high g)))))

  pub parts_here : {K : ℕ} {row parts : List ℕ} → row ≡ table 16 (p.kw g) → K ≡ counted p g (E g) → parts ≡ shared K row → parts ≡ table 16 (part_of p g (E g))
  parts_here r k h = h ∙ rw (k, r) part_row

  -- rules 3 and 4

  pub exact : (c : ℕ) → p.kind g ≡ 0 → delivered p g (E g) c ≤ scheduled_at_exit p g c
  exact c z = omega (arith, delivered_le p g (E g) c (omega (arith, d.loss_high g c)), exit_of_scheduled p g (E g) c z)
