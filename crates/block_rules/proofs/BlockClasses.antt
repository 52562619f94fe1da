-- F-7: what a block adds to a class of hours. Assumes nothing.
use Prim.Native.Nat.{ℕ, ◌+◌, ◌≤◌, ◌<◌}
use Rattle.std.specs.Prelude.{◌≡◌, refl, Bool, ◌&&◌, ◌||◌, if◌then◌else◌}
use Rattle.std.proofs.Common.{◌∙◌, eq-eqb, ne_eqb}
use Rattle.std.proofs.Math.Bool.{true, false, and-false}
use native.Mathlib.Omega.{arith}
use Rattle.std.proofs.Math.Dec.{eqb}
use Rattle.lists.specs.Sums.{sum}
use Rattle.lists.specs.Laws.SumsLaws.{sum_cong, sum_add, sum_one, sum_zero}
use Rattle.lists.specs.Tests.{within}
use Rattle.record.specs.Hours.{classes, slot_after, class_of_slot}
use Rattle.record.specs.Book.{Book, ClassStocks, no_stocks, by_hours}
use Rattle.record.specs.Sound.{limit}
use Rattle.record.specs.Laws.SoundLaws.{Facts}
use Rattle.block_rules.specs.Block.{class_of_block, adds_to, class_raised, class_after_block}

-- a slot has one of the three classes
pub class_few : (slot : ℕ) → class_of_slot slot < classes
unfolding class_of_slot
class_few slot = go (within 37 68 slot) (within 21 36 slot || within 77 92 slot)
  where
    go : (t u : Bool) → (if t then 0 else (if u then 2 else 1)) < 3
    go true u = omega arith
    go false true = omega arith
    go false false = omega arith

-- of the first three classes one alone is j
one_class : (j added : ℕ) → j < classes → (t : Bool) → sum classes (λ k. if t && eqb k j then added else 0) ≡ limit t added
one_class j added h true = sum_one classes (λ k. if eqb k j then added else 0) j h (λ k l n. rw (ne_eqb k j n)) ∙ rw (eq-eqb j j refl)
one_class j added h false = sum_zero classes (λ k. 0) (λ k l. refl)

limit_add : (t : Bool) (x y : ℕ) → limit t (x + y) ≡ limit t x + limit t y
limit_add true x y = refl
limit_add false x y = refl

module _ (b : Book) (E R : ℕ → ℕ) where
  -- a term of the classes, to which the block adds so much in its class
  pub class_after : (v : ClassStocks → ℕ) (added : ℕ) → ((x : ClassStocks) → v (class_raised b E R x) ≡ v x + added) →
      (k : ℕ) → v (class_after_block b E R k) ≡ v (b.hours k) + (if adds_to b k then added else 0)
  unfolding class_after_block
  class_after v added more k = either (adds_to b k)
    where
      either : (t : Bool) → v (if t then class_raised b E R (b.hours k) else b.hours k) ≡ v (b.hours k) + (if t then added else 0)
      either true = more (b.hours k)
      either false = omega arith

  -- by hours the three still add up to the whole of it
  pub classes_after_lem : (v : ClassStocks → ℕ) (added before after : ℕ) → ((x : ClassStocks) → v (class_raised b E R x) ≡ v x + added) → before + added ≡ after →
      sum classes (λ k. v (b.hours k)) ≡ limit (by_hours b) before → sum classes (λ k. v (class_after_block b E R k)) ≡ limit (by_hours b) after
  unfolding adds_to
  classes_after_lem v added before after more e was =
      let gain : ℕ → ℕ = λ k. if by_hours b && eqb k (class_of_block b) then added else 0 in
      rw (← e)
      (omega (
        arith,
        sum_cong classes (λ k. v (class_after_block b E R k)) (λ k. v (b.hours k) + gain k) (λ k l. class_after v added more k),
        sum_add classes (λ k. v (b.hours k)) gain,
        one_class (class_of_block b) added (class_few (slot_after b.monthblocks)) (by_hours b),
        limit_add (by_hours b) before added,
      ))

  -- a fourth class there is not
  pub no_fourth : Facts b → (k : ℕ) → 3 ≤ k → class_after_block b E R k ≡ no_stocks
  unfolding class_after_block adds_to
  no_fourth f k h = rw (ne_eqb k (class_of_block b) (λ e. omega (arith, class_few (slot_after b.monthblocks))), and-false (by_hours b)) (f.hours_three k h)
