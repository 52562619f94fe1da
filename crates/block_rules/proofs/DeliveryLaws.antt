-- Laws of rules 1 to 4: every subtraction is exact, and the parts of a generator add up to what counts. Assumes nothing.
use Prim.Native.Nat.{ℕ, ◌*◌, ◌≤◌, ◌<◌, min}
use Rattle.std.specs.Prelude.{◌≡◌, Bool, eqb, if◌then◌else◌}
use Rattle.std.proofs.Math.Path.{refl, sym}
use Rattle.std.proofs.Common.{ap, ◌∙◌, mul-le-mul_left, mul-one, eq-zero-or-pos, eq-eqb}
use Rattle.std.proofs.Math.Bool.{true, false}
use Rattle.std.proofs.Math.Logic.{⊎_elim}
use native.Mathlib.Omega.{arith}
use Rattle.std.proofs.Math.Nat.{le_refl}
use Rattle.lists.specs.Sums.{sum}
use Rattle.lists.specs.Laws.SumsLaws.{sum_zero}
use Rattle.energy.specs.Energy.{quarter_hour}
use Rattle.energy.specs.Laws.EnergyLaws.{loss_le, after_loss_up}
use Rattle.sharing.specs.Share.{part}
use Rattle.sharing.specs.Laws.ShareLaws.{parts_sum, part_none, part_le}
use Rattle.record.specs.Plan.{Plan, deemed, scheduled}
use Rattle.block_rules.specs.Delivery.{counted_of, counted, part_of, loss_of, delivered, scheduled_at_exit, at_exit}

-- ---- rules 1 to 4

-- no kW, no part
pub part_of_no_kw : (p : Plan) (g e c : ℕ) → p.kw g c ≡ 0 → part_of p g e c ≡ 0
unfolding part_of
part_of_no_kw p g e c z =
    ⊎_elim
    (λ (s : sum p.C (p.kw g) ≡ 0). part_none p.C (p.kw g) K c s)
    (λ (s : 0 < sum p.C (p.kw g)).
    let h : K ≤ K * sum p.C (p.kw g) = omega (arith, mul-le-mul_left K s, mul-one K) in
    omega (arith, part_le p.C (p.kw g) K K c h, ap (λ (x : ℕ). K * x) z))
    (eq-zero-or-pos (sum p.C (p.kw g)))
  where
    K : ℕ
    K = counted p g e

module _ (p : Plan) (g e : ℕ) where
  -- E - K is exact
  pub counted_le : counted p g e ≤ e
  unfolding counted counted_of deemed
  counted_le = go (eqb (scheduled p g) 0) (deemed p g)
    where
      go : (s d : Bool) → (if s then 0 else (if d then e else min e (quarter_hour (scheduled p g)))) ≤ e
      go true d = omega arith
      go false true = omega arith
      go false false = omega arith

  counted_none : scheduled p g ≡ 0 → counted p g e ≡ 0
  unfolding counted counted_of
  counted_none z = rw (eq-eqb (scheduled p g) 0 z)

  -- the parts of a generator add up to what counts
  pub parts : sum p.C (part_of p g e) ≡ counted p g e
  unfolding part_of scheduled
  parts =
      ⊎_elim
      (λ (z : scheduled p g ≡ 0). sum_zero p.C (part p.C (p.kw g) (counted p g e)) (λ c l. part_none p.C (p.kw g) (counted p g e) c z) ∙ sym (counted_none z))
      (λ (h : 0 < scheduled p g). parts_sum p.C (p.kw g) (counted p g e) h)
      (eq-zero-or-pos (scheduled p g))

  module _ (c : ℕ) (rate : p.loss g c ≤ 10_000) where
    -- p - loss is exact
    pub loss_of_le : loss_of p g e c ≤ part_of p g e c
    unfolding loss_of
    loss_of_le = loss_le (part_of p g e c) (p.loss g c) rate

    counted_scheduled : deemed p g ≡ false → counted p g e ≤ quarter_hour (scheduled p g)
    unfolding counted counted_of deemed
    counted_scheduled d = rw d (go (eqb (scheduled p g) 0))
      where
        go : (t : Bool) → (if t then 0 else min e (quarter_hour (scheduled p g))) ≤ quarter_hour (scheduled p g)
        go true = omega arith
        go false = omega arith

    scheduled_part : deemed p g ≡ false → part_of p g e c ≤ quarter_hour (p.kw g c)
    unfolding part_of scheduled
    scheduled_part d = part_le p.C (p.kw g) (counted p g e) 250 c (counted_scheduled d)

    -- q - d is exact
    pub delivered_le : delivered p g e c ≤ at_exit p g e c
    unfolding at_exit delivered loss_of
    delivered_le = go (deemed p g) refl
      where
        go : (t : Bool) → deemed p g ≡ t → delivered p g e c ≤ (if t then delivered p g e c else scheduled_at_exit p g c)
        go true d = le_refl (delivered p g e c)
        go false d = after_loss_up (part_of p g e c) (quarter_hour (p.kw g c)) (p.loss g c) rate (scheduled_part d)
