-- A block's sums fit 64 bits on a sound record. Assumes nothing.
use Rattle.std.specs.Prelude.{ℕ, ◌*◌, ◌≤◌, ◌<◌, ◌≡◌, Bool, if◌then◌else◌}
use Rattle.std.proofs.Math.Bool.{true, false}
use Rattle.std.proofs.Common.{⊎_elim, mul-le-mul_left, mul-one, eq-zero-or-pos, le_trans}
use native.Mathlib.Omega.{arith}
use Rattle.std.proofs.Math.Nat.{mul-le-mul}
use Rattle.lists.specs.Sums.{sum}
use Rattle.energy.specs.Limits.{most_reading}
use Rattle.energy.specs.Energy.{quarter_hour}
use Rattle.sharing.specs.Share.{part}
use Rattle.sharing.specs.Laws.ShareLaws.{part_none, part_le}
use Rattle.energy.specs.Limits.{most_figure}
use Rattle.output_lists.specs.Laws.Bounds.{Moderate}
use Rattle.output_lists.specs.Laws.BoundsLaws.{moderate_table, moderate_rows, no_more, and_then, moderate_joined}
use Rattle.record.specs.Plan.{deemed}
use Rattle.block_rules.specs.Delivery.{counted, unaccounted, part_of, loss_of, delivered, scheduled_at_exit, at_exit}
use Rattle.block_rules.proofs.DeliveryLaws.{counted_le, loss_of_le}
use Rattle.block_rules.specs.Settlement.{set_off, underdrawn, shortfall, remainder, block_lists, block_output}
use Rattle.block_rules.proofs.SettlementLaws.{set_off_le, shortfall_le, entry_split, exit_split}
use Rattle.record.specs.Stored.{plan_of, figures}
use Rattle.record.specs.Laws.SoundLaws.{Facts, kw_most}
use Rattle.record.specs.declared.Record.{Record}

part_most : (C : ℕ) (a : ℕ → ℕ) (K c : ℕ) → part C a K c ≤ K * a c
part_most C a K c =
    ⊎_elim
    (λ (e : sum C a ≡ 0). omega (arith, part_none C a K c e))
    (λ (p : 0 < sum C a). part_le C a K K c (omega (arith, mul-le-mul_left K p, mul-one K)))
    (eq-zero-or-pos (sum C a))

module _ (r : Record) (E R : ℕ → ℕ) (f : Facts (figures r)) (e-most : (g : ℕ) → E g ≤ most_reading) (r-most : (c : ℕ) → R c ≤ most_reading) where
  part_small : (g c : ℕ) → part_of (plan_of r) g (E g) c ≤ 80_000_000_000_000
  unfolding part_of figures
  part_small g c =
      omega (
        arith,
        part_most (plan_of r).C ((plan_of r).kw g) (counted (plan_of r) g (E g)) c,
        mul-le-mul (le_trans (counted_le (plan_of r) g (E g)) (e-most g)) (kw_most (figures r) f g c),
      )

  kw_small : (g c : ℕ) → quarter_hour ((plan_of r).kw g c) ≤ 100_000_000
  unfolding figures
  kw_small g c = omega (arith, kw_most (figures r) f g c)

  rate_small : (g c : ℕ) → (plan_of r).loss g c ≤ 10_000
  unfolding figures
  rate_small g c = omega (arith, (f.pair g c).loss)

  delivered_small : (g c : ℕ) → delivered (plan_of r) g (E g) c ≤ 80_000_000_000_000
  unfolding delivered
  delivered_small g c = omega (arith, part_small g c)

  exit_small : (g c : ℕ) → at_exit (plan_of r) g (E g) c ≤ 80_000_000_000_000
  unfolding at_exit
  exit_small g c = go (deemed (plan_of r) g)
    where
      go : (t : Bool) → (if t then delivered (plan_of r) g (E g) c else scheduled_at_exit (plan_of r) g c) ≤ 80_000_000_000_000
      go true = delivered_small g c
      go false = omega (arith, kw_small g c)

  loss_small : (g c : ℕ) → loss_of (plan_of r) g (E g) c ≤ most_figure
  loss_small g c = omega (arith, loss_of_le (plan_of r) g (E g) c (rate_small g c), part_small g c)

  setoff_small : (g c : ℕ) → set_off (plan_of r) E c (R c) g ≤ most_figure
  setoff_small g c = omega (arith, set_off_le (plan_of r) E c (R c) g, delivered_small g c)

  underdrawn_small : (g c : ℕ) → underdrawn (plan_of r) E c (R c) g ≤ most_figure
  unfolding underdrawn
  underdrawn_small g c = omega (arith, delivered_small g c)

  shortfall_small : (g c : ℕ) → shortfall (plan_of r) E c (R c) g ≤ most_figure
  shortfall_small g c = omega (arith, shortfall_le (plan_of r) E c (R c) g, exit_small g c)

  -- what is added to a term of a generator or a consumer is at most its reading
  unaccounted_part : (g : ℕ) → unaccounted (plan_of r) g (E g) ≤ most_reading
  unaccounted_part g = omega (arith, entry_split (plan_of r) E R g (λ c l. rate_small g c), e-most g)

  left_part : (c : ℕ) → remainder (plan_of r) E c (R c) ≤ most_reading
  left_part c = omega (arith, exit_split (plan_of r) E c (R c), r-most c)

  -- every number of the output is moderate
  pub output_moderate : Moderate (block_output (plan_of r) E R)
  unfolding block_output block_lists
  output_moderate =
      let G = (plan_of r).G in
      let C = (plan_of r).C in
      moderate_joined
      (and_then (moderate_rows G C _ loss_small)
      (and_then (moderate_rows G C _ setoff_small)
      (and_then (moderate_rows G C _ underdrawn_small)
      (and_then (moderate_rows G C _ shortfall_small)
      (and_then (moderate_table G _ (λ g l. omega (arith, unaccounted_part g)))
      (and_then (moderate_table C _ (λ c l. omega (arith, left_part c))) no_more))))))
