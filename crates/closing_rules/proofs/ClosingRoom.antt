-- No number of a closing's output is more than a sound record's. Assumes nothing.
use Rattle.std.specs.Prelude.{ℕ, ◌+◌, ◌≤◌, ◌≡◌}
use Rattle.std.proofs.Common.{arith}
use Rattle.lists.specs.Sums.{sum}
use Rattle.energy.specs.Limits.{most_figure}
use Rattle.output_lists.specs.Laws.Bounds.{Moderate}
use Rattle.output_lists.specs.Laws.BoundsLaws.{moderate_table, moderate_rows, no_more, and_then, moderate_joined}
use Rattle.record.specs.Book.{Book}
use Rattle.record.specs.Laws.SoundLaws.{Facts, injected_most, metered_most}
use Rattle.closing_rules.specs.Closing.{charge, drawn, supplied, lapsed, bank_after, closing_lists, closing_output}
use Rattle.closing_rules.proofs.ClosingLaws.{drawn_had, generator_split, consumer_split}

-- what a closing enters is part of what was pending, banked or open
module _ (b : Book) (f : Facts b) where
  -- a part of what was pending and banked, which is a part of what was injected
  of_injected : (g x rest : ℕ) → x + rest ≡ (b.gen g).bank + (b.gen g).pending → x ≤ most_figure
  of_injected g x rest e = omega (arith, injected_most b f g, (f.gen g).equation)

  charge_small : (g : ℕ) → charge b g ≤ most_figure
  charge_small g = of_injected g (charge b g) (sum b.plan.C (drawn b g) + lapsed b g + bank_after b g) (omega (arith, generator_split b f g))

  lapsed_small : (g : ℕ) → lapsed b g ≤ most_figure
  lapsed_small g = of_injected g (lapsed b g) (charge b g + sum b.plan.C (drawn b g) + bank_after b g) (omega (arith, generator_split b f g))

  bank_small : (g : ℕ) → bank_after b g ≤ most_figure
  bank_small g = of_injected g (bank_after b g) (charge b g + sum b.plan.C (drawn b g) + lapsed b g) (omega (arith, generator_split b f g))

  drawn_small : (g c : ℕ) → drawn b g c ≤ most_figure
  drawn_small g c = omega (arith, drawn_had b f g c, injected_most b f g, (f.gen g).equation)

  supplied_small : (c : ℕ) → supplied b c ≤ most_figure
  supplied_small c = omega (arith, consumer_split b f c, metered_most b f c, (f.con c).equation)

  -- every number of the output fits its 8 bytes
  pub closing_output_moderate : Moderate (closing_output b)
  unfolding closing_output closing_lists
  closing_output_moderate =
      let G = b.plan.G in
      let C = b.plan.C in
      moderate_joined
      (and_then (moderate_rows G C _ drawn_small)
      (and_then (moderate_table G _ (λ g l. charge_small g))
      (and_then (moderate_table G _ (λ g l. lapsed_small g))
      (and_then (moderate_table G _ (λ g l. bank_small g))
      (and_then (moderate_table C _ (λ c l. omega (arith, metered_most b f c, (f.con c).equation)))
      (and_then (moderate_table C _ (λ c l. supplied_small c)) no_more))))))
