-- Laws of rule 4: the cases that the code goes by, for a reader, since no proof needs them. Assumes nothing.
use Rattle.std.specs.Prelude.{ℕ, ◌-◌, ◌≡◌}
use Rattle.std.proofs.Common.{eq-eqb, ne_eqb}
use Rattle.energy.specs.Energy.{after_loss}
use Rattle.block_figures.specs.Laws.Gap.{gap_of}

module _ (kind scheduled rate delivered : ℕ) where
  pub gap_deemed : (kind ≡ 0 → ⊥) → 0 ≡ gap_of kind scheduled rate delivered
  unfolding gap_of
  gap_deemed k = rw (ne_eqb kind 0 k)

  pub gap_scheduled : kind ≡ 0 → after_loss scheduled rate - delivered ≡ gap_of kind scheduled rate delivered
  unfolding gap_of
  gap_scheduled k = rw (eq-eqb kind 0 k)
