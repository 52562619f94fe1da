-- Laws of rule 1: the cases that the code goes by, for a reader, since no proof needs them. Assumes nothing.
use Rattle.std.specs.Prelude.{ℕ, min, ◌≡◌}
use borrow.Author.Tests.{eq-eqb, ne_eqb}
use Rattle.energy.specs.Energy.{quarter_hour}
use Rattle.block_rules.specs.Delivery.{counted_of}

module _ (kind scheduled e : ℕ) where
  pub counted_idle : scheduled ≡ 0 → 0 ≡ counted_of kind scheduled e
  unfolding counted_of
  counted_idle z = rw (eq-eqb scheduled 0 z)

  pub counted_deemed : (scheduled ≡ 0 → ⊥) → (kind ≡ 0 → ⊥) → e ≡ counted_of kind scheduled e
  unfolding counted_of
  counted_deemed h k = rw (ne_eqb scheduled 0 h, ne_eqb kind 0 k)

  pub counted_smaller : (scheduled ≡ 0 → ⊥) → kind ≡ 0 → min e (quarter_hour scheduled) ≡ counted_of kind scheduled e
  unfolding counted_of
  counted_smaller h k = rw (ne_eqb scheduled 0 h, eq-eqb kind 0 k)
