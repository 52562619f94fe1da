-- The loop of `block_figures::scheduled_kw`: what lasts from turn to turn, and what falls.
use Prim.Native.Nat.{◌≤◌}
use mathlib.Core.Path.{◌≡◌}
use Rattle.lists.specs.Pairs.{place}
use Rattle.lists.specs.Sums as sums
use Rattle.block_figures.proofs.scheduled_kw.Given as goal

abbrev pub invariant-loop-c : goal.invariant-loop-c
invariant-loop-c l = (l.c ≤ 16) × (l.sum ≡ sums.sum l.c (place 16 l.row))
