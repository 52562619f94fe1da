-- The loop of `record_bytes::agreed_rows::rows`: what lasts from turn to turn, and what falls.
use Prim.Native.Nat.{◌*◌, ◌≤◌}
use Rattle.lists.specs.Laws.TablesLaws.{Filling}
use Rattle.record_layout.specs.Laws.Layout.{side_by_side}
use Rattle.record_bytes.proofs.agreed_rows.rows.Given as goal

abbrev pub invariant-loop-g : goal.invariant-loop-g
invariant-loop-g l = Filling 24 (side_by_side l.t) l.initial.out (l.g * 3) l.out × (l.g ≤ 8)
