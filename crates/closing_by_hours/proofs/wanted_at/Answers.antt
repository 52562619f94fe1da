-- `closing_by_hours::wanted_at` meets its contract: the open of each class is read where it stands. Assumes nothing.
use Prim.Native.Nat.{ℕ, ◌+◌, ◌*◌}
use mathlib.Core.Path.{◌≡◌, ap, ◌∙◌}
use mathlib.Core.List.{[], ◌∷◌}
use lib.ListN.{get_or}
use Rattle.record_places.specs.RecordSize.{words_in}
use Rattle.record_places.specs.Laws.Places.{off_peak_at, normal_at, peak_at}
use Rattle.lists.specs.Tables.{table}
use Rattle.closing_by_hours.specs.Laws.ClassesRead.{wanted_at}
use native.Mathlib.Omega.{arith}
use Rattle.closing_by_hours.proofs.wanted_at.Goals as goal

pub returns : goal.returns
unfolding wanted_at table
returns c =
    let a = c.args in
    let n = a.c in
    let reached : (at k : ℕ) → at + (16 + n) ≡ off_peak_at + k * 32 + n + 16 → get_or (words_in a.s.now) (at + (16 + n)) 0 ≡ get_or (words_in a.s.now) (off_peak_at + k * 32 + n + 16) 0 = λ at k e.
    ap (λ (j : ℕ). get_or (words_in a.s.now) j 0) e in
    λ i. (c.number_at-offpeak.ensures ∙ reached off_peak_at 0 (omega arith)) i ∷ (c.number_at-normal.ensures ∙ reached normal_at 1 (omega arith)) i ∷ (c.number_at-peak.ensures ∙ reached peak_at 2 (omega arith)) i ∷ []
