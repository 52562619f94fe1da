-- Rule 2 of a block: an energy shared over kW figures in whole watt-hours. Assumes nothing.
use Rattle.std.specs.Prelude.{ℕ, suc, ◌-◌, ◌*◌, ◌/◌, ◌&&◌, List, eqb, leb, if◌then◌else◌}
use Rattle.lists.specs.Sums.{sum}
use Rattle.lists.specs.Tables.{table}
use Rattle.lists.specs.Pairs.{place}
use Rattle.energy.specs.Limits.{most_reading, most_capacity, most_consumers}

-- The part of consumer c in K, shared over a(0), …, a(C - 1), whose sum is document 01's A. Consumers are counted from 0 here and from 1
-- there: the sums of the first c and of the first c + 1 figures are its S(c) and S(c + 1).
unfoldable pub part : ℕ → (ℕ → ℕ) → ℕ → ℕ → ℕ
part C a K c = if eqb (sum C a) 0 then 0 else K * sum (suc c) a / sum C a - K * sum c a / sum C a

-- The row-sharing step: sixteen parts by sixteen kW figures; zeros where K or the figures' sum is over its limit.
unfoldable pub shared : ℕ → List ℕ → List ℕ
shared K kw =
    let a = place most_consumers kw in
    if leb K most_reading && leb (sum most_consumers a) most_capacity then table most_consumers (part most_consumers a K) else table most_consumers (λ c. 0)
