-- The refusals of opening and schedule in the parts that the code tests. Assumes nothing.
use Rattle.std.specs.Prelude.{ℕ, ◌+◌, ◌*◌, ◌≤◌, ◌≡◌, Bool, ◌&&◌, not, List, [], ◌∷◌, eqb, ltb, length, get_or}
use Rattle.lists.specs.Sums.{sum}
use Rattle.lists.specs.Tests.{some, within}
use Rattle.lists.specs.Pairs.{place, cell}
use Rattle.lists.specs.Refusals.{first_of}
use Rattle.energy.specs.Limits.{most_generators, most_consumers, most_rank}
use Rattle.record.specs.Plan.{lower_capacity}
use Rattle.record.specs.declared.Agreed.{Agreed}

-- ---- opening

-- a number outside a range, among count numbers from a place on
unfoldable pub outside : List ℕ → ℕ → ℕ → ℕ → ℕ → Bool
outside xs from count low high = some count (λ k. not (within low high (get_or xs (from + k) 0)))

-- number k of a generator's three is over a limit
unfoldable pub column_over : List ℕ → ℕ → ℕ → ℕ → Bool
column_over xs n k most = some n (λ g. ltb most (cell n 3 xs g k))

pub record Fitting (G C : ℕ) (generators pairs : List ℕ) : Type 0 where
  pub G_high : G ≤ most_generators
  pub C_high : C ≤ most_consumers
  pub generators_size : length generators ≡ 3 * G
  pub pairs_size : length pairs ≡ 2 * (G * C)

-- ---- schedule, on the parts of the record that it is tested by

unfoldable pub off_link : List ℕ → ℕ → ℕ → List ℕ → Bool
off_link link n m kws = some n (λ g. some m (λ c. eqb (cell 8 16 link g c) 0 && ltb 0 (cell n m kws g c)))

-- generator g has more kW than the lower of its capacities
abbrev pub over_at : Agreed → ℕ → ℕ → List ℕ → ℕ → Bool
over_at a n m kws g = ltb (lower_capacity (place 8 a.installed g) (place 8 a.contracted g)) (sum m (cell n m kws g))

unfoldable pub over_capacity : Agreed → ℕ → ℕ → List ℕ → Bool
over_capacity a n m kws = some n (over_at a n m kws)

unfoldable pub refusal_on : Agreed → List ℕ → ℕ → ℕ → List ℕ → List ℕ → ℕ
refusal_on a link n m kws ranks =
    first_of
    ((2, not (eqb (length kws) (n * m) && eqb (length ranks) (n * m))) ∷
    (7, off_link link n m kws) ∷
    (8, over_capacity a n m kws) ∷
    (9, some n (λ g. some m (λ c. not (within 1 most_rank (cell n m ranks g c))))) ∷
    [])
