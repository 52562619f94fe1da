-- Numbers of the record raised or replaced where they stand in its bytes, by what calls give; sums of rows and columns of a list. Assumes nothing.
use Rattle.std.specs.Prelude.{ℕ, ◌+◌, ◌*◌, ◌≤◌, ◌<◌, ◌≡◌, List, length, get_or}
use Rattle.lists.specs.Sums.{sum}
use Rattle.energy.specs.Limits.{most_figure}
use Rattle.output_lists.specs.Laws.Bounds.{Moderate}
use Rattle.record_layout.specs.Laws.NumbersRaised.{raised}
use Rattle.record_layout.specs.Laws.NumbersReplaced.{replaced}
use Rattle.record_places.specs.RecordSize.{record_numbers, record_bytes, words_in}

-- ---- sums of a list of rows of m numbers that stands in xs from place `first` on

abbrev pub row_sum : ℕ → List ℕ → ℕ → ℕ → ℕ
row_sum m xs first g = sum m (λ c. get_or xs (first + (g * m + c)) 0)

abbrev pub column_sum : ℕ → ℕ → List ℕ → ℕ → ℕ → ℕ
column_sum n m xs first c = sum n (λ g. get_or xs (first + (g * m + c)) 0)

-- the lists of a call's output for n generators and m consumers, of so many numbers, with none that is more than a sound record's
pub record OutputLists (numbers n m : ℕ) (out : List ℕ) : Type 0 where
  pub generators_few : n ≤ 8
  pub consumers_few : m ≤ 16
  pub size : length out ≡ numbers
  pub moderate : Moderate out

-- ---- numbers raised in the record's bytes

-- the bytes s became t: f i was added to the number at place `at i`, for each i below n
pub record Raised (at : ℕ → ℕ) (n : ℕ) (f : ℕ → ℕ) (s t : List ℕ) : Type 0 where
  pub size : length t ≡ length s
  pub is : words_in t ≡ raised at n f (words_in s)

-- the bytes s became t: to the number at place `at i`, for each i below n, a result was added that a call at i may give
pub record RaisedBy (gives : ℕ → ℕ → Type 0) (at : ℕ → ℕ) (n : ℕ) (s t : List ℕ) : Type 0 where
  pub added : ℕ → ℕ
  pub given : (i : ℕ) → i < n → gives i (added i)
  pub is : Raised at n added s t

-- the numbers from place p on are at most b
pub record Low (p b : ℕ) (ws : List ℕ) : Type 0 where
  pub at : (k : ℕ) → p ≤ k → get_or ws k 0 ≤ b

-- n numbers of the record from place p on, with none that is more than b there or behind
pub record Raisable (p n b : ℕ) (s : List ℕ) : Type 0 where
  pub size : length s ≡ record_bytes
  pub placed : p + n ≤ record_numbers
  pub low : Low p b (words_in s)

-- a number that is no more than this has room for a sum of 16 figures
abbrev pub most_raised : ℕ
most_raised = 16 * most_figure

-- ---- numbers replaced in the record's bytes

-- the bytes s became t: the number at place `at i` is now f i, for each i below n
pub record Replaced (at : ℕ → ℕ) (n : ℕ) (f : ℕ → ℕ) (s t : List ℕ) : Type 0 where
  pub size : length t ≡ length s
  pub is : words_in t ≡ replaced at n f (words_in s)

-- the bytes s became t: the number at place `at i`, for each i below n, is now a result that a call at i may give
pub record ReplacedBy (gives : ℕ → ℕ → Type 0) (at : ℕ → ℕ) (n : ℕ) (s t : List ℕ) : Type 0 where
  pub put : ℕ → ℕ
  pub given : (i : ℕ) → i < n → gives i (put i)
  pub is : Replaced at n put s t

-- n numbers of the record from place p on
pub record Replaceable (p n : ℕ) (s : List ℕ) : Type 0 where
  pub size : length s ≡ record_bytes
  pub placed : p + n ≤ record_numbers
