-- Laws of drawing by turns, whoever serves them. Assumes nothing.
use Prim.Native.Nat.{ℕ, zero, suc, ◌+◌, ◌-◌, ◌≤◌, ◌<◌}
use Rattle.std.specs.Prelude.{◌≡◌, List, ◌⊎◌}
use Rattle.std.proofs.Math.Path.{refl}
use Rattle.std.proofs.Common.{inl, inr, ⊎_elim, arith, eq-zero-or-pos}
use Rattle.std.proofs.Math.Nat.{add-zero, add-suc}
use Rattle.lists.specs.Sums.{sum}
use Rattle.lists.specs.Laws.SumsLaws.{never_rises}
use Rattle.order_rules.specs.Settle.{kept, unmet}
use Rattle.order_rules.specs.Laws.Members.{In, Below, Before}
use Rattle.order_rules.specs.Laws.SettleLaws.{given_sum, given_le, given_all, given_nothing, before_first, kept_is, unmet_le}
use Rattle.closing_rules.specs.Drawing.{stock_at, drawn_at, missing_at}

module _ (serving : ℕ → List ℕ) (stock want : ℕ → ℕ) where
  abbrev at : ℕ → ℕ → ℕ
  at = stock_at serving stock want

  abbrev drawn : ℕ → ℕ → ℕ
  drawn = drawn_at serving stock want

  abbrev missing : ℕ → ℕ
  missing = missing_at serving stock want

  -- what is drawn is taken from the stock, exactly
  pub drawn_le : (s t : ℕ) → drawn s t ≤ at t s
  unfolding drawn_at
  drawn_le s t = given_le (serving t) (at t) (want t) s

  pub stock_next : (s t : ℕ) → at (suc t) s ≡ at t s - drawn s t
  unfolding stock_at drawn_at
  stock_next s t = kept_is (serving t) (at t) (want t) s

  stock_falls : (s t : ℕ) → at (suc t) s ≤ at t s
  stock_falls s t = omega (arith, stock_next s t)

  -- a turn that wants nothing leaves every stock as it is
  pub stock_stays : (s t : ℕ) → want t ≡ 0 → at (suc t) s ≡ at t s
  unfolding drawn_at
  stock_stays s t e = omega (arith, stock_next s t, given_nothing (serving t) (at t) (want t) s e)

  stock_first : (s : ℕ) → at 0 s ≡ stock s
  unfolding stock_at
  stock_first s = refl

  -- no stock has more than at first
  pub stock_most : (s t : ℕ) → at t s ≤ stock s
  stock_most s t = omega (arith, stock_first s, never_rises (λ k. at k s) (stock_falls s) 0 t (omega arith))

  -- what a stock loses in n turns is what is drawn on it in them
  pub span_drawn : (n t s : ℕ) → sum n (λ i. drawn s (t + i)) + at (t + n) s ≡ at t s
  unfolding sum
  span_drawn zero t s = rw add-zero (omega arith)
  span_drawn (suc n) t s = rw add-suc (omega (arith, span_drawn n t s, stock_next s (t + n), drawn_le s (t + n)))

  pub all_drawn : (n s : ℕ) → sum n (drawn s) + at n s ≡ stock s
  unfolding sum
  all_drawn zero s = omega (arith, stock_first s)
  all_drawn (suc n) s = omega (arith, all_drawn n s, stock_next s n, drawn_le s n)

  -- what a turn wants is drawn or missing
  pub turn_split : (n t : ℕ) → Below n (serving t) → sum n (λ s. drawn s t) + missing t ≡ want t
  unfolding drawn_at missing_at
  turn_split n t h = given_sum n (serving t) (at t) (want t) h

  pub missing_le : (t : ℕ) → missing t ≤ want t
  unfolding missing_at
  missing_le t = unmet_le (serving t) (at t) (want t)

  used_up : (s t : ℕ) → In s (serving t) → 0 < missing t → drawn s t ≡ at t s
  unfolding drawn_at missing_at
  used_up s t m h = given_all (serving t) (at t) (want t) s m h

  -- of those who serve a turn nobody has anything left in the end where the turn lacks anything
  pub none_idle : (n s t : ℕ) → t < n → In s (serving t) → (at n s ≡ 0) ⊎ (missing t ≡ 0)
  none_idle n s t l m =
      ⊎_elim
      (λ (e : missing t ≡ 0). inr e)
      (λ (h : 0 < missing t). inl (omega (arith, used_up s t m h, stock_next s t, never_rises (λ k. at k s) (stock_falls s) (suc t) n l)))
      (eq-zero-or-pos (missing t))

  -- who stands later in a turn is drawn on only where those before are used up
  pub before_drawn : (s u t : ℕ) → Before s u (serving t) → 0 < drawn u t → drawn s t ≡ at t s
  unfolding drawn_at
  before_drawn s u t m l = before_first (serving t) (at t) (want t) s u m l

-- From turn t on drawing goes on as from a first turn, with what the stocks then are.
module _ (serving serving' : ℕ → List ℕ) (stock want want' : ℕ → ℕ) (t n : ℕ) (same : (i : ℕ) → i < n → serving' i ≡ serving (t + i)) (wanted : (i : ℕ) → i < n → want' i ≡ want (t + i)) where
  pub stock_shift : (i : ℕ) → i ≤ n → stock_at serving' (stock_at serving stock want t) want' i ≡ stock_at serving stock want (t + i)
  unfolding stock_at
  stock_shift zero l = rw add-zero
  stock_shift (suc i) l = rw add-suc (λ j. kept (same i (omega arith) j) (stock_shift i (omega arith) j) (wanted i (omega arith) j))

  pub missing_shift : (i : ℕ) → i < n → missing_at serving' (stock_at serving stock want t) want' i ≡ missing_at serving stock want (t + i)
  unfolding missing_at
  missing_shift i l = λ j. unmet (same i l j) (stock_shift i (omega arith) j) (wanted i l j)
