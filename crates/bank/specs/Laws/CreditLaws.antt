-- Step 1 of a closing on a bank's w balances, and the laws by which the loops that test and credit it are proved. Assumes nothing.
use Rattle.std.specs.Prelude.{ℕ, ◌+◌, ◌-◌, ◌≤◌, ◌<◌, ◌≡◌, Bool, true, ◌&&◌, List, leb, length, get_or, set, replicate}
use Rattle.std.proofs.Common.{arith}
use Rattle.std.proofs.lemmas.List.{length-replicate}
use borrow.Author.Tests.{leb-true, le-leb}
use Rattle.lists.specs.Tests.{all}
use Rattle.lists.specs.Laws.TestsLaws.{and_left, and_right, and_both, all_at, all_from}
use Rattle.lists.specs.Laws.TablesLaws.{Filling, fill_start, fill_step, fill_here}
use Rattle.lists.specs.Pairs.{place}
use Rattle.lists.specs.Laws.PairsLaws.{place_in}
use Rattle.energy.specs.Energy.{portion_up}
use Rattle.energy.specs.Limits.{most_rate, most_figure}
use Rattle.energy.specs.Laws.EnergyLaws.{portion_le}

-- what is pending of balance s is charged, and the rest credited
module _ (w : ℕ) (pending : List ℕ) (rate : ℕ) where
  unfoldable pub charge_at : ℕ → ℕ
  charge_at s = portion_up (place w pending s) rate

  unfoldable pub credit_at : List ℕ → ℕ → ℕ
  credit_at old s = place w old s + (place w pending s - charge_at s)

module _ (w : ℕ) (old : List ℕ) (count : ℕ) (pending : List ℕ) (rate : ℕ) where
  -- a bank's limits for it: it has `count` balances, the rate is in range, and none of them comes with what is pending over 2 x 10^15
  unfoldable pub creditable : Bool
  creditable = leb count w && (leb rate most_rate && all count (λ s. leb (place w old s + place w pending s) most_figure))

  -- The invariant of the loop that credits within the limits: the first s balances are done.
  pub record Crediting (s : ℕ) (balance charge : List ℕ) : Type 0 where
    pub within : creditable ≡ true
    pub few : count ≤ w
    pub balance_is : Filling w (credit_at w pending rate old) old s balance
    pub charge_is : Filling w (charge_at w pending rate) (replicate w 0) s charge

  pub creditable_so : count ≤ w → rate ≤ most_rate → ((s : ℕ) → s < count → place w old s + place w pending s ≤ most_figure) → creditable ≡ true
  unfolding creditable
  creditable_so few h k = and_both (le-leb _ _ few) (and_both (le-leb _ _ h) (all_from count _ (λ s l. le-leb _ _ (k s l))))

module _ {w : ℕ} {old : List ℕ} {count : ℕ} {pending : List ℕ} {rate : ℕ} where
  pub credit_start : creditable w old count pending rate ≡ true → length old ≡ w → Crediting w old count pending rate 0 old (replicate w 0)
  unfolding creditable
  credit_start t z =
      record { within = t; few = leb-true _ _ (and_left _ _ t); balance_is = fill_start z; charge_is = fill_start (length-replicate w 0) }

  module _ {s : ℕ} {balance charge : List ℕ} (h : Crediting w old count pending rate s balance charge) where
    pub rate_high : rate ≤ most_rate
    unfolding creditable
    rate_high = leb-true _ _ (and_left _ _ (and_right (leb count w) _ h.within))

    -- the next balance's figures are moderate, and its charge is within its pending
    pub credit_moderate : s < count → get_or balance s 0 + get_or pending s 0 ≤ most_figure
    unfolding creditable
    credit_moderate l =
        let inside : s < w = omega (arith, h.few) in
        let low = leb-true _ _ (all_at count _ (and_right (leb rate most_rate) _ (and_right (leb count w) _ h.within)) s l) in
        omega (arith, low, place_in w old s inside, place_in w pending s inside, fill_here h.balance_is)

    pub credit_exact : {due : ℕ} → due ≡ portion_up (get_or pending s 0) rate → due ≤ get_or pending s 0
    credit_exact e = omega (arith, portion_le (get_or pending s 0) rate (omega (arith, rate_high)))

    pub credit_step : {due : ℕ} → s < count → due ≡ portion_up (get_or pending s 0) rate →
        Crediting w old count pending rate (s + 1) (set balance s (get_or balance s 0 + (get_or pending s 0 - due))) (set charge s due)
    unfolding credit_at charge_at
    credit_step {due} l e =
        let inside : s < w = omega (arith, h.few) in
        let p = place_in w pending s inside in
        let d : due ≡ charge_at w pending rate s = rw p e in
        record {
          within = h.within;
          few = h.few;
          balance_is = fill_step h.balance_is inside (cc (p, place_in w old s inside, fill_here h.balance_is));
          charge_is = fill_step h.charge_is inside d;
        }
