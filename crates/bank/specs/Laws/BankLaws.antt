-- The bank's own calls, steps 1, 2 and 4 of a closing, by the cases of their tests. Assumes nothing.
use Rattle.std.specs.Prelude.{ℕ, ◌+◌, ◌-◌, ◌*◌, ◌<◌, ◌≤◌, ◌≡◌, refl, true, false, Bool, List, [], length, get_or, replicate, if◌then◌else◌}
use Rattle.std.proofs.Math.Path.{sym, fun_ext}
use Rattle.std.proofs.Common.{ap, ◌∙◌, ⊎_elim, eq-zero-or-pos, arith, leb-true, le-leb}
use Rattle.std.proofs.lemmas.Bool.{lt-leb}
use Rattle.std.proofs.lemmas.List.{length-replicate}
use Rattle.std.proofs.Math.ListN.{get_or-eq_default}
use Rattle.lists.specs.Tables.{table}
use Rattle.lists.specs.Laws.TablesLaws.{length_filled, is_table, table_same, filled, filled_all, zeros_at}
use Rattle.lists.specs.Laws.TestsLaws.{and_left}
use Rattle.lists.specs.Pairs.{place}
use Rattle.lists.specs.Laws.PairsLaws.{place_in, place_out}
use Rattle.energy.specs.Limits.{most_generators}
use Rattle.order_rules.specs.Settle.{settle, given, kept, unmet}
use Rattle.order.specs.Laws.KeptOrder.{from_back, turns_in}
use Rattle.order.specs.Laws.KeptStock.{column, ColumnSettled}
use Rattle.bank.specs.Laws.CreditLaws.{charge_at, credit_at, creditable, Crediting}
use Rattle.bank.specs.Laws.BankSteps.{Credited, givers, Drew}

-- a list of balances as a rule by balance
pub balances : (w : ℕ) (xs : List ℕ) → length xs ≡ w → xs ≡ table w (place w xs)
balances w xs z = is_table 0 w (place w xs) xs z (λ g l. sym (place_in w xs g l))

-- ---- step 1

module _ {w : ℕ} {old : List ℕ} {count : ℕ} {pending : List ℕ} {rate : ℕ} where
  pub credit_beyond : creditable w old count pending rate ≡ false → Credited w old count pending rate old (replicate w 0)
  credit_beyond t = record { balance_is = rw t; charge_is = rw t }

  pub credit_done : {s : ℕ} {balance charge : List ℕ} → Crediting w old count pending rate s balance charge → s ≡ count → Credited w old count pending rate balance charge
  credit_done h e = record { balance_is = rw h.within (rw e at h.balance_is.is); charge_is = rw h.within (rw e at h.charge_is.is) }

  pub credit_within : {balance charge : List ℕ} → creditable w old count pending rate ≡ true → Credited w old count pending rate balance charge →
      (balance ≡ filled old count (credit_at w pending rate old)) × (charge ≡ filled (replicate w 0) count (charge_at w pending rate))
  credit_within t h = (rw t at h.balance_is, rw t at h.charge_is)

  pub credit_size : {balance charge : List ℕ} → length old ≡ w → Credited w old count pending rate balance charge → length balance ≡ w
  unfolding creditable
  credit_size {balance} z h = go (creditable w old count pending rate) refl
    where
      go : (t : Bool) → creditable w old count pending rate ≡ t → length balance ≡ w
      go true t =
          ap length (credit_within t h).0 ∙ length_filled old count (credit_at w pending rate old) (omega (arith, z, leb-true count w (and_left _ _ t))) ∙ z
      go false t = ap length (rw t at h.balance_is) ∙ z

-- all of a bank's balances within the limits
pub credit_all : {w : ℕ} {old pending : List ℕ} {rate : ℕ} {balance charge : List ℕ} → length old ≡ w → creditable w old w pending rate ≡ true →
    Credited w old w pending rate balance charge → (balance ≡ table w (credit_at w pending rate old)) × (charge ≡ table w (charge_at w pending rate))
credit_all {w} {old} {pending} {rate} z t h =
    let made = credit_within t h in
    (made.0 ∙ filled_all old (credit_at w pending rate old) w z, made.1 ∙ filled_all (replicate w 0) (charge_at w pending rate) w (length-replicate w 0))

-- ---- step 2, for one consumer

-- one number a row: the only column is the balances
column_place : (xs : List ℕ) → length xs ≡ 8 → column 1 0 xs ≡ place 8 xs
unfolding column
column_place xs z = fun_ext at
  where
    row : (g : ℕ) → g * 1 + 0 ≡ g
    row g = omega arith

    at : (g : ℕ) → get_or xs (g * 1 + 0) 0 ≡ place 8 xs g
    at g =
        ⊎_elim
        (λ (e : 8 - g ≡ 0). rw (row g, place_out 8 xs g (omega arith)) (get_or-eq_default xs 0 {n = g} (omega arith)))
        (λ (l : 0 < 8 - g). rw (row g) (sym (place_in 8 xs g (omega arith))))
        (eq-zero-or-pos (8 - g))

pub draw_done : (gs : List ℕ) (want : ℕ) {old balance drawn : List ℕ} {left : ℕ} → length old ≡ 8 → ColumnSettled gs 1 0 want old balance drawn left → Drew gs want old balance drawn left
draw_done gs want {old} {balance} {drawn} size h =
    let after = h.size ∙ size in
    let has = column_place old size in
    record {
      size = after;
      leaves = sym (column_place balance after) ∙ h.kept_is ∙ (λ i. kept gs (has i) want);
      gives = is_table 0 8 _ drawn h.room (λ g l. h.taken_is g l ∙ (λ i. given gs (has i) want g));
      lacks = h.left_is ∙ (λ i. unmet gs (has i) want);
    }

zeros : (w : ℕ) → replicate {A = ℕ} w 0 ≡ table w (λ g. 0)
zeros w = is_table 0 w (λ g. 0) (replicate w 0) (length-replicate w 0) (λ g l. zeros_at w g)

-- Who gives, by the two cases of the test: within the bank's limit all do, in the order of their turns.
pub givers_within : (keys : List ℕ) {turns : List ℕ} → from_back keys ≡ turns → length keys ≤ most_generators → givers keys ≡ turns_in turns
unfolding givers
givers_within keys e l = rw (le-leb (length keys) most_generators l) (ap turns_in e)

pub givers_beyond : (keys : List ℕ) → most_generators < length keys → givers keys ≡ []
unfolding givers
givers_beyond keys l = rw (lt-leb (length keys) most_generators l)

-- beyond it nothing is drawn, and all is lacking
pub draw_none : (want : ℕ) {old : List ℕ} → length old ≡ 8 → Drew [] want old old (replicate 8 0) want
unfolding given kept unmet settle
draw_none want {old} z =
    record {
      size = z;
      leaves = refl;
      gives = zeros 8 ∙ table_same 8 (λ g. 0) _ (λ g l. omega arith);
      lacks = refl;
    }

pub draw_beyond : (keys : List ℕ) {want : ℕ} {old balance drawn : List ℕ} {left : ℕ} → most_generators < length keys → length old ≡ 8 →
    Drew (givers keys) want old balance drawn left → (balance ≡ old) × ((drawn ≡ replicate 8 0) × (left ≡ want))
draw_beyond keys {want} {old} {balance} {drawn} {left} l z h = same (rw (givers_beyond keys l) at h)
  where
    same : Drew [] want old balance drawn left → (balance ≡ old) × ((drawn ≡ replicate 8 0) × (left ≡ want))
    same d =
        let none = draw_none want z in
        (balances 8 balance d.size ∙ ap (table 8) (d.leaves ∙ sym none.leaves) ∙ sym (balances 8 old z), (d.gives ∙ sym none.gives, d.lacks ∙ sym none.lacks))

-- ---- step 4: what stays and what lapses, as rules by balance

module _ (w : ℕ) (old : List ℕ) (z : length old ≡ w) where
  pub lapse_leaves : (due : Bool) → (if due then replicate w 0 else old) ≡ table w (λ g. if due then 0 else place w old g)
  lapse_leaves true = zeros w
  lapse_leaves false = balances w old z

  pub lapse_takes : (due : Bool) → (if due then old else replicate w 0) ≡ table w (λ g. if due then place w old g else 0)
  lapse_takes true = balances w old z
  lapse_takes false = zeros w
