-- Laws of the share: the parts add up to what is shared, and none is more than its kW bear. Assumes nothing.
use Rattle.std.specs.Prelude.{ℕ, suc, ◌+◌, ◌-◌, ◌*◌, ◌/◌, ◌≤◌, ◌<◌, ◌≡◌, refl, Bool, true, false, ◌&&◌, List, leb, length, get_or, set, replicate, if◌then◌else◌}
use Rattle.std.proofs.Common.{sym, ap, ◌∙◌, ⊎_elim, arith, add-one, mul-le-mul, mul-le-mul_left, mul-le-mul_right, mul-add, mul_assoc, mul_comm, le_trans, le_of_eq, eq-zero-or-pos, eq-eqb, ne_eqb, le-leb}
use Rattle.std.proofs.Math.Nat.{mul-div_cancel, zero-div, mul-zero, add-mul-div_left, div-le_of_le-mul}
use Rattle.std.proofs.lemmas.Bool.{lt-leb}
use Rattle.std.proofs.lemmas.List.{get_or-replicate, set-get_or}
use Rattle.lists.specs.Laws.ChoiceLaws.{if_either}
use Rattle.lists.specs.Sums.{sum}
use Rattle.lists.specs.Laws.SumsLaws.{sum_none, sum_more, sum_cong, sum_rises, sum_to, sum_part, div_up}
use Rattle.lists.specs.Tables.{table}
use Rattle.lists.specs.Laws.TablesLaws.{length_table, get_or_table, table_same, table_bound, Filling, fill_start, fill_step, fill_here}
use Rattle.lists.specs.Pairs.{place}
use Rattle.lists.specs.Laws.PairsLaws.{place_in}
use Rattle.energy.specs.Limits.{most_reading, most_capacity, most_consumers}
use Rattle.sharing.specs.Share.{part, shared}
use Rattle.sharing.specs.Laws.Shareable.{Shareable}

module _ (C : ℕ) (a : ℕ → ℕ) (K : ℕ) where
  -- what the first c consumers get together
  up_to : ℕ → ℕ
  up_to c = K * sum c a / sum C a

  part_step : (c : ℕ) → 0 < sum C a → part C a K c ≡ up_to (suc c) - up_to c
  unfolding part up_to
  part_step c h = rw (ne_eqb (sum C a) 0 (λ e. omega arith))

  up_to_rises : (c : ℕ) → up_to c ≤ up_to (suc c)
  unfolding up_to sum
  up_to_rises c = div_up (sum C a) (K * sum c a) (K * sum (suc c) a) (mul-le-mul_left K (omega arith))

  up_to_first : up_to 0 ≡ 0
  unfolding up_to sum
  up_to_first = rw mul-zero (zero-div (sum C a))

  up_to_last : 0 < sum C a → up_to C ≡ K
  unfolding up_to
  up_to_last h = mul-div_cancel K h

  -- the parts of K add up to K
  pub parts_sum : 0 < sum C a → sum C (part C a K) ≡ K
  parts_sum h =
      let t = sum_rises C up_to (λ c l. rw (add-one c) (up_to_rises c)) in
      let e = sum_cong C (part C a K) (λ c. up_to (c + 1) - up_to c) (λ c l. rw (add-one c) (part_step c h)) in
      omega (arith, up_to_first, up_to_last h)

  -- nothing is shared where nothing is scheduled
  pub part_none : (c : ℕ) → sum C a ≡ 0 → part C a K c ≡ 0
  unfolding part
  part_none c e = rw (eq-eqb (sum C a) 0 e)

rise : (C : ℕ) (a : ℕ → ℕ) (K n c : ℕ) → K ≤ n * sum C a → 0 < sum C a → up_to C a K (suc c) ≤ up_to C a K c + n * a c
unfolding up_to sum
rise C a K n c h p =
    let A = sum C a in
    let s = sum c a in
    let g : K * a c ≤ A * (n * a c) = le_trans (mul-le-mul_right (a c) h) (le_of_eq (ap (λ (x : ℕ). x * a c) (mul_comm n A) ∙ mul_assoc A n (a c))) in
    let u = div_up A (K * (s + a c)) (K * s + A * (n * a c)) (omega (arith, mul-add K s (a c))) in
    omega (arith, add-mul-div_left (K * s) (n * a c) p)

-- where K is at most n for each kW scheduled, a part is at most n for each of its own
pub part_le : (C : ℕ) (a : ℕ → ℕ) (K n c : ℕ) → K ≤ n * sum C a → part C a K c ≤ n * a c
part_le C a K n c h =
    ⊎_elim
    (λ (e : sum C a ≡ 0). omega (arith, part_none C a K c e))
    (λ (p : 0 < sum C a). omega (arith, part_step C a K c p, rise C a K n c h p))
    (eq-zero-or-pos (sum C a))

-- a part is at most the whole
pub part_le_whole : (C : ℕ) (a : ℕ → ℕ) (K c : ℕ) → c < C → part C a K c ≤ K
part_le_whole C a K c l =
    ⊎_elim
    (λ (e : sum C a ≡ 0). omega (arith, part_none C a K c e))
    (λ (p : 0 < sum C a). omega (arith, parts_sum C a K p, sum_part C (part C a K) c l))
    (eq-zero-or-pos (sum C a))

-- figures of 0 beyond the C consumers change no part
pub part_wide : (C D : ℕ) (a : ℕ → ℕ) (K c : ℕ) → sum C a ≡ sum D a → part C a K c ≡ part D a K c
unfolding part
part_wide C D a K c e = rw e

-- ---- the row-sharing step

-- the part as the difference of two quotients, s the sum of the figures before c and n the sum with c
part_is : (C : ℕ) (a : ℕ → ℕ) (K c A s n : ℕ) → A ≡ sum C a → 0 < A → s ≡ sum c a → n ≡ sum (c + 1) a → K * n / A - K * s / A ≡ part C a K c
unfolding part
part_is C a K c A s n e p es en =
    let h : n ≡ sum (suc c) a = en ∙ ap (λ (m : ℕ). sum m a) (add-one c) in
    rw (← (e), ne_eqb A 0 (λ z. omega arith), ← (es), ← (h))

-- what some of the figures bear is at most the whole
quotient_le : (K A s : ℕ) → s ≤ A → K * s / A ≤ K
quotient_le K A s h = div-le_of_le-mul A (rw (mul_comm A K) (mul-le-mul_left K h))

abbrev figures : List ℕ → ℕ → ℕ
figures kw = place most_consumers kw

-- ---- the loop that shares K over sixteen kW figures whose sum is A

-- The invariant: c places are passed, s is the sum of their kW, and b what those bear together.
pub record Sharing (K A : ℕ) (kw : List ℕ) (c : ℕ) (out : List ℕ) (s b : ℕ) : Type 0 where
  pub made : Filling most_consumers (part most_consumers (figures kw) K) (replicate most_consumers 0) c out
  pub is : s ≡ sum c (figures kw)
  pub borne : b ≡ K * s / A

pub sharing_start : {K A : ℕ} {kw : List ℕ} → Sharing K A kw 0 (replicate most_consumers 0) 0 0
sharing_start {K} {A} {kw} = record { made = fill_start refl; is = sym (sum_none (figures kw)); borne = sym (rw mul-zero (zero-div A)) }

module _ {K A : ℕ} {kw : List ℕ} (h : Shareable K A kw) {c : ℕ} {out : List ℕ} {s b : ℕ} (i : Sharing K A kw c out s b) (l : c < most_consumers) where
  -- the sum with place c
  abbrev next : ℕ
  next = s + get_or kw c 0

  next_is : next ≡ sum (c + 1) (figures kw)
  next_is = omega (arith, i.is, sum_more c (figures kw), place_in most_consumers kw c l)

  pub next_le : next ≤ A
  next_le = omega (arith, next_is, h.whole, sum_to (c + 1) most_consumers (figures kw) (omega arith))

  -- the product fits 64 bits, and the quotient 32
  pub product_le : K * next ≤ most_reading * most_capacity
  product_le = let n : next ≤ most_capacity = omega (arith, next_le, h.capacity) in mul-le-mul h.energy n

  pub share_le : K * next / A ≤ most_reading
  share_le = omega (arith, quotient_le K A next next_le, h.energy)

  pub share_rises : b ≤ K * next / A
  share_rises = rw i.borne (div_up A (K * s) (K * next) (mul-le-mul_left K (omega arith)))

  part_here : K * next / A - b ≡ part most_consumers (figures kw) K c
  part_here = rw i.borne (part_is most_consumers (figures kw) K c A s next h.whole h.some i.is next_is)

  pub sharing_step : Sharing K A kw (c + 1) (set out c (K * next / A - b)) next (K * next / A)
  sharing_step = record { made = fill_step i.made l part_here; is = next_is; borne = refl }

  -- a place with no kW keeps the 0 that it has
  pub sharing_skip : get_or kw c 0 ≤ 0 → Sharing K A kw (c + 1) out s b
  sharing_skip z =
      let same : next ≡ s = omega arith in
      let none : get_or out c 0 ≡ part most_consumers (figures kw) K c = omega (arith, fill_here i.made, get_or-replicate {A = ℕ} most_consumers c 0 0 l, part_here, i.borne, ap (λ (n : ℕ). K * n / A) same) in
      record { made = rw (set-get_or out c 0) at (fill_step i.made l none); is = sym same ∙ next_is; borne = i.borne }

-- ---- the step as a whole

abbrev zeros : List ℕ
zeros = table most_consumers (λ c. 0)

pub shared_over_energy : (K : ℕ) (kw : List ℕ) → most_reading < K → zeros ≡ shared K kw
unfolding shared
shared_over_energy K kw h = simp (lt-leb K most_reading h)

pub shared_over_capacity : (K : ℕ) (kw : List ℕ) → most_capacity < sum most_consumers (figures kw) → zeros ≡ shared K kw
unfolding shared
shared_over_capacity K kw h = simp (lt-leb (sum most_consumers (figures kw)) most_capacity h) (either (leb K most_reading))
  where
    either : (t : Bool) → zeros ≡ (if t && false then table most_consumers (part most_consumers (figures kw) K) else zeros)
    either true = refl
    either false = refl

-- within both limits the step is the table of the parts
pub shared_within :
    (K : ℕ) (kw : List ℕ) → K ≤ most_reading → sum most_consumers (figures kw) ≤ most_capacity → table most_consumers (part most_consumers (figures kw) K) ≡ shared K kw
unfolding shared
shared_within K kw h k = simp (le-leb K most_reading h, le-leb (sum most_consumers (figures kw)) most_capacity k)

pub shared_none : (K : ℕ) (kw : List ℕ) → K ≤ most_reading → sum most_consumers (figures kw) ≡ 0 → zeros ≡ shared K kw
shared_none K kw h e =
    table_same most_consumers (λ c. 0) (part most_consumers (figures kw) K) (λ c l. sym (part_none most_consumers (figures kw) K c e)) ∙ shared_within K kw h (omega arith)

-- ---- what a caller of the step reads from its list

pub length_shared : (K : ℕ) (kw : List ℕ) → length (shared K kw) ≡ most_consumers
unfolding shared
length_shared K kw =
    if_either (λ (l : List ℕ). length l ≡ most_consumers) (leb K most_reading && leb (sum most_consumers (figures kw)) most_capacity)
    (λ e. length_table most_consumers (part most_consumers (figures kw) K))
    (λ e. length_table most_consumers (λ c. 0))

-- no place is more than what is shared, whatever the limits say
pub shared_le : (K : ℕ) (kw : List ℕ) (i : ℕ) → get_or (shared K kw) i 0 ≤ K
unfolding shared
shared_le K kw i =
    if_either (λ (l : List ℕ). get_or l i 0 ≤ K) (leb K most_reading && leb (sum most_consumers (figures kw)) most_capacity)
    (λ e. table_bound most_consumers (part most_consumers (figures kw) K) K (λ c l. part_le_whole most_consumers (figures kw) K c l) i)
    (λ e. table_bound most_consumers (λ c. 0) K (λ c l. omega arith) i)

module _ (K : ℕ) (kw : List ℕ) (h : K ≤ most_reading) (k : sum most_consumers (place most_consumers kw) ≤ most_capacity) where
  pub shared_at : (c : ℕ) → c < most_consumers → get_or (shared K kw) c 0 ≡ part most_consumers (figures kw) K c
  shared_at c l = rw (← (shared_within K kw h k)) (get_or_table most_consumers (part most_consumers (figures kw) K) c 0 l)

  pub shared_sum : 0 < sum most_consumers (figures kw) → sum most_consumers (λ c. get_or (shared K kw) c 0) ≡ K
  shared_sum p = sum_cong most_consumers (λ c. get_or (shared K kw) c 0) (part most_consumers (figures kw) K) shared_at ∙ parts_sum most_consumers (figures kw) K p
