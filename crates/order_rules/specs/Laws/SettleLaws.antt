-- Laws of settling in an order, whatever the order is: nothing is lost, and nobody is left short beside one who has.
-- Assumes nothing.
use Rattle.std.specs.Prelude.{ℕ, zero, suc, ◌+◌, ◌-◌, ◌≤◌, ◌<◌, min, ◌≡◌, refl, Bool, true, false, List, [], ◌∷◌, ◌⊎◌, eqb, leb, if◌then◌else◌}
use Rattle.std.proofs.Common.{sym, ap, ◌∙◌, subst, inl, inr, ⊎_elim, arith, le_refl, le_trans, ne_eqb, eq-eqb, eqb-true, leb-true, leb-false}
use Rattle.std.proofs.Math.Path.{fun_ext}
use Rattle.std.proofs.lemmas.Bool.{eqb-false}
use Rattle.lists.specs.Sums.{sum}
use Rattle.lists.specs.Laws.SumsLaws.{sum_cong, sum_add}
use Rattle.order_rules.specs.Order.{Standing}
use Rattle.order_rules.specs.Settle.{lower, settle, given, kept, unmet}
use Rattle.order_rules.specs.Laws.Members.{In, Below, Before}
use Rattle.order_rules.specs.Laws.OrderLaws.{Ahead, Sorted, ahead_not_both, all_of_at}

-- ---- one giver

lower_le : (has : ℕ → ℕ) (g x h : ℕ) → lower has g x h ≤ has h
unfolding lower
lower_le has g x h = go (eqb h g)
  where
    go : (t : Bool) → (if t then has h - x else has h) ≤ has h
    go true = omega arith
    go false = omega arith

lower_at : (has : ℕ → ℕ) (g x : ℕ) → lower has g x g ≡ has g - x
unfolding lower
lower_at has g x = rw (eq-eqb g g refl)

pub lower_other : (has : ℕ → ℕ) (g x h : ℕ) → (h ≡ g → ⊥) → lower has g x h ≡ has h
unfolding lower
lower_other has g x h e = rw (ne_eqb h g e)

lower_sum : (n : ℕ) (has : ℕ → ℕ) (g x : ℕ) → g < n → x ≤ has g → sum n (lower has g x) + x ≡ sum n has
unfolding sum
lower_sum zero has g x h k = absurd (omega arith)
lower_sum (suc n) has g x h k = go (eqb n g) refl (λ l. lower_sum n has g x l k)
  where
    go : (t : Bool) → eqb n g ≡ t → (g < n → sum n (lower has g x) + x ≡ sum n has) → sum n (lower has g x) + lower has g x n + x ≡ sum n has + has n
    go true e ih =
        let q : n ≡ g = eqb-true n g e in
        let s = sum_cong n (lower has g x) has (λ i l. lower_other has g x i (λ r. omega arith)) in
        omega (arith, ap (lower has g x) q, lower_at has g x, ap has q)
    go false e ih =
        let q = eqb-false n g e in
        omega (arith, ih (omega (arith, q)), lower_other has g x n q)

-- ---- settling

pub settle_has : (gs : List ℕ) (has : ℕ → ℕ) (want h : ℕ) → (settle gs has want).has h ≤ has h
unfolding settle
settle_has [] has want h = le_refl (has h)
settle_has (g ∷ gs) has want h = le_trans (settle_has gs (lower has g (min (has g) want)) (want - min (has g) want) h) (lower_le has g (min (has g) want) h)

pub settle_want : (gs : List ℕ) (has : ℕ → ℕ) (want : ℕ) → (settle gs has want).want ≤ want
unfolding settle
settle_want [] has want = le_refl want
settle_want (g ∷ gs) has want = omega (arith, settle_want gs (lower has g (min (has g) want)) (want - min (has g) want))

-- what is given is what is received
pub settle_sum : (n : ℕ) (gs : List ℕ) (has : ℕ → ℕ) (want : ℕ) → Below n gs → sum n (settle gs has want).has + want ≡ sum n has + (settle gs has want).want
unfolding settle
settle_sum n [] has want h = refl
settle_sum n (g ∷ gs) has want h =
    omega
    (arith, settle_sum n gs (lower has g (min (has g) want)) (want - min (has g) want) h.1, lower_sum n has g (min (has g) want) h.0 (omega arith))

-- whoever had a turn has nothing left, or nothing is left to supply
pub settle_out : (gs : List ℕ) (has : ℕ → ℕ) (want g : ℕ) → In g gs → ((settle gs has want).has g ≡ 0) ⊎ ((settle gs has want).want ≡ 0)
unfolding settle
settle_out [] has want g m = absurd m
settle_out (x ∷ gs) has want g (inl e) = go (leb (has x) want) refl
  where
    y : ℕ
    y = min (has x) want

    go : (t : Bool) → leb (has x) want ≡ t → ((settle gs (lower has x y) (want - y)).has g ≡ 0) ⊎ ((settle gs (lower has x y) (want - y)).want ≡ 0)
    go true l =
        inl (omega (arith, leb-true (has x) want l, settle_has gs (lower has x y) (want - y) g, ap (lower has x y) e, lower_at has x y))
    go false l = inr (omega (arith, leb-false (has x) want l, settle_want gs (lower has x y) (want - y)))
settle_out (x ∷ gs) has want g (inr m) = settle_out gs (lower has x (min (has x) want)) (want - min (has x) want) g m

-- what is given and what nobody gives make up what was wanted
pub given_sum : (n : ℕ) (gs : List ℕ) (has : ℕ → ℕ) (want : ℕ) → Below n gs → sum n (given gs has want) + unmet gs has want ≡ want
unfolding given unmet
given_sum n gs has want h =
    let rest = (settle gs has want).has in
    let e : sum n (λ g. has g - rest g) + sum n rest ≡ sum n has = sym (sum_add n (λ g. has g - rest g) rest) ∙ sum_cong n (λ g. has g - rest g + rest g) has (λ g l. omega (arith, settle_has gs has want g)) in
    omega (arith, settle_sum n gs has want h)

pub given_le : (gs : List ℕ) (has : ℕ → ℕ) (want g : ℕ) → given gs has want g ≤ has g
unfolding given
given_le gs has want g = omega arith

pub unmet_le : (gs : List ℕ) (has : ℕ → ℕ) (want : ℕ) → unmet gs has want ≤ want
unfolding unmet
unmet_le gs has want = settle_want gs has want

-- where something is left to supply, each of the order gave all it had
pub given_all : (gs : List ℕ) (has : ℕ → ℕ) (want g : ℕ) → In g gs → 0 < unmet gs has want → given gs has want g ≡ has g
unfolding given unmet
given_all gs has want g m h =
    ⊎_elim
    (λ (e : (settle gs has want).has g ≡ 0). omega arith)
    (λ (e : (settle gs has want).want ≡ 0). absurd (omega arith))
    (settle_out gs has want g m)

-- settling looks only at what those of the order have
lower_same : (n : ℕ) (has has' : ℕ → ℕ) (g x x' : ℕ) → ((h : ℕ) → h < n → has h ≡ has' h) → x ≡ x' → (h : ℕ) → h < n → lower has g x h ≡ lower has' g x' h
unfolding lower
lower_same n has has' g x x' e q h l = go (eqb h g)
  where
    go : (t : Bool) → (if t then has h - x else has h) ≡ (if t then has' h - x' else has' h)
    go true = omega (arith, e h l)
    go false = e h l

pub settle_same : (n : ℕ) (gs : List ℕ) (has has' : ℕ → ℕ) (want want' : ℕ) → Below n gs → ((h : ℕ) → h < n → has h ≡ has' h) → want ≡ want' →
    ((settle gs has want).want ≡ (settle gs has' want').want) × ((h : ℕ) → h < n → (settle gs has want).has h ≡ (settle gs has' want').has h)
unfolding settle
settle_same n [] has has' want want' b e q = (q, e)
settle_same n (g ∷ gs) has has' want want' b e q =
    let x : min (has g) want ≡ min (has' g) want' = omega (arith, e g b.0) in
    settle_same n gs (lower has g (min (has g) want)) (lower has' g (min (has' g) want')) (want - min (has g) want) (want' - min (has' g) want') b.1 (lower_same n has has' g (min (has g) want) (min (has' g) want') e x) (omega arith)

pub kept_is : (gs : List ℕ) (has : ℕ → ℕ) (want g : ℕ) → kept gs has want g ≡ has g - given gs has want g
unfolding kept given
kept_is gs has want g = omega (arith, settle_has gs has want g)

-- ---- what comes earlier is used up before what comes later gives anything

lower_none : (has : ℕ → ℕ) (g x h : ℕ) → x ≡ 0 → lower has g x h ≡ has h
unfolding lower
lower_none has g x h e = go (eqb h g)
  where
    go : (t : Bool) → (if t then has h - x else has h) ≡ has h
    go true = omega arith
    go false = refl

-- one that stands twice in a row gives what it gives once
pub settle_twice : (g : ℕ) (gs : List ℕ) (has : ℕ → ℕ) (want : ℕ) → settle (g ∷ g ∷ gs) has want ≡ settle (g ∷ gs) has want
unfolding settle
settle_twice g gs has want =
    let x = min (has g) want in
    let y = min (lower has g x g) (want - x) in
    let none : y ≡ 0 = omega (arith, lower_at has g x) in
    let same : lower (lower has g x) g y ≡ lower has g x = fun_ext (λ h. lower_none (lower has g x) g y h none) in
    let rest : want - x - y ≡ want - x = omega (arith, none) in
    λ i. settle gs (same i) (rest i)

pub settle_nothing : (gs : List ℕ) (has : ℕ → ℕ) (want h : ℕ) → want ≡ 0 → (settle gs has want).has h ≡ has h
unfolding settle
settle_nothing [] has want h e = refl
settle_nothing (g ∷ gs) has want h e =
    let y = min (has g) want in
    settle_nothing gs (lower has g y) (want - y) h (omega arith) ∙ lower_none has g y h (omega arith)

-- nobody gives where nothing is wanted
pub given_nothing : (gs : List ℕ) (has : ℕ → ℕ) (want g : ℕ) → want ≡ 0 → given gs has want g ≡ 0
unfolding given
given_nothing gs has want g e = omega (arith, settle_nothing gs has want g e)

given_tail : (x : ℕ) (gs : List ℕ) (has : ℕ → ℕ) (want g : ℕ) → (g ≡ x → ⊥) →
    given (x ∷ gs) has want g ≡ given gs (lower has x (min (has x) want)) (want - min (has x) want) g
unfolding given settle
given_tail x gs has want g e = omega (arith, lower_other has x (min (has x) want) g e)

head_first : (g : ℕ) (gs : List ℕ) (has : ℕ → ℕ) (want h : ℕ) → (h ≡ g → ⊥) → 0 < given (g ∷ gs) has want h → given (g ∷ gs) has want g ≡ has g
unfolding given settle
head_first g gs has want h ne l = go (leb (has g) want) refl
  where
    y : ℕ
    y = min (has g) want

    go : (t : Bool) → leb (has g) want ≡ t → has g - (settle gs (lower has g y) (want - y)).has g ≡ has g
    go true e = omega (arith, leb-true (has g) want e, settle_has gs (lower has g y) (want - y) g, lower_at has g y)
    go false e =
        let k : want < has g = leb-false (has g) want e in
        let z : want - y ≡ 0 = omega arith in
        absurd (omega (arith, settle_nothing gs (lower has g y) (want - y) h z, lower_other has g y h ne))

pub before_first : (gs : List ℕ) (has : ℕ → ℕ) (want s u : ℕ) → Before s u gs → 0 < given gs has want u → given gs has want s ≡ has s
unfolding given settle
before_first [] has want s u m l = absurd m
before_first (x ∷ gs) has want s u m l =
    let y = min (has x) want in
    let more : 0 < given gs (lower has x y) (want - y) u = omega (arith, given_tail x gs has want u m.0) in
    ⊎_elim
    (λ (e : s ≡ x). rw e (head_first x gs has want u m.0 l))
    (λ (n : Before s u gs). omega (arith, before_first gs (lower has x y) (want - y) s u n more, settle_has gs (lower has x y) (want - y) s))
    m.1

module _ (who : ℕ → Standing) where
  ahead_other : (g h : ℕ) → Ahead who g h → h ≡ g → ⊥
  ahead_other g h a e = ahead_not_both who g h a (subst (λ (x : ℕ). Ahead who x g) (sym e) (subst (λ (x : ℕ). Ahead who g x) e a))

  -- in a sorted list who goes ahead stands before
  pub sorted_before : (gs : List ℕ) (g h : ℕ) → Sorted who gs → In g gs → Ahead who g h → Before g h gs
  sorted_before [] g h s m a = absurd m
  sorted_before (x ∷ gs) g h s (inl e) a = (λ q. ahead_other g h a (q ∙ sym e), inl e)
  sorted_before (x ∷ gs) g h s (inr m) a =
      (λ q. ahead_not_both who g h a (rw q (all_of_at (Ahead who x) gs g s.0 m)), inr (sorted_before gs g h s.1 m a))

  pub earlier_first : (gs : List ℕ) (has : ℕ → ℕ) (want g h : ℕ) → Sorted who gs → In g gs → In h gs → Ahead who g h →
      0 < given gs has want h → given gs has want g ≡ has g
  earlier_first gs has want g h s m k a l = before_first gs has want g h (sorted_before gs g h s m a) l
