-- Drawing for one consumer on balances that an array holds, and the laws by which its loops are proved. Assumes nothing.
use Rattle.std.specs.Prelude.{ℕ, zero, suc, ◌+◌, ◌-◌, ◌%◌, ◌≤◌, ◌<◌, min, ◌≡◌, refl, Bool, true, false, List, [], ◌∷◌, ◌++◌, ltb, eqb, length, get_or, set, if◌then◌else◌}
use Rattle.std.proofs.Common.{sym, ap, ◌∙◌, arith, add-one, eqb-true, ltb-false, length-set, get_or-set_same, get_or-set_other}
use Rattle.std.proofs.Math.Path.{fun_ext}
use Rattle.std.proofs.lemmas.Bool.{eqb-false}
use Rattle.lists.specs.Tables.{table}
use Rattle.lists.specs.Pairs.{place}
use Rattle.lists.specs.Laws.PairsLaws.{place_in}
use Rattle.lists.specs.Laws.TablesLaws.{is_table, Filling, fill_start, fill_step, fill_here, fill_done}
use Rattle.energy.specs.Limits.{most_generators}
use Rattle.order_rules.specs.Settle.{Rest, lower, settle, kept, unmet}
use Rattle.order_rules.specs.Laws.SettleLaws.{settle_twice, settle_nothing, settle_want}
use Rattle.order.specs.Laws.KeptOrder.{upto, turns_in}
use Rattle.bank.specs.Laws.BankSteps.{givers}
use Rattle.bank.specs.Laws.BankLaws.{balances, givers_beyond}
use Rattle.record.specs.Hours.{classes, peak}
use Rattle.closing_rules.specs.Drawing.{stock_at, missing_at}
use Rattle.closing_rules.specs.Closing.{source, sources_of}

-- these sources gave to one who wants so much, and `left` is what is still wanted
pub record Gives (sources : List ℕ) (want : ℕ) (has has' : List ℕ) (left : ℕ) : Type 0 where
  pub size : length has' ≡ 24
  pub is : (rest : List ℕ) → settle (sources ++ rest) (place 24 has) want ≡ settle rest (place 24 has') left

abbrev pub Gave : ℕ → ℕ → List ℕ → List ℕ → ℕ → Type 0
Gave s = Gives (s ∷ [])

-- a generator gave first its energy of the class, then its peak energy
abbrev pub GaveBoth : ℕ → ℕ → ℕ → List ℕ → List ℕ → ℕ → Type 0
GaveBoth g k = Gives (source g k ∷ source g peak ∷ [])

-- the generators gs gave of class k: what is left of each balance, and what is still wanted
pub record Served (k : ℕ) (gs : List ℕ) (want : ℕ) (has has' : List ℕ) (left : ℕ) : Type 0 where
  pub size : length has' ≡ 24
  pub left_is : left ≡ unmet (sources_of k gs) (place 24 has) want
  pub has_is : place 24 has' ≡ kept (sources_of k gs) (place 24 has) want

-- ---- one balance

place_set : (xs : List ℕ) (g x : ℕ) → g < 24 → length xs ≡ 24 → place 24 (set xs g (get_or xs g 0 - x)) ≡ lower (place 24 xs) g x
unfolding place lower
place_set xs g x h s = fun_ext (λ i. go i (ltb i 24) refl (eqb i g) refl)
  where
    v : ℕ
    v = get_or xs g 0 - x

    go : (i : ℕ) (t : Bool) → ltb i 24 ≡ t → (u : Bool) → eqb i g ≡ u →
        (if t then get_or (set xs g v) i 0 else 0) ≡ (if u then (if t then get_or xs i 0 else 0) - x else (if t then get_or xs i 0 else 0))
    go i true d true e =
        let q = eqb-true i g e in
        ap (λ (k : ℕ). get_or (set xs g v) k 0) q ∙ get_or-set_same xs g v 0 (omega arith) ∙ ap (λ (k : ℕ). get_or xs k 0 - x) (sym q)
    go i true d false e = get_or-set_other xs g i v 0 (eqb-false i g e)
    go i false d true e = absurd (omega (arith, ltb-false i 24 d, eqb-true i g e))
    go i false d false e = refl

pub gave_made : {s want x : ℕ} {has : List ℕ} → s < 24 → length has ≡ 24 → x ≡ min (get_or has s 0) want → Gave s want has (set has s (get_or has s 0 - x)) (want - x)
unfolding settle
gave_made {s} {want} {x} {has} l z e =
    let q : x ≡ min (place 24 has s) want = e ∙ ap (λ (y : ℕ). min y want) (sym (place_in 24 has s l)) in
    record { size = length-set has s (get_or has s 0 - x) ∙ z; is = λ rest. rw (place_set has s x l z, q) }

-- ---- a generator's energy of a class, and its peak energy

-- of peak: its peak energy a second time gives nothing more
pub gave_peak : (g : ℕ) {k want left : ℕ} {has has' : List ℕ} → k ≡ peak → Gave (source g k) want has has' left → GaveBoth g k want has has' left
gave_peak g {want = want} {has = has} e a =
    record { size = a.size; is = λ rest. rw e (settle_twice (source g peak) rest (place 24 has) want) ∙ (rw e at (a.is rest)) }

pub gave_both : (g k : ℕ) {want mid left : ℕ} {has has₁ has₂ : List ℕ} → Gave (source g k) want has has₁ mid → Gave (source g peak) mid has₁ has₂ left →
    GaveBoth g k want has has₂ left
gave_both g k a b = record { size = b.size; is = λ rest. a.is (source g peak ∷ rest) ∙ b.is rest }

-- ---- the generators of the keys, one after another

-- The invariant of the loop: the first i keys, the last of them first, have not had their turn.
pub record Going (k : ℕ) (turns : List ℕ) (want : ℕ) (has₀ keys has : List ℕ) (left i : ℕ) : Type 0 where
  pub size : length has ≡ 24
  pub is : settle (sources_of k (turns_in turns)) (place 24 has₀) want ≡ settle (sources_of k (turns_in (upto keys i))) (place 24 has) left

-- before the first turn; no proof needs it
pub serve_start : {k want : ℕ} {turns keys has : List ℕ} → upto keys (length keys) ≡ turns → length has ≡ 24 → Going k turns want has keys has want (length keys)
serve_start e z = record { size = z; is = rw e refl }

pub serve_step : {k want i left last : ℕ} {turns has₀ keys has has' : List ℕ} → Going k turns want has₀ keys has left i → 0 < i →
    GaveBoth (get_or keys (i - 1) 0 % 8) k left has has' last → Going k turns want has₀ keys has' last (i - 1)
unfolding sources_of upto
serve_step {i = zero} h l t = absurd (omega arith)
serve_step {k} {i = suc i} {keys = keys} h l t =
    let e : suc i - 1 ≡ i = omega arith in
    let t' = rw e at t in
    rw e (record { size = t.size; is = h.is ∙ t'.is (sources_of k (turns_in (upto keys i))) })

-- it ends when all have given
pub serve_all : {k want left i : ℕ} {turns has₀ keys has : List ℕ} → Going k turns want has₀ keys has left i → i ≤ 0 → Served k (turns_in turns) want has₀ has left
unfolding sources_of upto settle kept unmet
serve_all {i = suc i} h l = absurd (omega arith)
serve_all {i = zero} h l = record { size = h.size; left_is = sym (ap (λ (r : Rest). r.want) h.is); has_is = sym (ap (λ (r : Rest). r.has) h.is) }

-- or nothing more is wanted
pub serve_enough : {k want left i : ℕ} {turns has₀ keys has : List ℕ} → Going k turns want has₀ keys has left i → left ≡ 0 → Served k (turns_in turns) want has₀ has left
unfolding settle kept unmet
serve_enough {k} {left = left} {i} {keys = keys} {has} h e =
    let sources = sources_of k (turns_in (upto keys i)) in
    record {
      size = h.size;
      left_is = omega (arith, settle_want sources (place 24 has) left, ap (λ (r : Rest). r.want) h.is);
      has_is = sym (ap (λ (r : Rest). r.has) h.is ∙ fun_ext (λ s. settle_nothing sources (place 24 has) left s e));
    }

-- ---- one class after another

-- Step 2 for one consumer: the generators gs, in their order, settled all three classes. The balances after it, which are the stocks of a closing:
-- generator g's energy of class k is number g * 3 + k. And what it lacks of each class.
pub record ClassesDrew (gs want old balance left : List ℕ) : Type 0 where
  pub size : length balance ≡ 24
  pub leaves : place 24 balance ≡ stock_at (λ k. sources_of k gs) (place 24 old) (place classes want) classes
  pub lacks : left ≡ table classes (missing_at (λ k. sources_of k gs) (place 24 old) (place classes want))

-- The invariant of the loop: k classes are settled.
pub record Settling (gs has₀ want has left : List ℕ) (k : ℕ) : Type 0 where
  pub size : length has ≡ 24
  pub has_is : place 24 has ≡ stock_at (λ k. sources_of k gs) (place 24 has₀) (place classes want) k
  pub left_is : Filling classes (missing_at (λ k. sources_of k gs) (place 24 has₀) (place classes want)) want k left

pub classes_start : {gs has want : List ℕ} → length has ≡ 24 → length want ≡ classes → Settling gs has want has want 0
unfolding stock_at
classes_start z w = record { size = z; has_is = refl; left_is = fill_start w }

pub classes_step : {gs has₀ want has left has' : List ℕ} {k x : ℕ} → Settling gs has₀ want has left k → k < classes →
    Served k gs (get_or left k 0) has has' x → Settling gs has₀ want has' (set left k x) (k + 1)
unfolding stock_at missing_at
classes_step {gs} {want = want} {k = k} h l t =
    let wanted = fill_here h.left_is ∙ sym (place_in classes want k l) in
    record {
      size = t.size;
      has_is = t.has_is ∙ (λ i. kept (sources_of k gs) (h.has_is i) (wanted i)) ∙ rw add-one;
      left_is = fill_step h.left_is l (t.left_is ∙ (λ i. unmet (sources_of k gs) (h.has_is i) (wanted i)));
    }

pub classes_done : {gs has₀ want has left : List ℕ} {k : ℕ} → Settling gs has₀ want has left k → classes ≤ k → ClassesDrew gs want has₀ has left
classes_done {k = k} h l =
    let e : k ≡ classes = omega (arith, h.left_is.within) in
    record { size = h.size; leaves = rw e at h.has_is; lacks = fill_done h.left_is l }

-- nobody gives: the balances stay, and all that was wanted is lacking
pub classes_none : {has want : List ℕ} → length has ≡ 24 → length want ≡ classes → ClassesDrew [] want has has want
unfolding sources_of stock_at missing_at settle kept unmet
classes_none {has} {want} z w =
    record {
      size = z;
      leaves = refl;
      lacks = is_table 0 classes _ want w (λ k l. sym (place_in classes want k l));
    }

-- so it is where there are more suppliers than the bank has balances of
pub draw_beyond : (keys : List ℕ) {want old balance left : List ℕ} → most_generators < length keys → length old ≡ 24 → length want ≡ classes →
    ClassesDrew (givers keys) want old balance left → (balance ≡ old) × (left ≡ want)
draw_beyond keys {want} {old} {balance} {left} l z w h = same (rw (givers_beyond keys l) at h)
  where
    same : ClassesDrew [] want old balance left → (balance ≡ old) × (left ≡ want)
    same d =
        let none = classes_none z w in
        (balances 24 balance d.size ∙ ap (table 24) (d.leaves ∙ sym none.leaves) ∙ sym (balances 24 old z), d.lacks ∙ sym none.lacks)
