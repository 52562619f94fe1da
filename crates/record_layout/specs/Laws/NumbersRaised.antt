-- Numbers of a list raised where they stand, and what that makes of its runs. Assumes nothing.
use Prim.Native.Nat.{ℕ, zero, suc, ◌+◌, ◌-◌, ◌≤◌, ◌<◌}
use Rattle.std.specs.Prelude.{◌≡◌, List, [], ◌∷◌, length, get_or, set, take, drop}
use Rattle.std.proofs.Math.Path.{refl, ap}
use Rattle.std.proofs.Common.{sym, ◌∙◌, zero-add, add_assoc, eq-or-lt_of_le, eq-zero-or-pos, arith, get_or-set_same, set-set, drop-set-lt, get_or-take, get_or-drop}
use Rattle.std.proofs.Math.Logic.{⊎_elim}
use Rattle.std.proofs.Math.Numerals.{add-one}
use Rattle.std.proofs.Math.ListN.{length-set}
use Rattle.std.proofs.Math.Seq.{get_or-set_other, take-set-lt}
use Rattle.std.proofs.lemmas.List.{set-get_or, take-set-le, drop-set-add}
use Rattle.lists.specs.Tables.{table}
use Rattle.lists.specs.Laws.TablesLaws.{is_table}
use Rattle.lists.specs.Pairs.{place}
use Rattle.lists.specs.Laws.PairsLaws.{place_in}
use Rattle.record.specs.RecordWords.{run_lengths, total, cut}

-- f i added to the number at place `at i`, for each i below n in turn
unfoldable pub raised : (ℕ → ℕ) → ℕ → (ℕ → ℕ) → List ℕ → List ℕ
raised at zero f ws = ws
raised at (suc n) f ws = let xs = raised at n f ws in set xs (at n) (get_or xs (at n) 0 + f n)

-- the places from `at` on
abbrev pub from : ℕ → ℕ → ℕ
from at i = at + i

module _ (at f : ℕ → ℕ) (ws : List ℕ) where
  pub raised_none : raised at 0 f ws ≡ ws
  unfolding raised
  raised_none = refl

  pub raised_more : (i : ℕ) → raised at (i + 1) f ws ≡ set (raised at i f ws) (at i) (get_or (raised at i f ws) (at i) 0 + f i)
  unfolding raised
  raised_more i = rw add-one

  pub length_raised : (n : ℕ) → length (raised at n f ws) ≡ length ws
  unfolding raised
  length_raised zero = refl
  length_raised (suc n) = length-set (raised at n f ws) (at n) _ ∙ length_raised n

  -- by a rule that gives the same for each i below n
  pub raised_same : (h : ℕ → ℕ) (n : ℕ) → ((i : ℕ) → i < n → f i ≡ h i) → raised at n f ws ≡ raised at n h ws
  unfolding raised
  raised_same h zero e = refl
  raised_same h (suc n) e = rw (raised_same h n (λ i l. e i (omega arith)), e n (omega arith)) refl

  -- a number at no such place stays
  pub raised_other : (n k : ℕ) → ((i : ℕ) → i < n → k ≡ at i → ⊥) → get_or (raised at n f ws) k 0 ≡ get_or ws k 0
  unfolding raised
  raised_other zero k h = refl
  raised_other (suc n) k h = get_or-set_other (raised at n f ws) (at n) k _ 0 (h n (omega arith)) ∙ raised_other n k (λ i l. h i (omega arith))

  -- where the places differ, each is raised once
  pub raised_at : ((i j : ℕ) → i < j → at i ≡ at j → ⊥) → (n i : ℕ) → i < n → at i < length ws → get_or (raised at n f ws) (at i) 0 ≡ get_or ws (at i) 0 + f i
  unfolding raised
  raised_at apart zero i l b = absurd (omega arith)
  raised_at apart (suc n) i l b =
      ⊎_elim
      (λ (e : i ≡ n).
      rw (← e)
      (get_or-set_same (raised at i f ws) (at i) _ 0 (omega (arith, length_raised i)) ∙ ap (λ (x : ℕ). x + f i) (raised_other i (at i) (λ j b p. apart j i b (sym p)))))
      (λ (h : i < n). get_or-set_other (raised at n f ws) (at n) (at i) _ 0 (apart i n h) ∙ raised_at apart n i h b)
      (eq-or-lt_of_le (omega arith))

-- a whole list raised, nothing being added from place n on
pub raised_table : (k n : ℕ) (f g : ℕ → ℕ) (xs : List ℕ) → length xs ≡ k → n ≤ k → ((i : ℕ) → i < n → f i ≡ g i) → ((i : ℕ) → n ≤ i → g i ≡ 0) →
    raised (λ i. i) n f xs ≡ table k (λ i. place k xs i + g i)
raised_table k n f g xs e b same none = is_table 0 k (λ i. place k xs i + g i) (raised (λ i. i) n f xs) (length_raised (λ i. i) f xs n ∙ e) (λ i l. here i l)
  where
    here : (i : ℕ) → i < k → get_or (raised (λ i. i) n f xs) i 0 ≡ place k xs i + g i
    here i l =
        ⊎_elim
        (λ (z : n - i ≡ 0). omega (arith, raised_other (λ i. i) f xs n i (λ j h p. omega arith), place_in k xs i l, none i (omega arith)))
        (λ (p : 0 < n - i). let h : i < n = omega arith in omega (arith, raised_at (λ i. i) f xs (λ i j h p. omega arith) n i h (omega arith), place_in k xs i l, same i h))
        (eq-zero-or-pos (n - i))

-- ---- the runs of a list that is cut

-- a number set within run j
pub set_run : (ns ws : List ℕ) (j i v : ℕ) → i < get_or ns j 0 → cut ns (set ws (total (take j ns) + i) v) ≡ set (cut ns ws) j (set (get_or (cut ns ws) j []) i v)
unfolding cut total
set_run [] ws j i v h = absurd (omega arith)
set_run (n ∷ ns) ws zero i v h = rw (zero-add, take-set-lt n ws i v h, drop-set-lt n ws i v h)
set_run (n ∷ ns) ws (suc j) i v h =
    rw (add_assoc, take-set-le n ws (n + (total (take j ns) + i)) v (omega arith), drop-set-add) (ap (λ (l : List (List ℕ)). take n ws ∷ l) (set_run ns (drop n ws) j i v h))

run_place : (ns ws : List ℕ) (j i : ℕ) → i < get_or ns j 0 → get_or ws (total (take j ns) + i) 0 ≡ get_or (get_or (cut ns ws) j []) i 0
unfolding cut total
run_place [] ws j i h = absurd (omega arith)
run_place (n ∷ ns) ws zero i h = rw zero-add (sym (get_or-take n ws i 0 h))
run_place (n ∷ ns) ws (suc j) i h = rw add_assoc (sym (get_or-drop n ws (total (take j ns) + i) 0) ∙ run_place ns (drop n ws) j i h)

-- run j is one of the runs
pub run_among : (ns ws : List ℕ) (j i : ℕ) → i < get_or ns j 0 → j < length (cut ns ws)
unfolding cut
run_among [] ws j i h = absurd (omega arith)
run_among (n ∷ ns) ws zero i h = omega arith
run_among (n ∷ ns) ws (suc j) i h = omega (arith, run_among ns (drop n ws) j i h)

-- run j of n numbers raised at its places p, as a list of its own
abbrev pub run_raised : ℕ → (ℕ → ℕ) → ℕ → (ℕ → ℕ) → List (List ℕ) → List (List ℕ)
run_raised j p n f xss = set xss j (raised p n f (get_or xss j []))

pub raised_run : (ns ws : List ℕ) (j : ℕ) (p : ℕ → ℕ) (n : ℕ) (f : ℕ → ℕ) → ((i : ℕ) → i < n → p i < get_or ns j 0) →
    cut ns (raised (λ i. total (take j ns) + p i) n f ws) ≡ run_raised j p n f (cut ns ws)
unfolding raised
raised_run ns ws j p zero f h = sym (set-get_or (cut ns ws) j [])
raised_run ns ws j p (suc n) f h =
    let at : ℕ → ℕ = λ i. total (take j ns) + p i in
    let xs : List ℕ = raised at n f ws in
    let old : List (List ℕ) = cut ns ws in
    let ys : List ℕ = raised p n f (get_or old j []) in
    let l : p n < get_or ns j 0 = h n (omega arith) in
    let before : cut ns xs ≡ set old j ys = raised_run ns ws j p n f (λ i b. h i (omega arith)) in
    let here : get_or (cut ns xs) j [] ≡ ys = ap (λ (xss : List (List ℕ)). get_or xss j []) before ∙ get_or-set_same old j ys [] (run_among ns ws j (p n) l) in
    let number : get_or xs (at n) 0 ≡ get_or ys (p n) 0 = run_place ns xs j (p n) l ∙ ap (λ (zs : List ℕ). get_or zs (p n) 0) here in
    set_run ns xs j (p n) (get_or xs (at n) 0 + f n) l ∙ rw (number, here, before) (set-set old j ys (set ys (p n) (get_or ys (p n) 0 + f n)))

-- list j of the record raised: what is added to it is e, which is 0 from place n on
pub list_raised : (k n : ℕ) (ws : List ℕ) {xss : List (List ℕ)} (j : ℕ) (old : List ℕ) (f e : ℕ → ℕ) → n ≤ k → get_or run_lengths j 0 ≡ k → length old ≡ k →
    cut run_lengths ws ≡ xss → get_or xss j [] ≡ old → ((i : ℕ) → i < n → f i ≡ e i) → ((i : ℕ) → n ≤ i → e i ≡ 0) →
    cut run_lengths (raised (λ i. total (take j run_lengths) + i) n f ws) ≡ set xss j (table k (λ i. place k old i + e i))
list_raised k n ws {xss} j old f e few width size at was same none =
    raised_run run_lengths ws j (λ i. i) n f (λ i l. omega arith) ∙ rw (at, was) (ap (set xss j) (raised_table k n f e old size few same none))
