-- Numbers of a list replaced where they stand, and what that makes of its runs. Assumes nothing.
use Prim.Native.Nat.{ℕ, zero, suc, ◌+◌, ◌-◌, ◌≤◌, ◌<◌}
use Rattle.std.specs.Prelude.{◌≡◌, List, [], length, get_or, set, take}
use Rattle.std.proofs.Math.Path.{refl}
use Rattle.std.proofs.Common.{sym, ap, ◌∙◌, eq-or-lt_of_le, eq-zero-or-pos, arith, get_or-set_same, set-set}
use Rattle.std.proofs.Math.Logic.{⊎_elim}
use Rattle.std.proofs.Math.Numerals.{add-one}
use Rattle.std.proofs.Math.ListN.{length-set}
use Rattle.std.proofs.Math.Seq.{get_or-set_other}
use Rattle.std.proofs.lemmas.List.{set-get_or}
use Rattle.lists.specs.Tables.{table}
use Rattle.lists.specs.Laws.TablesLaws.{is_table}
use Rattle.record.specs.RecordWords.{run_lengths, total, cut}
use Rattle.record_layout.specs.Laws.NumbersRaised.{set_run, run_among}

-- f i put at place `at i`, for each i below n in turn
unfoldable pub replaced : (ℕ → ℕ) → ℕ → (ℕ → ℕ) → List ℕ → List ℕ
replaced at zero f ws = ws
replaced at (suc n) f ws = set (replaced at n f ws) (at n) (f n)

module _ (at f : ℕ → ℕ) (ws : List ℕ) where
  pub replaced_none : replaced at 0 f ws ≡ ws
  unfolding replaced
  replaced_none = refl

  pub replaced_more : (i : ℕ) → replaced at (i + 1) f ws ≡ set (replaced at i f ws) (at i) (f i)
  unfolding replaced
  replaced_more i = rw add-one

  -- by a rule that gives the same for each i below n
  pub replaced_same : (h : ℕ → ℕ) (n : ℕ) → ((i : ℕ) → i < n → f i ≡ h i) → replaced at n f ws ≡ replaced at n h ws
  unfolding replaced
  replaced_same h zero e = refl
  replaced_same h (suc n) e = rw (replaced_same h n (λ i l. e i (omega arith)), e n (omega arith)) refl

  length_replaced : (n : ℕ) → length (replaced at n f ws) ≡ length ws
  unfolding replaced
  length_replaced zero = refl
  length_replaced (suc n) = length-set (replaced at n f ws) (at n) (f n) ∙ length_replaced n

  -- a number at no such place stays
  replaced_other : (n k : ℕ) → ((i : ℕ) → i < n → k ≡ at i → ⊥) → get_or (replaced at n f ws) k 0 ≡ get_or ws k 0
  unfolding replaced
  replaced_other zero k h = refl
  replaced_other (suc n) k h = get_or-set_other (replaced at n f ws) (at n) k (f n) 0 (h n (omega arith)) ∙ replaced_other n k (λ i l. h i (omega arith))

  -- where the places differ, each has its number
  replaced_at : ((i j : ℕ) → i < j → at i ≡ at j → ⊥) → (n i : ℕ) → i < n → at i < length ws → get_or (replaced at n f ws) (at i) 0 ≡ f i
  unfolding replaced
  replaced_at apart zero i l b = absurd (omega arith)
  replaced_at apart (suc n) i l b =
      ⊎_elim
      (λ (e : i ≡ n). rw (← e) (get_or-set_same (replaced at i f ws) (at i) (f i) 0 (omega (arith, length_replaced i))))
      (λ (h : i < n). get_or-set_other (replaced at n f ws) (at n) (at i) (f n) 0 (apart i n h) ∙ replaced_at apart n i h b)
      (eq-or-lt_of_le (omega arith))

-- a whole list replaced, the numbers from place n on being as they are to be
replaced_table : (k n : ℕ) (f g : ℕ → ℕ) (xs : List ℕ) → length xs ≡ k → n ≤ k → ((i : ℕ) → i < n → f i ≡ g i) → ((i : ℕ) → n ≤ i → i < k → get_or xs i 0 ≡ g i) →
    replaced (λ i. i) n f xs ≡ table k g
replaced_table k n f g xs e b same stays = is_table 0 k g (replaced (λ i. i) n f xs) (length_replaced (λ i. i) f xs n ∙ e) here
  where
    here : (i : ℕ) → i < k → get_or (replaced (λ i. i) n f xs) i 0 ≡ g i
    here i l =
        ⊎_elim
        (λ (z : n - i ≡ 0). replaced_other (λ i. i) f xs n i (λ j h p. omega arith) ∙ stays i (omega arith) l)
        (λ (p : 0 < n - i). let h : i < n = omega arith in replaced_at (λ i. i) f xs (λ i j h p. omega arith) n i h (omega arith) ∙ same i h)
        (eq-zero-or-pos (n - i))

replaced_run : (ns ws : List ℕ) (j n : ℕ) (f : ℕ → ℕ) → n ≤ get_or ns j 0 →
    cut ns (replaced (λ i. total (take j ns) + i) n f ws) ≡ set (cut ns ws) j (replaced (λ i. i) n f (get_or (cut ns ws) j []))
unfolding replaced
replaced_run ns ws j zero f h = sym (set-get_or (cut ns ws) j [])
replaced_run ns ws j (suc n) f h =
    let xs : List ℕ = replaced (λ i. total (take j ns) + i) n f ws in
    let old : List (List ℕ) = cut ns ws in
    let ys : List ℕ = replaced (λ i. i) n f (get_or old j []) in
    let before : cut ns xs ≡ set old j ys = replaced_run ns ws j n f (omega arith) in
    let here : get_or (cut ns xs) j [] ≡ ys = ap (λ (xss : List (List ℕ)). get_or xss j []) before ∙ get_or-set_same old j ys [] (run_among ns ws j n (omega arith)) in
    set_run ns xs j n (f n) (omega arith) ∙ rw (here, before) (set-set old j ys (set ys n (f n)))

-- list j of the record replaced: it is e, which from place n on it was before
pub list_replaced : (k n : ℕ) (ws : List ℕ) {xss : List (List ℕ)} (j : ℕ) (old : List ℕ) (f e : ℕ → ℕ) → n ≤ k → get_or run_lengths j 0 ≡ k → length old ≡ k →
    cut run_lengths ws ≡ xss → get_or xss j [] ≡ old → ((i : ℕ) → i < n → f i ≡ e i) → ((i : ℕ) → n ≤ i → i < k → get_or old i 0 ≡ e i) →
    cut run_lengths (replaced (λ i. total (take j run_lengths) + i) n f ws) ≡ set xss j (table k e)
list_replaced k n ws {xss} j old f e few width size at was same stays =
    replaced_run run_lengths ws j n f (omega arith) ∙ rw (at, was) (ap (set xss j) (replaced_table k n f e old size few same stays))
