-- Lists that stand one after the other in a slice, told place by place. Assumes nothing.
use Rattle.std.specs.Prelude.{ℕ, ◌+◌, ◌*◌, ◌/◌, ◌%◌, ◌≤◌, ◌<◌, ◌≡◌, refl, List, [], ◌∷◌, ◌++◌, length, get_or, take, drop}
use Rattle.std.proofs.Common.{sym, ap, ap₂, ◌∙◌, ⊎_elim, arith, div-lt_iff_lt-mul, mod-lt, div-add-mod', eq-zero-or-pos, mul-zero, length-drop, take-append-drop, drop-drop, get_or-take, get_or-drop, length-take-le}
use Rattle.std.proofs.Math.Seq.{drop-length}
use Rattle.lists.specs.Laws.TablesLaws.{is_table}
use Rattle.lists.specs.Pairs.{pairs, joined}
use Rattle.lists.specs.Laws.PairsLaws.{pairs_table}

-- a list with the right number in each place
pub pairs_is : (n w : ℕ) (f : ℕ → ℕ → ℕ) (xs : List ℕ) → length xs ≡ n * w → ((g c : ℕ) → g < n → c < w → get_or xs (g * w + c) 0 ≡ f g c) → xs ≡ pairs n w f
pairs_is n w f xs size h = is_table 0 (n * w) (λ k. f (k / w) (k % w)) xs size at ∙ sym (pairs_table n w f)
  where
    at : (k : ℕ) → k < n * w → get_or xs k 0 ≡ f (k / w) (k % w)
    at k l =
        ⊎_elim
        (λ (e : w ≡ 0). absurd (omega (arith, l, (rw e at l), mul-zero n)))
        (λ (p : 0 < w). ap (λ (i : ℕ). get_or xs i 0) (sym (div-add-mod' k w)) ∙ h (k / w) (k % w) ((div-lt_iff_lt-mul p).1 l) (mod-lt k p))
        (eq-zero-or-pos w)

-- two lists that agree in every place
same_places : (xs ys : List ℕ) (k : ℕ) → length xs ≡ k → length ys ≡ k → ((i : ℕ) → i < k → get_or xs i 0 ≡ get_or ys i 0) → xs ≡ ys
same_places xs ys k e q h = is_table 0 k (λ i. get_or ys i 0) xs e h ∙ sym (is_table 0 k (λ i. get_or ys i 0) ys q (λ i l. refl))

-- from place o on, out holds the list xs of k numbers and then the others
pub stretch_then : (out xs : List ℕ) (xss : List (List ℕ)) (o k : ℕ) → length xs ≡ k → o + k ≤ length out →
    ((i : ℕ) → i < k → get_or out (o + i) 0 ≡ get_or xs i 0) → drop (o + k) out ≡ joined xss → drop o out ≡ joined (xs ∷ xss)
unfolding joined
stretch_then out xs xss o k e b h rest =
    sym (take-append-drop k (drop o out)) ∙ ap₂ (λ (a b : List ℕ). a ++ b) first (drop-drop k o out ∙ rest)
  where
    first : take k (drop o out) ≡ xs
    first =
        same_places (take k (drop o out)) xs k (length-take-le k (drop o out) (omega (arith, b, length-drop o out))) e
        (λ i l. get_or-take k (drop o out) i 0 l ∙ get_or-drop o out i 0 ∙ h i l)

pub stretch_end : (out : List ℕ) (o : ℕ) → length out ≡ o → drop o out ≡ joined []
unfolding joined
stretch_end out o e = ap (λ (k : ℕ). drop k out) (sym e) ∙ drop-length out
