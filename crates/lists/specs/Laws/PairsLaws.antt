-- Laws of lists by place and by pair. Assumes nothing.
use Rattle.std.specs.Prelude.{ℕ, zero, suc, ◌+◌, ◌*◌, ◌/◌, ◌%◌, ◌≤◌, ◌<◌, ◌≡◌, refl, Bool, true, false, ◌&&◌, ◌⊎◌, List, [], ◌∷◌, ◌++◌, ltb, length, get_or, if◌then◌else◌}
use Rattle.std.proofs.Common.{sym, ap, ◌∙◌, subst, inl, inr, append_assoc, append-nil, arith, mul-le-mul_right, mod-eq_of_lt, suc-mul, add-suc, add-zero, zero-mul, ltb-true, ltb-false, lt-ltb, le-ltb, length-append, get_or-append-add}
use Rattle.std.proofs.Math.Path.{fun_ext}
use Rattle.std.proofs.Math.Nat.{mul-add-div_right, mul-add-mod_self_right, div-eq_of_lt}
use Rattle.std.proofs.Math.ListN.{get_or-append}
use Rattle.lists.specs.Tables.{table}
use Rattle.lists.specs.Laws.TablesLaws.{length_table, get_or_table, table_same}
use Rattle.lists.specs.Pairs.{place, cell, pairs, joined}

-- ---- by place

pub place_in : (n : ℕ) (xs : List ℕ) (i : ℕ) → i < n → place n xs i ≡ get_or xs i 0
unfolding place
place_in n xs i h = rw (lt-ltb i n h)

pub place_out : (n : ℕ) (xs : List ℕ) (i : ℕ) → n ≤ i → place n xs i ≡ 0
unfolding place
place_out n xs i h = rw (le-ltb i n h)

-- a table of n places read back
pub place_table : (n : ℕ) (f : ℕ → ℕ) → ((i : ℕ) → n ≤ i → f i ≡ 0) → place n (table n f) ≡ f
place_table n f z = fun_ext (λ i. go i (ltb i n) refl)
  where
    go : (i : ℕ) (t : Bool) → ltb i n ≡ t → place n (table n f) i ≡ f i
    go i true e = place_in n (table n f) i (ltb-true i n e) ∙ get_or_table n f i 0 (ltb-true i n e)
    go i false e = place_out n (table n f) i (ltb-false i n e) ∙ sym (z i (ltb-false i n e))

-- what holds of each place of n and of 0 holds everywhere
pub place_all : (P : ℕ → Type 0) (n : ℕ) (xs : List ℕ) → P 0 → ((i : ℕ) → i < n → P (get_or xs i 0)) → (i : ℕ) → P (place n xs i)
place_all P n xs z h i = go (ltb i n) refl
  where
    go : (t : Bool) → ltb i n ≡ t → P (place n xs i)
    go true e = subst P (sym (place_in n xs i (ltb-true i n e))) (h i (ltb-true i n e))
    go false e = subst P (sym (place_out n xs i (ltb-false i n e))) z

-- ---- by pair

pub cell_in : (n w : ℕ) (xs : List ℕ) (g c : ℕ) → g < n → c < w → cell n w xs g c ≡ get_or xs (g * w + c) 0
unfolding cell
cell_in n w xs g c h k = rw (lt-ltb g n h, lt-ltb c w k)

pub cell_out : (n w : ℕ) (xs : List ℕ) (g c : ℕ) → (n ≤ g) ⊎ (w ≤ c) → cell n w xs g c ≡ 0
unfolding cell
cell_out n w xs g c (inl h) = rw (le-ltb g n h)
cell_out n w xs g c (inr h) = rw (le-ltb c w h) (none (ltb g n))
  where
    none : (t : Bool) → (if t && false then get_or xs (g * w + c) 0 else 0) ≡ 0
    none true = refl
    none false = refl

pub table_plus : (m n : ℕ) (f : ℕ → ℕ) → table (m + n) f ≡ table m f ++ table n (λ i. f (m + i))
unfolding table
table_plus m zero f = rw add-zero (sym (append-nil (table m f)))
table_plus m (suc n) f = rw (add-suc, table_plus m n f) (append_assoc (table m f) (table n (λ i. f (m + i))) (f (m + n) ∷ []))

pub row_of : (w g c : ℕ) → c < w → (g * w + c) / w ≡ g
row_of w g c h = mul-add-div_right {m = w} (omega arith) g c ∙ omega (arith, div-eq_of_lt h)

pub column_of_lem : (w g c : ℕ) → c < w → (g * w + c) % w ≡ c
column_of_lem w g c h = mul-add-mod_self_right g w c ∙ mod-eq_of_lt h

empty : (h : ℕ → ℕ) → [] ≡ table 0 h
unfolding table
empty h = refl

-- a pair list is one table, its places counted through
pub pairs_table : (n w : ℕ) (f : ℕ → ℕ → ℕ) → pairs n w f ≡ table (n * w) (λ k. f (k / w) (k % w))
unfolding pairs
pairs_table zero w f = rw zero-mul (empty (λ k. f (k / w) (k % w)))
pairs_table (suc n) w f =
    rw (suc-mul, table_plus, ← (pairs_table n w f))
    (ap (λ (l : List ℕ). pairs n w f ++ l) (table_same w (f n) (λ c. f ((n * w + c) / w) ((n * w + c) % w)) (λ c h. rw (row_of w n c h, column_of_lem w n c h))))

pub length_pairs : (n w : ℕ) (f : ℕ → ℕ → ℕ) → length (pairs n w f) ≡ n * w
length_pairs n w f = rw pairs_table (length_table (n * w) (λ k. f (k / w) (k % w)))

pub cell_index : (n w g c : ℕ) → g < n → c < w → g * w + c < n * w
cell_index n w g c h k = omega (arith, mul-le-mul_right w h, suc-mul g w)

pub get_or_pairs : (n w : ℕ) (f : ℕ → ℕ → ℕ) (g c : ℕ) → g < n → c < w → get_or (pairs n w f) (g * w + c) 0 ≡ f g c
get_or_pairs n w f g c h k =
    rw pairs_table
    (get_or_table (n * w) (λ j. f (j / w) (j % w)) (g * w + c) 0 (cell_index n w g c h k) ∙ rw (row_of w g c k, column_of_lem w g c k))

-- a pair list read back
pub cell_pairs : (n w : ℕ) (f : ℕ → ℕ → ℕ) → ((g c : ℕ) → (n ≤ g) ⊎ (w ≤ c) → f g c ≡ 0) → cell n w (pairs n w f) ≡ f
cell_pairs n w f z = fun_ext (λ g. fun_ext (λ c. go g c (ltb g n) refl (ltb c w) refl))
  where
    go : (g c : ℕ) (s : Bool) → ltb g n ≡ s → (t : Bool) → ltb c w ≡ t → cell n w (pairs n w f) g c ≡ f g c
    go g c true e true q = cell_in n w (pairs n w f) g c (ltb-true g n e) (ltb-true c w q) ∙ get_or_pairs n w f g c (ltb-true g n e) (ltb-true c w q)
    go g c true e false q = let o : (n ≤ g) ⊎ (w ≤ c) = inr (ltb-false c w q) in cell_out n w (pairs n w f) g c o ∙ sym (z g c o)
    go g c false e t q = let o : (n ≤ g) ⊎ (w ≤ c) = inl (ltb-false g n e) in cell_out n w (pairs n w f) g c o ∙ sym (z g c o)

-- what holds of each pair of n rows of w and of 0 holds everywhere
pub cell_all : (P : ℕ → Type 0) (n w : ℕ) (xs : List ℕ) → P 0 → ((g c : ℕ) → g < n → c < w → P (cell n w xs g c)) → (g c : ℕ) → P (cell n w xs g c)
cell_all P n w xs z h g c = go (ltb g n) refl (ltb c w) refl
  where
    go : (s : Bool) → ltb g n ≡ s → (t : Bool) → ltb c w ≡ t → P (cell n w xs g c)
    go true e true q = h g c (ltb-true g n e) (ltb-true c w q)
    go true e false q = subst P (sym (cell_out n w xs g c (inr (ltb-false c w q)))) z
    go false e t q = subst P (sym (cell_out n w xs g c (inl (ltb-false g n e)))) z

-- ---- lists one after the other

pub length_joined : (xs : List ℕ) (xss : List (List ℕ)) → length (joined (xs ∷ xss)) ≡ length xs + length (joined xss)
unfolding joined
length_joined xs xss = length-append xs (joined xss)

-- a place of the first list
pub joined_here : (xs : List ℕ) (xss : List (List ℕ)) (i : ℕ) → i < length xs → get_or (joined (xs ∷ xss)) i 0 ≡ get_or xs i 0
unfolding joined
joined_here xs xss i h = get_or-append xs (joined xss) 0 i h

-- a place after the first list, which has n
pub joined_later : (xs : List ℕ) (xss : List (List ℕ)) (n i : ℕ) → length xs ≡ n → get_or (joined (xs ∷ xss)) (n + i) 0 ≡ get_or (joined xss) i 0
unfolding joined
joined_later xs xss n i e = rw (← e) (get_or-append-add xs (joined xss) i 0)

pub joined_none : length (joined []) ≡ 0
unfolding joined
joined_none = refl
