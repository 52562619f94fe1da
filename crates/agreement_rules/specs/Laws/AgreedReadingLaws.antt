-- The laws by which the loops that read lists into places are proved. Assumes nothing.
use Rattle.std.specs.Prelude.{ℕ, zero, suc, ◌+◌, ◌*◌, ◌/◌, ◌%◌, ◌≤◌, ◌<◌, ◌≡◌, refl, Bool, true, false, ◌&&◌, List, eqb, ltb, length, get_or, set, drop, take, replicate, if◌then◌else◌}
use Rattle.std.proofs.Common.{sym, ap, ◌∙◌, inl, inr, arith, mul-le-mul, mul-le-mul_right, suc-mul, ltb-true, ltb-false, lt-ltb, le-ltb, eqb-true, eq-eqb, length-set, get_or-set_same, get_or-set_other, get_or-drop, get_or-take}
use Rattle.std.proofs.Math.Path.{fun_ext}
use Rattle.std.proofs.lemmas.Bool.{eqb-false}
use Rattle.std.proofs.lemmas.List.{length-replicate, get_or-replicate}
use Rattle.lists.specs.Tables.{table}
use Rattle.lists.specs.Laws.TablesLaws.{filled, length_table, get_or_table, is_table, table_same, filled_none, filled_more, filled_before, filled_later, length_filled}
use Rattle.lists.specs.Pairs.{cell, pairs}
use Rattle.lists.specs.Laws.PairsLaws.{cell_in, cell_out, pairs_table, length_pairs, get_or_pairs, cell_index}
use Rattle.record.specs.Laws.Shape.{pairs_cell}
use Rattle.agreement_rules.specs.Laws.AgreedReading.{RowAt, RowsAt, row_put}

-- ---- a list of 8 places, the first n of which are read

pub record Reading (n : ℕ) (f : ℕ → ℕ) (l : List ℕ) (i : ℕ) (now : List ℕ) : Type 0 where
  pub within : i ≤ n
  pub few : n ≤ 8
  pub size : length l ≡ 8
  pub is : now ≡ filled l i f

pub read_start : {n : ℕ} {f : ℕ → ℕ} {l : List ℕ} → n ≤ 8 → length l ≡ 8 → Reading n f l 0 l
read_start {n} {f} {l} h e = record { within = omega arith; few = h; size = e; is = sym (filled_none l f) }

pub read_step : {n : ℕ} {f : ℕ → ℕ} {l now : List ℕ} {i v : ℕ} → Reading n f l i now → i < n → v ≡ f i → Reading n f l (i + 1) (set now i v)
read_step {n} {f} {l} {now} {i} {v} h b e =
    record { within = omega arith; few = h.few; size = h.size; is = rw (h.is, e) (filled_more l i f (omega (arith, h.size, h.few))) }

pub read_length : {n : ℕ} {f : ℕ → ℕ} {l now : List ℕ} {i : ℕ} → Reading n f l i now → length now ≡ 8
read_length {n} {f} {l} {now} {i} h = ap length h.is ∙ length_filled l i f (omega (arith, h.size, h.few, h.within)) ∙ h.size

-- the places beyond n stay 0
pub read_done : {n : ℕ} {f : ℕ → ℕ} {now : List ℕ} {i : ℕ} (f' : ℕ → ℕ) → Reading n f (replicate 8 0) i now → n ≤ i →
    ((k : ℕ) → k < n → f k ≡ f' k) → ((k : ℕ) → n ≤ k → f' k ≡ 0) → now ≡ table 8 f'
read_done {n} {f} {now} {i} f' h b same none =
    let p : i ≡ n = omega (arith, h.within) in
    h.is ∙ ap (λ (m : ℕ). filled (replicate 8 0) m f) p ∙ is_table 0 8 f' _ (length_filled (replicate 8 0) n f h.few) (λ k l. go k l (ltb k n) refl)
  where
    go : (k : ℕ) → k < 8 → (t : Bool) → ltb k n ≡ t → get_or (filled (replicate 8 0) n f) k 0 ≡ f' k
    go k l true e = filled_before (replicate 8 0) n f k 0 (ltb-true k n e) ∙ same k (ltb-true k n e)
    go k l false e =
        filled_later (replicate 8 0) n f k 0 (ltb-false k n e) ∙ get_or-replicate 8 k 0 0 l ∙ sym (none k (ltb-false k n e))

-- ---- a stored pair list, one place or one row of which changes

table_set : (n : ℕ) (f f' : ℕ → ℕ) (i v : ℕ) → i < n → v ≡ f' i → ((j : ℕ) → j < n → (j ≡ i → ⊥) → f j ≡ f' j) → set (table n f) i v ≡ table n f'
table_set n f f' i v h e same =
    is_table 0 n f' (set (table n f) i v) (length-set (table n f) i v ∙ length_table n f) (λ k l. go k l (eqb k i) refl)
  where
    go : (k : ℕ) → k < n → (t : Bool) → eqb k i ≡ t → get_or (set (table n f) i v) k 0 ≡ f' k
    go k l true q = rw (eqb-true k i q) (get_or-set_same (table n f) i v 0 (omega (arith, length_table n f)) ∙ e)
    go k l false q =
        get_or-set_other (table n f) i k v 0 (eqb-false k i q) ∙ get_or_table n f k 0 l ∙ same k l (eqb-false k i q)

pub pairs_same : (n w : ℕ) (f f' : ℕ → ℕ → ℕ) → ((g c : ℕ) → g < n → c < w → f g c ≡ f' g c) → pairs n w f ≡ pairs n w f'
unfolding pairs
pairs_same zero w f f' h = refl
pairs_same (suc n) w f f' h = rw (pairs_same n w f f' (λ g c l k. h g c (omega arith) k), table_same w (f n) (f' n) (λ c k. h n c (omega arith) k)) refl

set_pairs : (f f' : ℕ → ℕ → ℕ) (g c v : ℕ) → g < 8 → c < 16 → v ≡ f' g c →
    ((h d : ℕ) → ((h ≡ g) × (d ≡ c) → ⊥) → f h d ≡ f' h d) → set (pairs 8 16 f) (g * 16 + c) v ≡ pairs 8 16 f'
set_pairs f f' g c v l k e same =
    let p : (g * 16 + c) / 16 ≡ g = omega arith in
    let q : (g * 16 + c) % 16 ≡ c = omega arith in
    rw (pairs_table 8 16 f, pairs_table 8 16 f')
    (table_set 128 (λ j. f (j / 16) (j % 16)) (λ j. f' (j / 16) (j % 16)) (g * 16 + c) v (omega arith) (rw (p, q) e)
    (λ j b ne. same (j / 16) (j % 16) (λ z. ne (omega (arith, z.0, z.1)))))

pub put_none : (l : List ℕ) (g : ℕ) (row : ℕ → ℕ) → length l ≡ 128 → l ≡ row_put l g 0 row
unfolding row_put
put_none l g row e = sym (pairs_cell l e) ∙ pairs_same 8 16 _ _ (λ h c b k. rw (le-ltb c 0 (omega arith)) (sym (none h c (eqb h g))))
  where
    none : (h c : ℕ) (t : Bool) → (if t && false then row c else cell 8 16 l h c) ≡ cell 8 16 l h c
    none h c true = refl
    none h c false = refl

pub put_more : (l : List ℕ) (g c : ℕ) (row : ℕ → ℕ) → g < 8 → c < 16 → set (row_put l g c row) (g * 16 + c) (row c) ≡ row_put l g (c + 1) row
unfolding row_put
put_more l g c row b k =
    set_pairs _ _ g c (row c) b k (sym (rw (eq-eqb g g refl, lt-ltb c (c + 1) (omega arith)))) (λ h d ne. other h d ne (eqb h g) refl)
  where
    other : (h d : ℕ) → ((h ≡ g) × (d ≡ c) → ⊥) → (t : Bool) → eqb h g ≡ t →
        (if t && ltb d c then row d else cell 8 16 l h d) ≡ (if t && ltb d (c + 1) then row d else cell 8 16 l h d)
    other h d ne false e = refl
    other h d ne true e = go (ltb d c) refl
      where
        go : (s : Bool) → ltb d c ≡ s → (if s then row d else cell 8 16 l h d) ≡ (if ltb d (c + 1) then row d else cell 8 16 l h d)
        go true q = rw (lt-ltb d (c + 1) (omega (arith, ltb-true d c q)))
        go false q = rw (le-ltb d (c + 1) (beyond (ltb-false d c q)))
          where
            beyond : c ≤ d → c + 1 ≤ d
            beyond z = omega (arith, not_here)
              where
                not_here : d ≡ c → ⊥
                not_here y = ne (eqb-true h g e, y)

pub length_put : (l : List ℕ) (g m : ℕ) (row : ℕ → ℕ) → length (row_put l g m row) ≡ 128
unfolding row_put
length_put l g m row = length_pairs 8 16 _

-- ---- a pair list of m columns put row by row into 16 places a row

pub rows_none : (m : ℕ) (xs : List ℕ) → replicate 128 0 ≡ pairs 8 16 (cell 0 m xs)
rows_none m xs =
    sym (pairs_table 8 16 (cell 0 m xs) ∙ sym (is_table 0 128 _ (replicate 128 0) (length-replicate {A = ℕ} 128 0) (λ k b. get_or-replicate 128 k 0 0 b ∙ sym (cell_out 0 m xs (k / 16) (k % 16) (inl (omega arith))))))

pub rows_more : (g m : ℕ) (xs : List ℕ) → g < 8 → m ≤ 16 → row_put (pairs 8 16 (cell g m xs)) g m (λ c. get_or xs (g * m + c) 0) ≡ pairs 8 16 (cell (g + 1) m xs)
unfolding row_put
rows_more g m xs b k = pairs_same 8 16 _ _ (λ h c p q. go h c p q (eqb h g) refl (ltb c m) refl)
  where
    go : (h c : ℕ) → h < 8 → c < 16 → (s : Bool) → eqb h g ≡ s → (t : Bool) → ltb c m ≡ t →
        (if s && t then get_or xs (g * m + c) 0 else cell 8 16 (pairs 8 16 (cell g m xs)) h c) ≡ cell (g + 1) m xs h c
    go h c p q true e true d =
        rw (eqb-true h g e) (sym (cell_in (g + 1) m xs g c (omega arith) (ltb-true c m d)))
    go h c p q true e false d = old h c p q ∙ cell_out g m xs h c (inr (ltb-false c m d)) ∙ sym (cell_out (g + 1) m xs h c (inr (ltb-false c m d)))
      where
        old : (h c : ℕ) → h < 8 → c < 16 → cell 8 16 (pairs 8 16 (cell g m xs)) h c ≡ cell g m xs h c
        old h c p q = cell_in 8 16 _ h c p q ∙ get_or_pairs 8 16 (cell g m xs) h c p q
    go h c p q false e t d = old ∙ kept (ltb h g) refl t d
      where
        old : cell 8 16 (pairs 8 16 (cell g m xs)) h c ≡ cell g m xs h c
        old = cell_in 8 16 _ h c p q ∙ get_or_pairs 8 16 (cell g m xs) h c p q

        kept : (s : Bool) → ltb h g ≡ s → (t : Bool) → ltb c m ≡ t → cell g m xs h c ≡ cell (g + 1) m xs h c
        kept true s true t =
            cell_in g m xs h c (ltb-true h g s) (ltb-true c m t) ∙ sym (cell_in (g + 1) m xs h c (omega (arith, ltb-true h g s)) (ltb-true c m t))
        kept true s false t = cell_out g m xs h c (inr (ltb-false c m t)) ∙ sym (cell_out (g + 1) m xs h c (inr (ltb-false c m t)))
        kept false s t d =
            cell_out g m xs h c (inl (ltb-false h g s)) ∙ sym (cell_out (g + 1) m xs h c (inl (omega (arith, ltb-false h g s, eqb-false h g e))))

-- The invariant of the loop that puts m numbers into row g: l is the list as it was, c numbers are put, now is the list now.
pub record Putting (l : List ℕ) (g m : ℕ) (row : ℕ → ℕ) (c : ℕ) (now : List ℕ) : Type 0 where
  pub within : c ≤ m
  pub few : m ≤ 16
  pub is : now ≡ row_put l g c row

pub put_start : {l : List ℕ} {g m : ℕ} {row : ℕ → ℕ} → m ≤ 16 → length l ≡ 128 → Putting l g m row 0 l
put_start {l} {g} {m} {row} h e = record { within = omega arith; few = h; is = put_none l g row e }

pub put_step : {l now : List ℕ} {g m c v : ℕ} {row : ℕ → ℕ} → Putting l g m row c now → g < 8 → c < m → v ≡ row c → Putting l g m row (c + 1) (set now (g * 16 + c) v)
put_step {l} {now} {g} {m} {c} {v} {row} h b k e =
    record { within = omega arith; few = h.few; is = rw (h.is, e) (put_more l g c row b (omega (arith, h.few))) }

pub put_length : {l now : List ℕ} {g m c : ℕ} {row : ℕ → ℕ} → Putting l g m row c now → length now ≡ 128
put_length {l} {now} {g} {m} {c} {row} h = ap length h.is ∙ length_put l g c row

pub put_done : {l now : List ℕ} {g m c : ℕ} {row : ℕ → ℕ} → Putting l g m row c now → m ≤ c → now ≡ row_put l g m row
put_done {l} {now} {g} {m} {c} {row} h b = let p : c ≡ m = omega (arith, h.within) in h.is ∙ ap (λ (k : ℕ). row_put l g k row) p

-- The invariant of the loop that puts n rows of m numbers, which start at a place of xs: g rows are put.
pub record Spreading (xs : List ℕ) (from n m g : ℕ) (now : List ℕ) : Type 0 where
  pub within : g ≤ n
  pub few_rows : n ≤ 8
  pub few : m ≤ 16
  pub is : now ≡ pairs 8 16 (cell g m (drop from xs))

pub spread_start : {xs : List ℕ} {from n m : ℕ} → n ≤ 8 → m ≤ 16 → Spreading xs from n m 0 (replicate 128 0)
spread_start {xs} {from} {n} {m} h k = record { within = omega arith; few_rows = h; few = k; is = rows_none m (drop from xs) }

pub spread_step : {xs now next : List ℕ} {from n m g : ℕ} → Spreading xs from n m g now → g < n →
    next ≡ row_put now g m (λ c. get_or xs (from + g * m + c) 0) → Spreading xs from n m (g + 1) next
spread_step {xs} {now} {next} {from} {n} {m} {g} h b e =
    record { within = omega arith; few_rows = h.few_rows; few = h.few; is = e ∙ rw (h.is, row) (rows_more g m (drop from xs) (omega (arith, h.few_rows)) h.few) }
  where
    row : ◌≡◌ {A = ℕ → ℕ} (λ c. get_or xs (from + g * m + c) 0) (λ c. get_or (drop from xs) (g * m + c) 0)
    row = fun_ext (λ c. ap (λ (i : ℕ). get_or xs i 0) (omega arith) ∙ sym (get_or-drop from xs (g * m + c) 0))

pub spread_length : {xs now : List ℕ} {from n m g : ℕ} → Spreading xs from n m g now → length now ≡ 128
spread_length {xs} {now} {from} {n} {m} {g} h = ap length h.is ∙ length_pairs 8 16 (cell g m (drop from xs))

pub spread_done : {xs now : List ℕ} {from n m g : ℕ} → Spreading xs from n m g now → n ≤ g → now ≡ pairs 8 16 (cell n m (drop from xs))
spread_done {xs} {now} {from} {n} {m} {g} h b =
    let p : g ≡ n = omega (arith, h.within) in
    h.is ∙ ap (λ (k : ℕ). pairs 8 16 (cell k m (drop from xs))) p

-- row g of n
pub row_at : {xs : List ℕ} {from n m : ℕ} (g : ℕ) → RowsAt xs from n m → g < n → RowAt xs (from + g * m) m
row_at {xs} {from} {n} {m} g h l = record { fits = omega (arith, h.fits, mul-le-mul_right m l, suc-mul g m); few = h.few }

pub first_row_at : {xs : List ℕ} {n m : ℕ} (g : ℕ) → RowsAt xs 0 n m → g < n → RowAt xs (g * m) m
first_row_at {xs} {n} {m} g h l = record { fits = omega (arith, (row_at g h l).fits); few = h.few }

-- ---- two ways to read the same cells

same_cells : (n m : ℕ) (xs ys : List ℕ) → ((g c : ℕ) → g < n → c < m → get_or xs (g * m + c) 0 ≡ get_or ys (g * m + c) 0) → cell n m xs ≡ cell n m ys
same_cells n m xs ys h = fun_ext (λ g. fun_ext (λ c. go g c (ltb g n) refl (ltb c m) refl))
  where
    go : (g c : ℕ) (s : Bool) → ltb g n ≡ s → (t : Bool) → ltb c m ≡ t → cell n m xs g c ≡ cell n m ys g c
    go g c true e true q =
        cell_in n m xs g c (ltb-true g n e) (ltb-true c m q) ∙ h g c (ltb-true g n e) (ltb-true c m q) ∙ sym (cell_in n m ys g c (ltb-true g n e) (ltb-true c m q))
    go g c true e false q = cell_out n m xs g c (inr (ltb-false c m q)) ∙ sym (cell_out n m ys g c (inr (ltb-false c m q)))
    go g c false e t q = cell_out n m xs g c (inl (ltb-false g n e)) ∙ sym (cell_out n m ys g c (inl (ltb-false g n e)))

pub cell_drop_none : (n m : ℕ) (xs : List ℕ) → cell n m (drop 0 xs) ≡ cell n m xs
cell_drop_none n m xs = same_cells n m (drop 0 xs) xs (λ g c l k. get_or-drop 0 xs (g * m + c) 0 ∙ ap (λ (i : ℕ). get_or xs i 0) (omega arith))

pub cell_take : (n m : ℕ) (xs : List ℕ) → cell n m (take (n * m) xs) ≡ cell n m xs
cell_take n m xs = same_cells n m (take (n * m) xs) xs (λ g c l k. get_or-take (n * m) xs (g * m + c) 0 (cell_index n m g c l k))

-- a list of ones
pub cell_ones : (n m : ℕ) → n ≤ 8 → m ≤ 16 → cell n m (replicate 128 1) ≡ (λ g c. if ltb g n && ltb c m then 1 else 0)
unfolding cell
cell_ones n m h k = fun_ext (λ g. fun_ext (λ c. go g c (ltb g n) refl (ltb c m) refl))
  where
    go : (g c : ℕ) (s : Bool) → ltb g n ≡ s → (t : Bool) → ltb c m ≡ t → ◌≡◌ {A = ℕ} (if s && t then get_or (replicate 128 1) (g * m + c) 0 else 0) (if s && t then 1 else 0)
    go g c true e true q =
        get_or-replicate 128 (g * m + c) 1 0 (omega (arith, cell_index n m g c (ltb-true g n e) (ltb-true c m q), small))
      where
        small : n * m ≤ 128
        small = omega (arith, mul-le-mul_right m h, k)
    go g c true e false q = refl
    go g c false e t q = refl

-- a list of 128 numbers is long enough for any n and m
pub rows_of_128 : (xs : List ℕ) (n m : ℕ) → length xs ≡ 128 → n ≤ 8 → m ≤ 16 → RowsAt xs 0 n m
rows_of_128 xs n m e h k = record { fits = omega (arith, mul-le-mul h k); few_rows = h; few = k }
