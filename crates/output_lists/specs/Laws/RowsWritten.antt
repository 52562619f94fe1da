-- The laws by which a loop that writes a pair list row by row is proved. Assumes nothing.
use Rattle.std.specs.Prelude.{ℕ, zero, suc, ◌+◌, ◌*◌, ◌-◌, ◌≤◌, ◌<◌, ◌≡◌, refl, List, length, get_or, drop}
use Rattle.std.proofs.Common.{ap, sym, ◌∙◌, add-one, mul-le-mul, mul-le-mul_right, suc-mul, arith, get_or-take, get_or-drop}
use borrow.Rule.Slice.PartMut.{put_mid, mid_of, mid_len}
use Rattle.lists.specs.Tables.{table}
use Rattle.lists.specs.Laws.TablesLaws.{length_table, table_same}
use Rattle.lists.specs.Pairs.{cell, pairs, joined}
use Rattle.lists.specs.Laws.PairsLaws.{cell_in}
use Rattle.output_lists.specs.Laws.StretchesWritten.{Written, joined_more, written_none, written_more, written_length, written_all}

-- rows one after the other are a pair list
joined_rows : (n w : ℕ) (f : ℕ → ℕ → ℕ) → joined (table n (λ g. table w (f g))) ≡ pairs n w f
unfolding joined table pairs
joined_rows zero w f = refl
joined_rows (suc n) w f = joined_more (table n (λ g. table w (f g))) (table w (f n)) ∙ rw (joined_rows n w f)

-- The invariant of a loop that writes n rows of w into a slice that was o: g rows are written, at numbers, and xs is the slice now.
pub record WritingRows (n w : ℕ) (f : ℕ → ℕ → ℕ) (o : List ℕ) (g at : ℕ) (xs : List ℕ) : Type 0 where
  pub within : g ≤ n
  pub whole : length o ≡ n * w
  pub stands : at ≡ g * w
  pub written : Written o at (table g (λ j. table w (f j))) xs

pub rows_start : {n w : ℕ} {f : ℕ → ℕ → ℕ} {o : List ℕ} → length o ≡ n * w → WritingRows n w f o 0 0 o
unfolding table
rows_start {n} {w} {f} {o} h = record { within = omega arith; whole = h; stands = omega arith; written = written_none o }

-- the next row has its place in the slice
pub row_fits : {n w : ℕ} {f : ℕ → ℕ → ℕ} {o : List ℕ} {g at : ℕ} {xs : List ℕ} → WritingRows n w f o g at xs → g < n → at + w ≤ length o
row_fits {n} {w} {g} h l = omega (arith, mul-le-mul_right w l, suc-mul g w, h.whole, h.stands)

pub row_small : {n w : ℕ} {f : ℕ → ℕ → ℕ} {o : List ℕ} {g at : ℕ} {xs : List ℕ} →
    WritingRows n w f o g at xs → g < n → n ≤ 8 → w ≤ 16 → at + w ≤ 128
row_small h l p q = omega (arith, row_fits h l, h.whole, mul-le-mul p q)

pub rows_length : {n w : ℕ} {f : ℕ → ℕ → ℕ} {o : List ℕ} {g at : ℕ} {xs : List ℕ} → WritingRows n w f o g at xs → length xs ≡ length o
rows_length {n} {w} {g} h = written_length h.written (omega (arith, mul-le-mul_right w h.within, h.whole, h.stands))

-- the next row's stretch ends within the slice, and is small; no proof needs it
pub row_room : {n w : ℕ} {f : ℕ → ℕ → ℕ} {o : List ℕ} {g at : ℕ} {xs : List ℕ} →
    WritingRows n w f o g at xs → g < n → n ≤ 8 → w ≤ 16 → (at + w ≤ 128) × (at + w ≤ length xs)
row_room h l p q = (row_small h l p q, omega (arith, row_fits h l, rows_length h))

-- the row's stretch was lent and came back as ys
pub rows_put : {n w : ℕ} {f : ℕ → ℕ → ℕ} {o : List ℕ} {g at : ℕ} {xs ys : List ℕ} →
    WritingRows n w f o g at xs → g < n → ys ≡ table w (f g) → WritingRows n w f o (g + 1) (at + w) (put_mid at (at + w - at) xs ys)
unfolding table
rows_put {n} {w} {f} {o} {g} {at} r l e =
    record {
      within = omega arith;
      whole = r.whole;
      stands = rw add-one (omega (arith, suc-mul g w, r.stands));
      written = rw add-one (written_more (at + w) r.written e (omega (arith, length_table w (f g))));
    }

-- it came back as a copy of a list whose first w numbers are the row's; no proof needs it
pub rows_step : {n w : ℕ} {f : ℕ → ℕ → ℕ} {o : List ℕ} {g at : ℕ} {xs ys : List ℕ} (h : ℕ → ℕ) →
    WritingRows n w f o g at xs → g < n → ys ≡ table (length (mid_of at (at + w - at) xs)) h → table w h ≡ table w (f g) →
    WritingRows n w f o (g + 1) (at + w) (put_mid at (at + w - at) xs ys)
rows_step {w = w} {at = at} {xs} h r l e s =
    let size : length (mid_of at (at + w - at) xs) ≡ w = mid_len at (at + w) xs (omega (arith, row_fits r l, rows_length r)) ∙ omega arith in
    rows_put r l (e ∙ ap (λ (i : ℕ). table i h) size ∙ s)

pub rows_done : {n w : ℕ} {f : ℕ → ℕ → ℕ} {o : List ℕ} {g at : ℕ} {xs : List ℕ} → WritingRows n w f o g at xs → n ≤ g → xs ≡ pairs n w f
rows_done {n} {w} {f} {o} {g} {at} {xs} r l =
    let p : g ≡ n = omega (arith, r.within) in
    let q : at ≡ n * w = r.stands ∙ ap (λ (i : ℕ). i * w) p in
    written_all r.written (r.whole ∙ sym q) ∙ joined_rows g w f ∙ ap (λ (i : ℕ). pairs i w f) p

-- row g of a pair list of 8 rows of 16, read from the stretch that holds it; no proof needs it
pub row_copied : (m : List ℕ) (g w : ℕ) → g < 8 → w ≤ 16 →
    table w (λ i. get_or (mid_of (g * 16) (g * 16 + w - g * 16) m) i 0) ≡ table w (cell 8 16 m g)
row_copied m g w l k =
    table_same w (λ i. get_or (mid_of (g * 16) (g * 16 + w - g * 16) m) i 0) (cell 8 16 m g)
    (λ i j.
    get_or-take (g * 16 + w - g * 16) (drop (g * 16) m) i 0 (omega arith) ∙ get_or-drop (g * 16) m i 0 ∙ sym (cell_in 8 16 m g i l (omega arith)))
