-- The laws by which columns of a list, and of a stretch that holds one, are put. Assumes nothing.
use Rattle.std.specs.Prelude.{ℕ, ◌+◌, ◌-◌, ◌*◌, ◌/◌, ◌%◌, ◌≤◌, ◌<◌, ◌≡◌, refl, List, length, get_or, drop, set}
use Rattle.std.proofs.Common.{sym, ap, ◌∙◌, ⊎_elim, eq-or-lt_of_le, mul-le-mul, arith, length-set, get_or-set_same, get_or-set_other, get_or-take, get_or-drop}
use borrow.Rule.Slice.PartMut.{mid_of, put_mid, mid_len, same_len_mid}
use Rattle.lists.specs.Pairs.{pairs}
use Rattle.lists.specs.Laws.PairsLaws.{row_of, column_of_lem, cell_index}
use Rattle.output_lists.specs.Laws.Stretches.{pairs_is}
use Rattle.output_lists.specs.Laws.ListPutLaws.{put_within, put_before, put_after}
use Rattle.output_lists.specs.Laws.Columns.{ColumnPut, ColumnNow, ColumnAt, Columns}

pub put_start : {n w : ℕ} {m : List ℕ} {c : ℕ} {xs : List ℕ} → length m ≡ n * w → ColumnPut n w m c xs 0 m
put_start z = record { size = z; here = λ g l. absurd (omega arith); other = λ g x l b e. refl }

pub put_step : {n w : ℕ} {m m' : List ℕ} {c : ℕ} {xs : List ℕ} {k v : ℕ} →
    ColumnPut n w m c xs k m' → c < w → k < n → v ≡ get_or xs k 0 → ColumnPut n w m c xs (k + 1) (set m' (k * w + c) v)
put_step {n} {w} {m} {m'} {c} {xs} {k} {v} h a b e =
    record {
      size = length-set m' (k * w + c) v ∙ h.size;
      here = λ g l.
          ⊎_elim
          (λ (q : g ≡ k). rw q (get_or-set_same m' (k * w + c) v 0 (omega (arith, h.size, cell_index n w k c b a)) ∙ e))
          (λ (o : g < k). get_or-set_other m' (k * w + c) (g * w + c) v 0 (λ q. omega (arith, o, same_row g c k q a)) ∙ h.here g o)
          (eq-or-lt_of_le (omega arith));
      other = λ g x l y ne. get_or-set_other m' (k * w + c) (g * w + x) v 0 (λ q. ne (same_column g x k q y)) ∙ h.other g x l y ne;
    }
  where
    same_row : (g x k : ℕ) → g * w + x ≡ k * w + c → x < w → g ≡ k
    same_row g x k q l = sym (row_of w g x l) ∙ ap (λ (i : ℕ). i / w) q ∙ row_of w k c a

    same_column : (g x k : ℕ) → g * w + x ≡ k * w + c → x < w → x ≡ c
    same_column g x k q l = sym (column_of_lem w g x l) ∙ ap (λ (i : ℕ). i % w) q ∙ column_of_lem w k c a

pub put_now : {n w : ℕ} {m m' : List ℕ} {c : ℕ} {xs : List ℕ} → ColumnPut n w m c xs n m' → ColumnNow n w c (λ g. get_or xs g 0) m m'
put_now h = record { size = h.size; here = h.here; other = h.other }

-- a place of a list of at most 8 rows of 16; no proof needs it
pub record Spot (n w g c : ℕ) : Type 0 where
  pub row : g * w ≤ 128
  pub within : g * w + c < n * w

pub spot : (n w g c : ℕ) → g < n → n ≤ 8 → w ≤ 16 → c < w → Spot n w g c
spot n w g c l h k b =
    let few : g ≤ 8 = omega arith in
    let rows_few : g * w ≤ 8 * 16 = mul-le-mul few k in
    record { row = omega (arith, rows_few); within = cell_index n w g c l b }

-- ---- where the list is the stretch of a slice from place o on and before place e

module _ (n w o e c : ℕ) (whole : o + n * w ≡ e) (in-column : c < w) where
  width : e - o ≡ n * w
  width = omega (arith, whole)

  pub stretch_at : (out : List ℕ) (g x : ℕ) → g < n → x < w → get_or (mid_of o (e - o) out) (g * w + x) 0 ≡ get_or out (o + (g * w + x)) 0
  stretch_at out g x l b = get_or-take (e - o) (drop o out) (g * w + x) 0 (omega (arith, width, cell_index n w g x l b)) ∙ get_or-drop o out (g * w + x) 0

  -- the stretch was lent, and came back with another column c; no proof needs it
  pub column_lent : {f : ℕ → ℕ} {out ys : List ℕ} → e ≤ length out → ColumnNow n w c f (mid_of o (e - o) out) ys → ColumnAt n w o c f out (put_mid o (e - o) out ys)
  column_lent {f} {out} {ys} fits h =
      let from : o ≤ length out = omega (arith, whole, fits) in
      let size : length ys ≡ e - o = omega (arith, h.size, width) in
      let at : (g x : ℕ) → g < n → x < w → get_or (put_mid o (e - o) out ys) (o + (g * w + x)) 0 ≡ get_or ys (g * w + x) 0 =
      λ g x l b. put_within o (e - o) out ys (g * w + x) from (omega (arith, h.size, cell_index n w g x l b)) in
      record {
        size = same_len_mid o (e - o) out ys (omega (arith, size, mid_len o e out fits));
        here = λ g l. at g c l in-column ∙ h.here g l;
        other = λ g x l b ne. at g x l b ∙ h.other g x l b ne ∙ stretch_at out g x l b;
        before = λ k l. put_before o (e - o) out ys k from l;
        after = λ k l. put_after o (e - o) out ys k from size (omega (arith, width));
      }

-- ---- a list that is filled column by column

pub columns_start : {n w : ℕ} {f : ℕ → ℕ → ℕ} {m : List ℕ} → length m ≡ n * w → Columns n w f 0 m
columns_start z = record { size = z; done = λ g x l b. absurd (omega arith) }

pub columns_step : {n w : ℕ} {f : ℕ → ℕ → ℕ} {m m' : List ℕ} {c : ℕ} {xs : List ℕ} →
    Columns n w f c m → c < w → ColumnPut n w m c xs n m' → ((g : ℕ) → g < n → get_or xs g 0 ≡ f g c) → Columns n w f (c + 1) m'
columns_step {c = c} h a p e =
    record {
      size = p.size;
      done = λ g x l b.
          ⊎_elim
          (λ (q : x ≡ c). rw q (p.here g l ∙ e g l))
          (λ (w : x < c). p.other g x l (omega arith) (λ q. omega arith) ∙ h.done g x l w)
          (eq-or-lt_of_le (omega arith));
    }

pub columns_pairs : {n w : ℕ} {f : ℕ → ℕ → ℕ} {m : List ℕ} → Columns n w f w m → m ≡ pairs n w f
columns_pairs {n} {w} {f} {m} h = pairs_is n w f m h.size h.done
