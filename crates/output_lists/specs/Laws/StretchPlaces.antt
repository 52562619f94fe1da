-- A slice of which one stretch was lent, place by place. Assumes nothing.
use Rattle.std.specs.Prelude.{ℕ, ◌+◌, ◌-◌, ◌≤◌, ◌<◌, ◌≡◌, List, length, get_or}
use Rattle.std.proofs.Common.{sym, ap, ◌∙◌, arith}
use borrow.Rule.Slice.PartMut.{put_mid, mid_len, same_len_mid}
use Rattle.output_lists.specs.Laws.ListPut.{Put}
use Rattle.output_lists.specs.Laws.ListPutLaws.{put_within, put_before, put_after}

-- lent from place a to place b, it came back as zs
pub lent_from : {a k : ℕ} {zs xs ys : List ℕ} (b : ℕ) → b - a ≡ k → ys ≡ zs → length zs ≡ k → Put a k zs xs (put_mid a (b - a) xs ys)
lent_from {a} {k} {zs} {xs} {ys} b z e l = record { size = l; is = ap (λ (i : ℕ). put_mid a i xs ys) z ∙ ap (λ (v : List ℕ). put_mid a k xs v) e }

module _ {a k : ℕ} {zs xs ys : List ℕ} (p : Put a k zs xs ys) (room : a + k ≤ length xs) where
  pub stretch_here : (i : ℕ) → i < k → get_or ys (a + i) 0 ≡ get_or zs i 0
  stretch_here i l = ap (λ (t : List ℕ). get_or t (a + i) 0) p.is ∙ put_within a k xs zs i (omega arith) (omega (arith, p.size))

  pub stretch_before : (i : ℕ) → i < a → get_or ys i 0 ≡ get_or xs i 0
  stretch_before i l = ap (λ (t : List ℕ). get_or t i 0) p.is ∙ put_before a k xs zs i (omega arith) l

  pub stretch_after : (i : ℕ) → a + k ≤ i → get_or ys i 0 ≡ get_or xs i 0
  stretch_after i l = ap (λ (t : List ℕ). get_or t i 0) p.is ∙ put_after a k xs zs i (omega arith) p.size l

  pub stretch_size : length ys ≡ length xs
  stretch_size =
      let z : a + k - a ≡ k = omega arith in
      ap length p.is ∙ same_len_mid a k xs zs (p.size ∙ sym (rw z at (mid_len a (a + k) xs room)))
