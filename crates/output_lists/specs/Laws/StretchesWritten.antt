-- A slice written stretch by stretch, each lent to the call that fills it: in the end it holds the lists one after the other. Assumes nothing.
use Rattle.std.specs.Prelude.{ℕ, zero, suc, ◌+◌, ◌-◌, ◌≤◌, ◌<◌, ◌≡◌, refl, List, [], ◌∷◌, ◌++◌, length, get_or, take, drop}
use Rattle.std.proofs.Common.{ap, sym, ◌∙◌, append_assoc, append-nil, arith, length-append, length-drop, drop_of_length-le, take_at, drop_at, drop-drop}
use borrow.Rule.Slice.PartMut.{put_mid}
use Rattle.lists.specs.Tables.{table}
use Rattle.lists.specs.Laws.TablesLaws.{length_table, get_or_table, take_table, table_same}
use Rattle.lists.specs.Pairs.{place, pairs, joined}
use Rattle.lists.specs.Laws.PairsLaws.{place_in}
use Rattle.output_lists.specs.Laws.ListPut.{Put}

-- The first a places of a slice that was o are written, with the lists ps; xs is the slice now.
pub record Written (o : List ℕ) (a : ℕ) (ps : List (List ℕ)) (xs : List ℕ) : Type 0 where
  pub size : length (joined ps) ≡ a
  pub is : xs ≡ joined ps ++ drop a o

pub joined_more : (ps : List (List ℕ)) (ys : List ℕ) → joined (ps ++ (ys ∷ [])) ≡ joined ps ++ ys
unfolding joined
joined_more [] ys = append-nil ys
joined_more (p ∷ ps) ys = rw (joined_more ps ys) (sym (append_assoc p (joined ps) ys))

pub written_none : (o : List ℕ) → Written o 0 [] o
unfolding joined
written_none [] = record { size = refl; is = refl }
written_none (x ∷ o) = record { size = refl; is = refl }

-- the places from a to b were lent and came back as ys, which is the list zs
pub written_more : {o : List ℕ} {a : ℕ} {ps : List (List ℕ)} {xs ys zs : List ℕ} (b : ℕ) →
    Written o a ps xs → ys ≡ zs → a + length zs ≡ b → Written o b (ps ++ (zs ∷ [])) (put_mid a (b - a) xs ys)
written_more {o} {a} {ps} {xs} {ys} {zs} b h e l =
    let z : a + (b - a) ≡ b = omega arith in
    record {
      size = rw joined_more (simp length-append (omega (arith, h.size)));
      is =
          rw (e, h.is, take_at (joined ps) (drop a o) a h.size, drop_at (joined ps) (drop a o) a h.size, drop-drop (b - a) a o, z, joined_more)
          (sym (append_assoc (joined ps) zs (drop b o)));
    }

pub written_length : {o : List ℕ} {a : ℕ} {ps : List (List ℕ)} {xs : List ℕ} → Written o a ps xs → a ≤ length o → length xs ≡ length o
written_length {o} {a} {ps} {xs} h l = ap length h.is ∙ simp (length-append, length-drop) (omega (arith, h.size))

pub written_all : {o : List ℕ} {a : ℕ} {ps : List (List ℕ)} {xs : List ℕ} → Written o a ps xs → length o ≡ a → xs ≡ joined ps
written_all {o} {a} {ps} {xs} h e = h.is ∙ rw (drop_of_length-le o {i = a} (omega arith), append-nil)

-- a call that put its list where the written places end
pub written_put : {o : List ℕ} {a b k : ℕ} {ps : List (List ℕ)} {zs xs ys : List ℕ} →
    Written o a ps xs → Put b k zs xs ys → b ≡ a → Written o (b + k) (ps ++ (zs ∷ [])) ys
written_put {o} {a} {b} {k} {ps} {zs} {xs} {ys} h p e =
    let z : b + k - a ≡ k = omega arith in
    let q : put_mid b k xs zs ≡ put_mid a (b + k - a) xs zs = ap (λ (i : ℕ). put_mid i k xs zs) e ∙ ap (λ (i : ℕ). put_mid a i xs zs) (sym z) in
    let r : Written o (b + k) (ps ++ (zs ∷ [])) (put_mid a (b + k - a) xs zs) = written_more (b + k) h refl (omega (arith, p.size)) in
    record { size = r.size; is = p.is ∙ q ∙ r.is }

-- they came back as a copy of the first k numbers of zs; no proof needs it
pub written_copied : {o : List ℕ} {a : ℕ} {ps : List (List ℕ)} {xs ys : List ℕ} (b k : ℕ) (zs : List ℕ) →
    Written o a ps xs → ys ≡ take k zs → k ≤ length zs → a + k ≡ b → Written o b (ps ++ (table k (λ i. get_or zs i 0) ∷ [])) (put_mid a (b - a) xs ys)
written_copied b k zs h e l s = written_more b h (e ∙ take_table 0 k zs l) (omega (arith, length_table k (λ i. get_or zs i 0)))

-- ---- the lists in the words of a caller

pub pairs_same : (n w : ℕ) (f h : ℕ → ℕ → ℕ) → ((g c : ℕ) → g < n → c < w → f g c ≡ h g c) → pairs n w f ≡ pairs n w h
unfolding pairs
pairs_same zero w f h e = refl
pairs_same (suc n) w f h e =
    rw (pairs_same n w f h (λ g c l. e g c (omega arith)), table_same w (f n) (h n) (λ c. e n c (omega arith))) refl

-- the first n of m numbers, as places and as the rule of a table
pub list_places : (n m : ℕ) (xs : List ℕ) → n ≤ m → table n (λ i. get_or xs i 0) ≡ table n (place m xs)
list_places n m xs l = table_same n (λ i. get_or xs i 0) (place m xs) (λ i k. sym (place_in m xs i (omega arith)))

pub list_table : (n m : ℕ) (f : ℕ → ℕ) → n ≤ m → table n (λ i. get_or (table m f) i 0) ≡ table n f
list_table n m f l = table_same n (λ i. get_or (table m f) i 0) f (λ i k. get_or_table m f i 0 (omega arith))
