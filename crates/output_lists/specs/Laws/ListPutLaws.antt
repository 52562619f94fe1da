-- A stretch lent to the call that fills it comes back as a list put there. Assumes nothing.
use Rattle.std.specs.Prelude.{ℕ, ◌+◌, ◌-◌, ◌≤◌, ◌<◌, ◌≡◌, List, ◌++◌, length, get_or, take, drop}
use Rattle.std.proofs.Common.{ap, ◌∙◌, arith, length-take-le, get_or-take, get_or-drop, get_or-append-add}
use Rattle.std.proofs.Math.ListN.{get_or-append}
use borrow.Rule.Slice.PartMut.{put_mid, mid_of, post_of, mid_len}
use Rattle.lists.specs.Tables.{table}
use Rattle.lists.specs.Laws.TablesLaws.{length_table}
use Rattle.output_lists.specs.Laws.ListPut.{Put}

pub lent_put : {a k : ℕ} {zs xs ys : List ℕ} → ys ≡ zs → length zs ≡ k → Put a k zs xs (put_mid a (a + k - a) xs ys)
lent_put {a} {k} {zs} {xs} {ys} e l =
    let z : a + k - a ≡ k = omega arith in
    record { size = l; is = ap (λ (i : ℕ). put_mid a i xs ys) z ∙ ap (λ (v : List ℕ). put_mid a k xs v) e }

-- a list of as many numbers as the stretch has
pub lent_list : {a n : ℕ} {xs ys : List ℕ} (f : ℕ → ℕ) →
    ys ≡ table (length (mid_of a (a + n - a) xs)) f → a + n ≤ length xs → Put a n (table n f) xs (put_mid a (a + n - a) xs ys)
lent_list {a} {n} {xs} f e l =
    let s : length (mid_of a (a + n - a) xs) ≡ n = mid_len a (a + n) xs l ∙ omega arith in
    lent_put (e ∙ ap (λ (i : ℕ). table i f) s) (length_table n f)

-- ---- the places of a slice whose stretch has come back as ys

pub put_within : (a k : ℕ) (xs ys : List ℕ) (i : ℕ) → a ≤ length xs → i < length ys → get_or (put_mid a k xs ys) (a + i) 0 ≡ get_or ys i 0
put_within a k xs ys i h l =
    let e : a + i ≡ length (take a xs) + i = omega (arith, length-take-le a xs h) in
    ap (λ (j : ℕ). get_or (put_mid a k xs ys) j 0) e ∙ get_or-append-add (take a xs) (ys ++ post_of a k xs) i 0 ∙ get_or-append ys (post_of a k xs) 0 i l

pub put_before : (a k : ℕ) (xs ys : List ℕ) (i : ℕ) → a ≤ length xs → i < a → get_or (put_mid a k xs ys) i 0 ≡ get_or xs i 0
put_before a k xs ys i h l = get_or-append (take a xs) (ys ++ post_of a k xs) 0 i (omega (arith, length-take-le a xs h)) ∙ get_or-take a xs i 0 l

pub put_after : (a k : ℕ) (xs ys : List ℕ) (i : ℕ) → a ≤ length xs → length ys ≡ k → a + k ≤ i → get_or (put_mid a k xs ys) i 0 ≡ get_or xs i 0
put_after a k xs ys i h e l =
    let j : ℕ = i - (a + k) in
    let q : i ≡ length (take a xs) + (length ys + j) = omega (arith, length-take-le a xs h) in
    let r : a + (k + j) ≡ i = omega arith in
    ap (λ (z : ℕ). get_or (put_mid a k xs ys) z 0) q ∙ get_or-append-add (take a xs) (ys ++ post_of a k xs) (length ys + j) 0 ∙
    get_or-append-add ys (post_of a k xs) j 0 ∙ get_or-drop k (drop a xs) j 0 ∙ get_or-drop a xs (k + j) 0 ∙ ap (λ (z : ℕ). get_or xs z 0) r
