-- What std says of a part of a list, said of its places. Assumes nothing.
use Rattle.std.specs.Prelude.{ℕ, zero, suc, ◌+◌, ◌-◌, ◌≤◌, ◌≡◌, refl, Bool, ◌||◌, List, take, drop, length, get_or}
use Rattle.std.specs.List as L
use Rattle.std.proofs.Common.{◌∙◌, ap, arith, length-take-le, length-drop, get_or-take, get_or-drop}
use Rattle.std.proofs.Math.Bool.{or-false}
use Rattle.std.proofs.lemmas.List.Sums.{sum_by_push}
use Rattle.std.proofs.lemmas.List.Folds.{list_any-append}
use Rattle.lists.specs.Sums.{sum}
use Rattle.lists.specs.Tests.{some}
use Rattle.lists.specs.Tables.{table}
use Rattle.lists.specs.Laws.TablesLaws.{is_table}

-- the places a to b, n of them
pub part_table : (xs : List ℕ) (a b n : ℕ) → b ≡ a + n → b ≤ length xs → take (b - a) (drop a xs) ≡ table n (λ i. get_or xs (a + i) 0)
part_table xs a b n e h =
    let m : b - a ≡ n = omega arith in
    rw m (is_table 0 n (λ i. get_or xs (a + i) 0) (take n (drop a xs)) (length-take-le n (drop a xs) (omega (arith, length-drop a xs))) (λ k l. get_or-take n (drop a xs) k 0 l ∙ get_or-drop a xs k 0))

pub sum_table : (n : ℕ) (f : ℕ → ℕ) → L.sum (table n f) ≡ sum n f
unfolding table sum
sum_table zero f = refl
sum_table (suc n) f = sum_by_push (λ x. x) (table n f) (f n) ∙ omega (arith, sum_table n f)

pub sum_part : (xs : List ℕ) (a b n : ℕ) → b ≡ a + n → b ≤ length xs → L.sum (take (b - a) (drop a xs)) ≡ sum n (λ i. get_or xs (a + i) 0)
sum_part xs a b n e h = ap L.sum (part_table xs a b n e h) ∙ sum_table n (λ i. get_or xs (a + i) 0)

any_table : (p : ℕ → Bool) (n : ℕ) (f : ℕ → ℕ) → L.list_any p (table n f) ≡ some n (λ i. p (f i))
unfolding table some
any_table p zero f = refl
any_table p (suc n) f = list_any-append p (table n f) _ ∙ rw (any_table p n f) (ap (λ (t : Bool). some n (λ i. p (f i)) || t) (or-false (p (f n))))

pub any_part : (p : ℕ → Bool) (xs : List ℕ) (a b n : ℕ) → b ≡ a + n → b ≤ length xs → L.list_any p (take (b - a) (drop a xs)) ≡ some n (λ i. p (get_or xs (a + i) 0))
any_part p xs a b n e h = ap (L.list_any p) (part_table xs a b n e h) ∙ any_table p n (λ i. get_or xs (a + i) 0)
