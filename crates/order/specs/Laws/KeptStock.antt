-- Settling of stock that is kept in a column of a list, and the laws by which its loop is proved. Assumes nothing.
use Rattle.std.specs.Prelude.{ℕ, ◌+◌, ◌-◌, ◌*◌, ◌/◌, ◌%◌, ◌≤◌, ◌<◌, min, ◌≡◌, refl, Bool, List, [], ◌∷◌, length, get_or, set, replicate, if◌then◌else◌}
use Rattle.std.proofs.Common.{sym, ap, ◌∙◌, mul-le-mul, arith, eqb-true, length-set}
use Rattle.std.proofs.Math.Path.{fun_ext}
use Rattle.std.proofs.Math.Bool.{true, false}
use Rattle.std.proofs.lemmas.Bool.{eqb-false}
use Rattle.std.proofs.Math.Dec.{eqb}
use Rattle.std.proofs.lemmas.List.{length-replicate}
use Rattle.std.proofs.Math.Seq.{get_or-set_same, get_or-set_other}
use Rattle.lists.specs.Laws.TablesLaws.{zeros_at}
use Rattle.lists.specs.Laws.PairsLaws.{row_of, column_of_lem, cell_index}
use Rattle.order_rules.specs.Laws.Members.{Below}
use Rattle.order_rules.specs.Settle.{Rest, lower, settle, given, kept, unmet}
use Rattle.order.specs.Laws.KeptOrder.{turns_in}

-- column c of a list of rows of m numbers
unfoldable pub column : (m c : ℕ) → List ℕ → ℕ → ℕ
column m c list g = get_or list (g * m + c) 0

-- what settling in place starts from: each turn is of a row that the list has, and nothing is taken
pub record Stocked (turns list : List ℕ) (m c : ℕ) (taken : List ℕ) : Type 0 where
  pub rows : ℕ
  pub whole : length list ≡ rows * m
  pub below : Below rows (turns_in turns)
  pub narrow : m ≤ 16
  pub within : c < m
  pub nothing : taken ≡ replicate 8 0

-- Those of gs, in their order, gave of column c to one who wanted `want`: what each of eight gave, what the column keeps, and what nobody
-- gives. The other columns stay.
pub record ColumnSettled (gs : List ℕ) (m c want : ℕ) (list list' taken : List ℕ) (left : ℕ) : Type 0 where
  pub room : length taken ≡ 8
  pub taken_is : (g : ℕ) → g < 8 → get_or taken g 0 ≡ given gs (column m c list) want g
  pub kept_is : column m c list' ≡ kept gs (column m c list) want
  pub left_is : left ≡ unmet gs (column m c list) want
  pub size : length list' ≡ length list
  pub other : (g x : ℕ) → x < m → (x ≡ c → ⊥) → get_or list' (g * m + x) 0 ≡ get_or list (g * m + x) 0

-- The invariant of the loop that settles: those of `rest` have not had their turn.
pub record Settling (turns : List ℕ) (m c want : ℕ) (stock rest list taken : List ℕ) (left : ℕ) : Type 0 where
  pub is : settle (turns_in turns) (column m c stock) want ≡ settle (turns_in rest) (column m c list) left
  pub rows : ℕ
  pub whole : length stock ≡ rows * m
  pub below : Below rows (turns_in rest)
  pub size : length list ≡ length stock
  pub room : length taken ≡ 8
  pub both : (g : ℕ) → get_or taken g 0 + column m c list g ≡ column m c stock g
  pub other : (g x : ℕ) → x < m → (x ≡ c → ⊥) → get_or list (g * m + x) 0 ≡ get_or stock (g * m + x) 0

pub settle_start : {turns stock taken : List ℕ} {m c want : ℕ} → Stocked turns stock m c taken → Settling turns m c want stock turns stock taken want
settle_start h =
    record {
      is = refl;
      rows = h.rows;
      whole = h.whole;
      below = h.below;
      size = refl;
      room = ap length h.nothing ∙ length-replicate {A = ℕ} 8 0;
      both = λ g. rw (h.nothing, zeros_at 8 g) (omega arith);
      other = λ g x l ne. refl;
    }

module _ (m c : ℕ) (within : c < m) where
  -- a place of the column is of one row only, and of no other column
  same_row : (g k : ℕ) → g * m + c ≡ k * m + c → g ≡ k
  same_row g k q = sym (row_of m g c within) ∙ ap (λ (i : ℕ). i / m) q ∙ row_of m k c within

  same_column : (g x k : ℕ) → x < m → g * m + x ≡ k * m + c → x ≡ c
  same_column g x k l q = sym (column_of_lem m g x l) ∙ ap (λ (i : ℕ). i % m) q ∙ column_of_lem m k c within

  module _ (list : List ℕ) (g x : ℕ) (fits : g * m + c < length list) where
    gave : List ℕ
    gave = set list (g * m + c) (get_or list (g * m + c) 0 - x)

    gave_here : column m c gave g ≡ column m c list g - x
    unfolding column gave
    gave_here = get_or-set_same list (g * m + c) (get_or list (g * m + c) 0 - x) 0 fits

    gave_there : (k : ℕ) → (k ≡ g → ⊥) → column m c gave k ≡ column m c list k
    unfolding column gave
    gave_there k ne = get_or-set_other list (g * m + c) (k * m + c) (get_or list (g * m + c) 0 - x) 0 (λ q. ne (same_row k g q))

    -- the column after one giver's turn
    gave_lower : column m c gave ≡ lower (column m c list) g x
    unfolding lower
    gave_lower = fun_ext (λ k. go k (eqb k g) refl)
      where
        go : (k : ℕ) (t : Bool) → eqb k g ≡ t → column m c gave k ≡ (if t then column m c list k - x else column m c list k)
        go k true e = rw (eqb-true k g e) gave_here
        go k false e = gave_there k (eqb-false k g e)

-- the generator whose key is k
abbrev pub giver : ℕ → ℕ
giver k = k % 8

-- where its row starts, of rows of at most 16 numbers: a bound that no proof needs
pub giver_low : (k m : ℕ) → m ≤ 16 → giver k * m ≤ 128
giver_low k m l = let few : giver k ≤ 8 = omega arith in mul-le-mul few l

-- what one has given in all is no more than it had
pub giver_had : {turns stock rest list taken : List ℕ} {m c want left : ℕ} → Settling turns m c want stock rest list taken left →
    (g x : ℕ) → x ≤ get_or list (g * m + c) 0 → get_or taken g 0 + x ≤ get_or stock (g * m + c) 0
unfolding column
giver_had h g x l = omega (arith, h.both g)

-- the turn of the one whose key is k comes next
module _ {turns stock rest list taken : List ℕ} {m c want left k : ℕ} (h : Settling turns m c want stock (k ∷ rest) list taken left) where
  abbrev pub now_gives : ℕ
  now_gives = giver k

  pub giver_fits : c < m → now_gives * m + c < length list
  giver_fits b = omega (arith, h.size, h.whole, cell_index h.rows m now_gives c h.below.0 b)

  pub settle_step : {x : ℕ} → c < m → x ≡ min (get_or list (now_gives * m + c) 0) left →
      Settling turns m c want stock rest (set list (now_gives * m + c) (get_or list (now_gives * m + c) 0 - x)) (set taken now_gives (get_or taken now_gives 0 + x)) (left - x)
  unfolding settle column gave
  settle_step {x} b q =
      let fits = giver_fits b in
      record {
        is = rw (gave_lower m c b list now_gives x fits, q) h.is;
        rows = h.rows;
        whole = h.whole;
        below = h.below.1;
        size = length-set list (now_gives * m + c) (get_or list (now_gives * m + c) 0 - x) ∙ h.size;
        room = length-set taken now_gives (get_or taken now_gives 0 + x) ∙ h.room;
        both = λ j. go j fits q (eqb j now_gives) refl;
        other = λ j y w ne. get_or-set_other list (now_gives * m + c) (j * m + y) (get_or list (now_gives * m + c) 0 - x) 0 (λ r. ne (same_column m c b j y now_gives w r)) ∙ h.other j y w ne;
      }
    where
      go : (j : ℕ) (fits : now_gives * m + c < length list) → x ≡ min (get_or list (now_gives * m + c) 0) left → (t : Bool) → eqb j now_gives ≡ t →
          get_or (set taken now_gives (get_or taken now_gives 0 + x)) j 0 + column m c (gave m c b list now_gives x fits) j ≡ column m c stock j
      go j fits was true e =
          rw (eqb-true j now_gives e)
          (omega (arith, get_or-set_same taken now_gives (get_or taken now_gives 0 + x) 0 (omega (arith, h.room)), gave_here m c b list now_gives x fits, h.both now_gives))
      go j fits was false e =
          let ne = eqb-false j now_gives e in
          omega (arith, get_or-set_other taken now_gives j (get_or taken now_gives 0 + x) 0 ne, gave_there m c b list now_gives x fits j ne, h.both j)

pub settle_done : {turns stock list taken : List ℕ} {m c want left : ℕ} → Settling turns m c want stock [] list taken left → ColumnSettled (turns_in turns) m c want stock list taken left
unfolding settle given kept unmet
settle_done {turns} {stock} {list} {m = m} {c} {want} h =
    let rest : (settle (turns_in turns) (column m c stock) want).has ≡ column m c list = ap (λ (r : Rest). r.has) h.is in
    record {
      room = h.room;
      taken_is = λ g b. omega (arith, h.both g, ap (λ (f : ℕ → ℕ). f g) rest);
      kept_is = sym rest;
      left_is = sym (ap (λ (r : Rest). r.want) h.is);
      size = h.size;
      other = h.other;
    }
