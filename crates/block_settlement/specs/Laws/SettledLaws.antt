-- The consumers of a block settled one after the other, each list of the output by itself. Assumes nothing.
use Rattle.std.specs.Prelude.{ℕ, ◌+◌, ◌-◌, ◌*◌, ◌≤◌, ◌<◌, ◌≡◌, refl, ◌⊎◌, List, ◌++◌, length, get_or, replicate, set}
use Rattle.std.proofs.lemmas.List.{append-nil}
use Rattle.lists.specs.Pairs.{joined}
use Rattle.lists.specs.Laws.TablesLaws.{is_table}
use Rattle.lists.specs.Laws.PairsLaws.{cell_index}
use Rattle.output_lists.specs.Laws.Stretches.{pairs_is}
use Rattle.block_rules.specs.Laws.DeliveredIn.{DeliveredIn}
use Rattle.std.proofs.Common.{ap, sym, ◌∙◌, ⊎_elim, eq-or-lt_of_le, arith, get_or-set_same, get_or-set_other}
use Rattle.order_rules.specs.Laws.Members.{Below, order_below}
use Rattle.order_rules.specs.Settle.{given, unmet}
use Rattle.order_rules.specs.Laws.SettleLaws.{kept_is}
use Rattle.order.specs.Laws.KeptOrder.{turns_in}
use Rattle.order.specs.Laws.KeptStock.{column, Stocked, ColumnSettled}
use Rattle.record.specs.Plan.{Plan, standing, order}
use Rattle.record_layout.specs.OnBytes.{plan_in}
use Rattle.record_order.specs.Laws.TurnsLaws.{turns_rows}
use Rattle.block_rules.specs.Delivery.{unaccounted, delivered, at_exit}
use Rattle.block_rules.specs.Settlement.{set_off, after_set_off, underdrawn, shortfall, remainder, block_lists, block_output}
use Rattle.output_lists.specs.Laws.Columns.{ColumnPut}
use Rattle.block_settlement.specs.Laws.SettlementLent.{Ranked}
use Rattle.block_settlement.specs.Laws.Settles.{SettlesAs, settles_as}
use Rattle.block_settlement.specs.Laws.SettledTo.{Whole, SettledTo, Remainders}

-- a list of n rows of m numbers in which a consumer is settled; nothing is taken yet
pub list_stocked : {s turns list : List ℕ} {n m c : ℕ} → Ranked s n m → c < m → turns_in turns ≡ order (plan_in s) c → length list ≡ n * m → Stocked turns list m c (replicate 8 0)
list_stocked {s} {turns} {n = n} {c = c} r l q z =
    record {
      rows = n;
      whole = z;
      below = turns_rows (plan_in s) c turns r.n_is q;
      narrow = r.m_high;
      within = l;
      nothing = refl;
    }

module _ (p : Plan) (E R : ℕ → ℕ) where
  -- Consumer c settled on what is delivered, then on what that is less than at exit; then what was taken is put.
  module _ {c left rest : ℕ} {setoff setoff' under under' taken short unused lent short' : List ℕ} (h : SettledTo p E R c setoff under short) (within : c < p.C) (few : p.G ≤ 8)
      (first : ColumnSettled (order p c) p.C c (R c) under under' taken left) (second : ColumnSettled (order p c) p.C c left short unused lent rest)
      (taken_put : ColumnPut p.G p.C setoff c taken p.G setoff') (lent_put : ColumnPut p.G p.C unused c lent p.G short') where
    below : Below p.G (order p c)
    unfolding order
    below = order_below (standing p c) p.G

    -- by the rules' own figures: rules 5 and 6 settle what is delivered, rule 7 what it is less than at exit
    delivering : SettlesAs p.G (order p c) (column p.C c under) (λ g. delivered p g (E g) c) (R c)
    unfolding column
    delivering = settles_as _ (λ g. delivered p g (E g) c) (R c) below (λ g l. h.delivered_is g c l within (omega arith))

    lacking : SettlesAs p.G (order p c) (column p.C c short) (λ g. at_exit p g (E g) c - delivered p g (E g) c) left
    unfolding column
    lacking = settles_as _ (λ g. at_exit p g (E g) c - delivered p g (E g) c) left below (λ g l. h.gap_is g c l within (omega arith))

    left_after : left ≡ after_set_off p E c (R c)
    unfolding after_set_off
    left_after = first.left_is ∙ delivering.unmet_is

    set_off_now : (g : ℕ) → g < p.G → get_or setoff' (g * p.C + c) 0 ≡ set_off p E c (R c) g
    unfolding set_off
    set_off_now g l = taken_put.here g l ∙ first.taken_is g (omega arith) ∙ delivering.given_is g l

    underdrawn_now : (g : ℕ) → g < p.G → get_or under' (g * p.C + c) 0 ≡ underdrawn p E c (R c) g
    unfolding column underdrawn set_off
    underdrawn_now g l = ap (λ (f : ℕ → ℕ). f g) first.kept_is ∙ delivering.kept_is g l ∙ kept_is (order p c) (λ g. delivered p g (E g) c) (R c) g

    shortfall_now : (g : ℕ) → g < p.G → get_or short' (g * p.C + c) 0 ≡ shortfall p E c (R c) g
    unfolding shortfall
    shortfall_now g l =
        lent_put.here g l ∙ second.taken_is g (omega arith) ∙ lacking.given_is g l ∙ ap (λ (w : ℕ). given (order p c) (λ g. at_exit p g (E g) c - delivered p g (E g) c) w g) left_after

    remainder_is : rest ≡ remainder p E c (R c)
    unfolding remainder
    remainder_is = second.left_is ∙ lacking.unmet_is ∙ ap (unmet (order p c) (λ g. at_exit p g (E g) c - delivered p g (E g) c)) left_after

    short_other : (g x : ℕ) → g < p.G → x < p.C → (x ≡ c → ⊥) → get_or short' (g * p.C + x) 0 ≡ get_or short (g * p.C + x) 0
    short_other g x k l ne = lent_put.other g x k l ne ∙ second.other g x l ne

    at_most : {x : ℕ} → x < c + 1 → (x ≡ c) ⊎ (x < c)
    at_most l = eq-or-lt_of_le (omega arith)

    one_more : SettledTo p E R (c + 1) setoff' under' short'
    one_more =
        record {
          whole = record { setoff_size = taken_put.size; under_size = first.size ∙ h.whole.under_size; short_size = lent_put.size };
          setoff_is = λ g x k l b. ⊎_elim (λ (q : x ≡ c). rw q (set_off_now g k)) (λ (o : x < c). taken_put.other g x k l (λ q. omega arith) ∙ h.setoff_is g x k l o) (at_most b);
          underdrawn_is = λ g x k l b. ⊎_elim (λ (q : x ≡ c). rw q (underdrawn_now g k)) (λ (o : x < c). first.other g x l (λ q. omega arith) ∙ h.underdrawn_is g x k l o) (at_most b);
          delivered_is = λ g x k l b. first.other g x l (λ q. omega arith) ∙ h.delivered_is g x k l (omega arith);
          shortfall_is = λ g x k l b. ⊎_elim (λ (q : x ≡ c). rw q (shortfall_now g k)) (λ (o : x < c). short_other g x k l (λ q. omega arith) ∙ h.shortfall_is g x k l o) (at_most b);
          gap_is = λ g x k l b. short_other g x k l (λ q. omega arith) ∙ h.gap_is g x k l (omega arith);
        }

  pub none_remain : {rests : List ℕ} → Remainders p E R 0 rests
  none_remain = record { is = λ c l. absurd (omega arith) }

  pub one_remains : {i x : ℕ} {rests : List ℕ} → Remainders p E R i rests → i < length rests → x ≡ remainder p E i (R i) → Remainders p E R (i + 1) (set rests i x)
  one_remains {i} {x} {rests} h l e =
      record {
        is = λ c b.
            ⊎_elim
            (λ (q : c ≡ i). rw q (get_or-set_same rests i x 0 l ∙ e))
            (λ (o : c < i). get_or-set_other rests i c x 0 (λ q. omega arith) ∙ h.is c o)
            (eq-or-lt_of_le (omega arith));
      }

-- one consumer more in the words of the code, which has the counts n and m, the reading, and the turns as keys
pub settled_in_turn : (p : Plan) (E R : ℕ → ℕ) (turns : List ℕ) {n m c read left rest : ℕ} {setoff setoff' under under' taken short unused lent short' : List ℕ} →
    n ≡ p.G → m ≡ p.C → n ≤ 8 → c < m → read ≡ R c → turns_in turns ≡ order p c →
    ColumnSettled (turns_in turns) m c read under under' taken left → ColumnSettled (turns_in turns) m c left short unused lent rest →
    ColumnPut n m setoff c taken n setoff' → ColumnPut n m unused c lent n short' →
    SettledTo p E R c setoff under short → SettledTo p E R (c + 1) setoff' under' short' × (rest ≡ remainder p E c (R c))
settled_in_turn p E R turns {c = c} en em few within read same first second taken_put lent_put h =
    let l : c < p.C = omega (arith, em) in
    let k : p.G ≤ 8 = omega (arith, en) in
    let a = rw (read, same, em) at first in
    let b = rw (same, em) at second in
    let d = rw (en, em) at taken_put in
    let e = rw (en, em) at lent_put in
    (one_more p E R h l k a b d e, remainder_is p E R h l k a b d e)

-- ---- the lists of the whole output, one after the other

module _ (p : Plan) (E R : ℕ → ℕ) {n m : ℕ} (n_is : n ≡ p.G) (m_is : m ≡ p.C) {out : List ℕ} (d : DeliveredIn p E out) where
  -- before the first consumer
  pub lists_delivered : {setoff under short : List ℕ} → Whole (n * m) setoff under short → ((k : ℕ) → k < n * m → get_or under k 0 ≡ get_or out (n * m + (n * m + k)) 0) →
      ((k : ℕ) → k < n * m → get_or short k 0 ≡ get_or out (n * m + (n * m + (n * m + k))) 0) → SettledTo p E R 0 setoff under short
  lists_delivered w u s =
      record {
        whole = rw (n_is, m_is) at w;
        setoff_is = λ g c k l none. absurd (omega arith);
        underdrawn_is = λ g c k l none. absurd (omega arith);
        delivered_is = λ g c k l all.
            let q : p.G * p.C + (p.G * p.C + (g * p.C + c)) ≡ 2 * (p.G * p.C) + (g * p.C + c) = omega arith in
            rw q at ((rw (n_is, m_is) at u) (g * p.C + c) (cell_index p.G p.C g c k l)) ∙ d.delivered_is g c k l;
        shortfall_is = λ g c k l none. absurd (omega arith);
        gap_is = λ g c k l all.
            let q : p.G * p.C + (p.G * p.C + (p.G * p.C + (g * p.C + c))) ≡ 3 * (p.G * p.C) + (g * p.C + c) = omega arith in
            rw q at ((rw (n_is, m_is) at s) (g * p.C + c) (cell_index p.G p.C g c k l)) ∙ d.gap_is g c k l;
      }

  -- after the last
  pub all_settled : (loss missed : List ℕ) {setoff under short rests : List ℕ} → length loss ≡ n * m → ((k : ℕ) → k < n * m → get_or loss k 0 ≡ get_or out k 0) →
      length missed ≡ n → ((g : ℕ) → g < n → get_or missed g 0 ≡ get_or out (n * m + (n * m + (n * m + (n * m + g)))) 0) → length rests ≡ m →
      SettledTo p E R m setoff under short × Remainders p E R m rests → loss ++ (setoff ++ (under ++ (short ++ (missed ++ rests)))) ≡ block_output p E R
  unfolding block_output block_lists joined
  all_settled loss missed {setoff} {under} {short} {rests} loss_size l missed_size u rests_size h =
      let t = rw m_is at h.0 in
      let r = rw m_is at h.1 in
      let a = pairs_is p.G p.C _ loss (rw (n_is, m_is) at loss_size) (λ g c i j. (rw (n_is, m_is) at l) (g * p.C + c) (cell_index p.G p.C g c i j) ∙ d.loss_is g c i j) in
      let b = pairs_is p.G p.C _ setoff t.whole.setoff_size (λ g c i j. t.setoff_is g c i j j) in
      let e = pairs_is p.G p.C _ under t.whole.under_size (λ g c i j. t.underdrawn_is g c i j j) in
      let f = pairs_is p.G p.C _ short t.whole.short_size (λ g c i j. t.shortfall_is g c i j j) in
      let k = is_table 0 p.G _ missed (rw n_is at missed_size) missed_is in
      let x = is_table 0 p.C _ rests (rw m_is at rests_size) r.is ∙ sym (append-nil _) in
      λ i. a i ++ (b i ++ (e i ++ (f i ++ (k i ++ x i))))
    where
      missed_is : (g : ℕ) → g < p.G → get_or missed g 0 ≡ unaccounted p g (E g)
      missed_is g i =
          let q : p.G * p.C + (p.G * p.C + (p.G * p.C + (p.G * p.C + g))) ≡ 4 * (p.G * p.C) + g = omega arith in
          rw q at ((rw (n_is, m_is) at u) g i) ∙ d.unaccounted_is g i
