-- The order of drawing, by class: who stands later in the inter-se order gives only where those ahead are used up, and a generator gives its peak
-- energy to another class only where its own energy of that class is used up. Assumes nothing.
use Rattle.std.specs.Prelude.{ℕ, ◌<◌, ◌≡◌, refl, Bool, true, false, List, [], ◌∷◌, ◌⊎◌}
use Rattle.std.proofs.Common.{inl, inr, ⊎_elim, arith, eqb-true}
use Rattle.std.proofs.lemmas.Bool.{eqb-false}
use Rattle.std.proofs.Math.Dec.{eqb}
use Rattle.order_rules.specs.Laws.Members.{In, Before}
use Rattle.order_rules.specs.Laws.OrderLaws.{Ahead, Sorted, order_sorted, only_sorted}
use Rattle.order_rules.specs.Laws.SettleLaws.{sorted_before}
use Rattle.record.specs.Plan.{standing, order, suppliers}
use Rattle.record.specs.Hours.{classes, peak}
use Rattle.record.specs.Book.{Book}
use Rattle.closing_rules.specs.Drawing.{stock_at}
use Rattle.closing_rules.specs.Closing.{source, turn, sources_of, serving, stock, want, drawn_of}
use Rattle.closing_rules.proofs.DrawingLaws as Turns
use Rattle.closing_rules.proofs.ClosingLaws.{serving_at, supplier_in}

-- energy of class i serves class k
abbrev pub Serves : ℕ → ℕ → Type 0
Serves i k = (i ≡ k) ⊎ (i ≡ peak)

sources_before : (k i j g h : ℕ) (gs : List ℕ) → k < classes → Serves i k → Serves j k → Before g h gs → Before (source g i) (source h j) (sources_of k gs)
unfolding sources_of
sources_before k i j g h [] l p q m = absurd m
sources_before k i j g h (x ∷ gs) l p q m =
    let few : j < classes = ⊎_elim (λ (e : j ≡ k). omega arith) (λ (e : j ≡ peak). omega arith) q in
    let other : (n : ℕ) → n < classes → source h j ≡ source x n → ⊥ = λ n f e. m.0 (omega arith) in
    let here : g ≡ x → Before (source g i) (source h j) (sources_of k (x ∷ gs)) = λ e. ⊎_elim (λ (f : i ≡ k). (other k l, inl (omega arith))) (λ (f : i ≡ peak). (other k l, inr (other peak (omega arith), inl (omega arith)))) p in
    ⊎_elim here (λ (n : Before g h gs). (other k l, inr (other peak (omega arith), inr (sources_before k i j g h gs l p q n)))) m.1

own_before : (k g : ℕ) (gs : List ℕ) → k < peak → In g gs → Before (source g k) (source g peak) (sources_of k gs)
unfolding sources_of
own_before k g [] l m = absurd m
own_before k g (x ∷ gs) l m = (λ q. omega arith, go (eqb g x) refl (own_before k g gs l) m)
  where
    go : (t : Bool) → eqb g x ≡ t → (In g gs → Before (source g k) (source g peak) (sources_of k gs)) → In g (x ∷ gs) →
        (source g k ≡ source x k) ⊎ ((source g peak ≡ source x peak → ⊥) × ((source g k ≡ source x peak) ⊎ Before (source g k) (source g peak) (sources_of k gs)))
    go true e ih n = inl (omega (arith, eqb-true g x e))
    go false e ih (inl q) = absurd (eqb-false g x e q)
    go false e ih (inr n) = inr (λ q. eqb-false g x e (omega arith), inr (ih n))

module _ (b : Book) (c k : ℕ) where
  -- what a source has when the turn comes to consumer c's class k
  abbrev pub has_at : ℕ → ℕ
  has_at = stock_at (serving b) (stock b) (want b) (turn c k)

  suppliers_sorted : Sorted (standing b.plan c) (suppliers b.plan c)
  unfolding suppliers order
  suppliers_sorted = only_sorted (standing b.plan c) (λ g. eqb (b.plan.link g c) 1) (order b.plan c) (order_sorted (standing b.plan c) b.plan.G)

  -- a later generator is drawn on only where every earlier linked one gives all that it then has of that class and of peak
  pub earlier_drawn : (g h i j : ℕ) → g < b.plan.G → k < classes → b.plan.link g c ≡ 1 → Ahead (standing b.plan c) g h → Serves i k → Serves j k →
      0 < drawn_of b h j c k → drawn_of b g i c k ≡ has_at (source g i)
  unfolding drawn_of
  earlier_drawn g h i j hg hk lg a p q l =
      let gs = suppliers b.plan c in
      Turns.before_drawn (serving b) (stock b) (want b) (source g i) (source h j) (turn c k)
      (rw (serving_at b c k hk) (sources_before k i j g h gs hk p q (sorted_before (standing b.plan c) gs g h suppliers_sorted (supplier_in b g c hg lg) a))) l

  -- a generator gives peak energy to a class below peak only where it gives all that it then has of that class
  pub own_class_first : (g : ℕ) → g < b.plan.G → k < peak → b.plan.link g c ≡ 1 → 0 < drawn_of b g peak c k → drawn_of b g k c k ≡ has_at (source g k)
  unfolding drawn_of
  own_class_first g hg hk lg l =
      Turns.before_drawn (serving b) (stock b) (want b) (source g k) (source g peak) (turn c k)
      (rw (serving_at b c k (omega arith)) (own_before k g (suppliers b.plan c) hk (supplier_in b g c hg lg))) l
