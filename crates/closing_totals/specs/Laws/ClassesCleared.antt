-- What clearing makes of a class of hours, by its place among the record's lists, and which of its numbers are 0 already. Assumes nothing.
use Rattle.std.specs.Prelude.{ℕ, zero, suc, ◌+◌, ◌≤◌, ◌<◌, ◌≡◌, refl, Bool, true, false, length, set, take, drop}
use Rattle.std.proofs.Math.Path.{sym, ap}
use Rattle.std.proofs.Common.{◌∙◌, add-one, get_or-drop}
use Rattle.std.proofs.lemmas.Bool.{false≢true}
use mathlib.Core.List.{List, [], ◌∷◌}
use native.Mathlib.Omega.{arith}
use Rattle.std.proofs.Math.Nat.{add-zero}
use Rattle.std.proofs.Math.ListN.{get_or}
use Rattle.std.proofs.Math.Seq.{get_or-set_other}
use Rattle.lists.specs.Sums.{sum}
use Rattle.lists.specs.Laws.SumsLaws.{sum_part}
use Rattle.lists.specs.Tables.{table}
use Rattle.lists.specs.Laws.PairsLaws.{place_in}
use Rattle.record.specs.Hours.{classes}
use Rattle.record.specs.Book.{Book, ClassStocks, by_hours}
use Rattle.record.specs.Sound.{limit, bank_total, pending_total, open_total}
use Rattle.record.specs.Stored.{class_at}
use Rattle.record.specs.Laws.Shape.{StocksShape}
use Rattle.record.specs.Laws.SoundLaws.{Facts}
use Rattle.record.specs.RecordWords.{run_lengths, total, cut}
use Rattle.record.specs.declared.Stocks.{Stocks}
use Rattle.record_layout.specs.Laws.NumbersRaised.{from}
use Rattle.record_layout.specs.Laws.NumbersReplaced.{replaced, list_replaced}
use Rattle.record_places.specs.Laws.Places.{off_peak_at, normal_at, peak_at}
use Rattle.closing_rules.proofs.ClosingBeyond.{bank_beyond, pending_beyond, open_beyond}
use Rattle.closing_totals.specs.Laws.ClosingTotals.{class_cleared, classes_after}

-- so many places of each list are cleared: by hours all that the unit has, before the switch month none
pub classes_cleared : (t : Bool) (n m : ℕ) (ws : List ℕ) →
    classes_after t n m ws ≡ class_cleared (limit t n) (limit t m) peak_at (class_cleared (limit t n) (limit t m) normal_at (class_cleared (limit t n) (limit t m) off_peak_at ws))
unfolding classes_after class_cleared replaced
classes_cleared true n m ws = refl
classes_cleared false n m ws = refl

-- ---- the class's numbers behind those that are cleared

most : (t : Bool) {n i : ℕ} → n ≤ i → limit t n ≤ i
most true h = h
most false h = omega arith

beyond : (t : Bool) (n i : ℕ) → limit t n ≤ i → t ≡ true → n ≤ i
beyond true n i h e = h
beyond false n i h e = absurd (false≢true e)

module _ (b : Book) (f : Facts b) where
  -- a figure of a class is 0 where its place is, and before the switch month
  class_empty : (v : ClassStocks → ℕ) (whole : ℕ) → sum classes (λ k. v (b.hours k)) ≡ limit (by_hours b) whole → (by_hours b ≡ true → whole ≡ 0) → (k : ℕ) → k < classes → v (b.hours k) ≡ 0
  class_empty v whole e z k l = go (by_hours b) refl
    where
      go : (t : Bool) → by_hours b ≡ t → v (b.hours k) ≡ 0
      go true q = omega (arith, sum_part classes (λ k. v (b.hours k)) k l, rw q at e, z q)
      go false q = omega (arith, sum_part classes (λ k. v (b.hours k)) k l, rw q at e)

  module _ (k : ℕ) (l : k < classes) where
    bank_empty : (g : ℕ) → limit (by_hours b) b.plan.G ≤ g → (b.hours k).bank g ≡ 0
    unfolding bank_total
    bank_empty g h = class_empty (λ t. t.bank g) (b.gen g).bank (f.hours_bank g) (λ q. bank_beyond b f g (beyond (by_hours b) b.plan.G g h q)) k l

    pending_empty : (g : ℕ) → limit (by_hours b) b.plan.G ≤ g → (b.hours k).pending g ≡ 0
    unfolding pending_total
    pending_empty g h = class_empty (λ t. t.pending g) (b.gen g).pending (f.hours_pending g) (λ q. pending_beyond b f g (beyond (by_hours b) b.plan.G g h q)) k l

    open_empty : (c : ℕ) → limit (by_hours b) b.plan.C ≤ c → (b.hours k).outstanding c ≡ 0
    unfolding open_total
    open_empty c h = class_empty (λ t. t.outstanding c) (b.con c).outstanding (f.hours_open c) (λ q. open_beyond b f c (beyond (by_hours b) b.plan.C c h q)) k l

-- ---- the class's lists

-- list j + 1 starts where list j ends
next_start : (ns : List ℕ) (j : ℕ) → total (take (j + 1) ns) ≡ total (take j ns) + get_or ns j 0
unfolding total
next_start ns j = rw add-one (go ns j)
  where
    go : (ns : List ℕ) (j : ℕ) → total (take (suc j) ns) ≡ total (take j ns) + get_or ns j 0
    go [] zero = refl
    go [] (suc j) = refl
    go (n ∷ ns) zero = omega arith
    go (n ∷ ns) (suc j) = omega (arith, go ns j)

-- list j, which starts at place `at`: it is 0 from its place n on
list_cleared : (k n : ℕ) (ws : List ℕ) {xss : List (List ℕ)} (j at : ℕ) (old : List ℕ) → n ≤ k → get_or run_lengths j 0 ≡ k → total (take j run_lengths) ≡ at → length old ≡ k →
    cut run_lengths ws ≡ xss → get_or xss j [] ≡ old → ((i : ℕ) → n ≤ i → i < k → get_or old i 0 ≡ 0) →
    cut run_lengths (replaced (from at) n (λ i. 0) ws) ≡ set xss j (table k (λ i. 0))
list_cleared k n ws j at old few width starts size is was none =
    rw starts at (list_replaced k n ws j old (λ i. 0) (λ i. 0) few width size is was (λ i l. refl) none)

-- the class's bank is list j, and its pending and open are the next two: with nothing in them
abbrev pub emptied : ℕ → List (List ℕ) → List (List ℕ)
emptied j xss = set (set (set xss j (table 8 (λ g. 0))) (j + 1) (table 8 (λ g. 0))) (j + 2) (table 16 (λ c. 0))

module _ (b : Book) (f : Facts b) where
  abbrev n : ℕ
  n = limit (by_hours b) b.plan.G

  abbrev m : ℕ
  m = limit (by_hours b) b.plan.C

  -- class k, whose lists t stand from list j and place `at` on
  pub class_cleared_lem : (ws : List ℕ) {xss rest : List (List ℕ)} {ns : List ℕ} (k j at : ℕ) (t : Stocks) → k < classes → b.hours k ≡ class_at t → StocksShape t →
      drop j run_lengths ≡ 8 ∷ 8 ∷ 16 ∷ ns → total (take j run_lengths) ≡ at →
      cut run_lengths ws ≡ xss → drop j xss ≡ t.bank ∷ t.pending ∷ t.outstanding ∷ rest →
      cut run_lengths (class_cleared n m at ws) ≡ emptied j xss
  unfolding class_cleared class_at
  class_cleared_lem ws {xss} {rest} {ns} k j at t l is shape widths starts runs lists =
      let width : (i : ℕ) → get_or run_lengths (j + i) 0 ≡ get_or (8 ∷ 8 ∷ 16 ∷ ns) i 0 = λ i. sym (get_or-drop j run_lengths i 0) ∙ ap (λ (l : List ℕ). get_or l i 0) widths in
      let was : (i : ℕ) → get_or xss (j + i) [] ≡ get_or (t.bank ∷ t.pending ∷ t.outstanding ∷ rest) i [] = λ i. sym (get_or-drop j xss i []) ∙ ap (λ (l : List (List ℕ)). get_or l i []) lists in
      let width_0 : get_or run_lengths j 0 ≡ 8 = rw add-zero at (width 0) in
      let place_1 : total (take (j + 1) run_lengths) ≡ at + 8 = omega (arith, next_start run_lengths j) in
      let place_2 : total (take (j + 2) run_lengths) ≡ at + 16 = let e : j + 2 ≡ j + 1 + 1 = omega arith in rw e (omega (arith, next_start run_lengths (j + 1), width 1)) in
      let one =
      list_cleared 8 n ws j at t.bank (most (by_hours b) f.counts.G_high) width_0 starts shape.bank runs (rw add-zero at (was 0))
      (λ g h w. sym (place_in 8 t.bank g w) ∙ ap (λ (x : ClassStocks). x.bank g) (sym is) ∙ bank_empty b f k l g h) in
      let two =
      list_cleared 8 n _ (j + 1) (at + 8) t.pending (most (by_hours b) f.counts.G_high) (width 1) place_1 shape.pending one (get_or-set_other xss j (j + 1) _ [] (λ e. omega arith) ∙ was 1)
      (λ g h w. sym (place_in 8 t.pending g w) ∙ ap (λ (x : ClassStocks). x.pending g) (sym is) ∙ pending_empty b f k l g h) in
      list_cleared 16 m _ (j + 2) (at + 16) t.outstanding (most (by_hours b) f.counts.C_high) (width 2) place_2 shape.outstanding two
      (get_or-set_other (set xss j _) (j + 1) (j + 2) _ [] (λ e. omega arith) ∙ get_or-set_other xss j (j + 2) _ [] (λ e. omega arith) ∙ was 2)
      (λ c h w. sym (place_in 16 t.outstanding c w) ∙ ap (λ (x : ClassStocks). x.outstanding c) (sym is) ∙ open_empty b f k l c h)
