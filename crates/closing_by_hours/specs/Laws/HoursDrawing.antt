-- Steps 2 and 3 of a closing by hours as the code goes through them. Assumes nothing.
use Rattle.std.specs.Prelude.{ℕ, ◌+◌, ◌-◌, ◌*◌, ◌≤◌, ◌<◌, ◌≡◌, Bool, true, false, List, ltb, set, replicate}
use Rattle.std.proofs.Math.Path.{refl, sym, ap}
use Rattle.std.proofs.Common.{◌∙◌, ltb-true, ltb-false}
use native.Mathlib.Omega.{arith}
use Rattle.std.proofs.Math.ListN.{length, get_or, get_or-eq_default}
use Rattle.lists.specs.Sums.{sum}
use Rattle.lists.specs.Tables.{table}
use Rattle.lists.specs.Laws.TablesLaws.{get_or_table, table_same, Filling, fill_start, fill_step, filled, filled_before}
use Rattle.lists.specs.Pairs.{place}
use Rattle.lists.specs.Laws.PairsLaws.{place_in}
use Rattle.energy.specs.Limits.{most_figure}
use Rattle.output_lists.specs.Laws.Columns.{ColumnPut, Columns}
use Rattle.output_lists.specs.Laws.ColumnsLaws.{columns_start, columns_step}
use Rattle.record.specs.Hours.{classes}
use Rattle.record.specs.Plan.{suppliers}
use Rattle.record.specs.Book.{Book, by_hours}
use Rattle.record.specs.Laws.SoundLaws.{Facts, injected_most, metered_most}
use Rattle.record_places.specs.RecordSize.{record_bytes, words_in}
use Rattle.record_layout.specs.OnBytes.{book_in}
use Rattle.closing_rules.specs.Drawing.{stock_at, missing_at}
use Rattle.closing_rules.specs.Closing.{source, turn, sources_of, stocks_of, credited, serving, stock, want, drawn_of, supplied_of, drawn, supplied}
use Rattle.closing_rules.proofs.DrawingLaws as Turns
use Rattle.closing_rules.proofs.ClosingLaws.{stock_at_lem, want_at, serving_at, consumer_drawn, credited_split, consumer_split}
use Rattle.class_bank.specs.Laws.Serving.{ClassesDrew}
use Rattle.closing_by_hours.specs.Laws.ByGenerator.{Exceeds, excess}
use Rattle.closing_by_hours.specs.Laws.ClassesRead.{wanted_at, wanted_read}

-- What drawing on a record's bytes asks: a sound record, and a bank that holds what step 1 leaves.
pub record Drawable (s balance : List ℕ) (n m : ℕ) : Type 0 where
  pub whole : length s ≡ record_bytes
  pub hours_apply : by_hours (book_in s) ≡ true
  pub facts : Facts (book_in s)
  pub n_is : n ≡ (book_in s).plan.G
  pub m_is : m ≡ (book_in s).plan.C
  pub size : length balance ≡ 24
  pub stock_is : place 24 balance ≡ stock (book_in s)

module _ (b : Book) where
  -- the stocks when the turn comes to consumer c
  abbrev at_turn : ℕ → ℕ → ℕ
  at_turn c = stock_at (serving b) (stock b) (want b) (c * classes)

  -- The first c consumers have drawn: the bank that they leave, their columns of the list of n rows of m, and what each lacks.
  pub record Drawn (n m c : ℕ) (left drawn' supplied' : List ℕ) : Type 0 where
    pub size : length left ≡ 24
    pub left_is : place 24 left ≡ at_turn c
    pub drawn_is : Columns n m (drawn b) c drawn'
    pub supplied_is : Filling 16 (supplied b) (replicate 16 0) c supplied'

  pub drawing_start : {n m : ℕ} {left drawn' : List ℕ} → length left ≡ 24 → place 24 left ≡ stock b → length drawn' ≡ n * m →
      Drawn n m 0 left drawn' (replicate 16 0)
  unfolding stock_at
  drawing_start z e l = record { size = z; left_is = e; drawn_is = columns_start l; supplied_is = fill_start refl }

  -- consumer c has drawn: the balances that it leaves, and what it lacks of each class
  pub record TurnDrawn (c : ℕ) (left lacking : List ℕ) : Type 0 where
    pub size : length left ≡ 24
    pub left_is : place 24 left ≡ at_turn (c + 1)
    pub lacks : (k : ℕ) → k < classes → get_or lacking k 0 ≡ supplied_of b k c

  pub turn_drawn : (c : ℕ) (want' : List ℕ) {left left' lacking : List ℕ} → place 24 left ≡ at_turn c →
      ((k : ℕ) → k < classes → get_or want' k 0 ≡ (stocks_of b k).outstanding c) → ClassesDrew (suppliers b.plan c) want' left left' lacking → TurnDrawn c left' lacking
  unfolding supplied_of
  turn_drawn c want' e w d =
      let gs = suppliers b.plan c in
      let same : (k : ℕ) → k < classes → sources_of k gs ≡ serving b (turn c k) = λ k l. sym (serving_at b c k l) in
      let wanted : (k : ℕ) → k < classes → place classes want' k ≡ want b (turn c k) = λ k l. place_in classes want' k l ∙ w k l ∙ sym (want_at b c k l) in
      let on = Turns.stock_shift (serving b) (λ k. sources_of k gs) (stock b) (want b) (place classes want') (c * classes) classes same wanted in
      let lack = Turns.missing_shift (serving b) (λ k. sources_of k gs) (stock b) (want b) (place classes want') (c * classes) classes same wanted in
      let next : c * classes + classes ≡ (c + 1) * classes = omega arith in
      record {
        size = d.size;
        left_is =
            d.leaves ∙ (λ i. stock_at (λ k. sources_of k gs) (e i) (place classes want') classes) ∙ on classes (omega arith) ∙
            ap (stock_at (serving b) (stock b) (want b)) next;
        lacks = λ k l. ap (λ (xs : List ℕ). get_or xs k 0) d.lacks ∙ get_or_table classes _ k 0 l ∙ (λ i. missing_at (λ k. sources_of k gs) (e i) (place classes want') k) ∙ lack k l;
      }

  -- two banks one turn apart
  module _ (f : Facts b) (n c : ℕ) (few : n ≤ 8) (xs ys : List ℕ) (z : length xs ≡ 24) (z' : length ys ≡ 24) (e : place 24 xs ≡ at_turn c) (e' : place 24 ys ≡ at_turn (c + 1)) where
    before : (s : ℕ) → s < 24 → get_or xs s 0 ≡ at_turn c s
    before s l = sym (place_in 24 xs s l) ∙ ap (λ (h : ℕ → ℕ). h s) e

    after : (s : ℕ) → s < 24 → get_or ys s 0 ≡ stock_at (serving b) (stock b) (want b) (turn c classes) s
    after s l =
        let next : (c + 1) * classes ≡ c * classes + classes = omega arith in
        sym (place_in 24 ys s l) ∙ ap (λ (h : ℕ → ℕ). h s) e' ∙ ap (λ (t : ℕ). stock_at (serving b) (stock b) (want b) t s) next

    lower : (s : ℕ) → s < 24 → get_or ys s 0 ≤ get_or xs s 0
    lower s l = omega (arith, before s l, after s l, Turns.span_drawn (serving b) (stock b) (want b) classes (c * classes) s)

    held : (g : ℕ) → g < n → get_or xs (g * 3) 0 + get_or xs (g * 3 + 1) 0 + get_or xs (g * 3 + 2) 0 ≤ most_figure
    unfolding sum
    held g l =
        let most : (k : ℕ) → k < classes → get_or xs (source g k) 0 ≤ credited b k g = λ k h.
        omega (arith, before (source g k) (omega arith), Turns.stock_most (serving b) (stock b) (want b) (source g k) (c * classes), stock_at_lem b g k h) in
        let first : g * 3 + 0 ≡ g * 3 = omega arith in
        omega (
          arith,
          rw first at (most 0 (omega arith)),
          most 1 (omega arith),
          most 2 (omega arith),
          credited_split b f g,
          injected_most b f g,
          (f.gen g).equation,
        )

    pub apart : Exceeds xs ys n
    apart = record { size = z; size' = z'; le = λ s. go s (ltb s 24) refl; low = held }
      where
        go : (s : ℕ) (t : Bool) → ltb s 24 ≡ t → get_or ys s 0 ≤ get_or xs s 0
        go s true p = lower s (ltb-true s 24 p)
        go s false p = omega (arith, get_or-eq_default ys 0 {n = s} (omega (arith, ltb-false s 24 p)))

    -- what the consumer has drawn on generator g
    pub excess_drawn : (g : ℕ) → g < n → excess xs ys g ≡ drawn b g c
    unfolding excess drawn sum
    excess_drawn g l =
        let lost : (j : ℕ) → j < classes → get_or xs (source g j) 0 - get_or ys (source g j) 0 ≡ sum classes (λ k. drawn_of b g j c k) = λ j h.
        omega (arith, before (source g j) (omega arith), after (source g j) (omega arith), consumer_drawn b g j c) in
        let first : g * 3 + 0 ≡ g * 3 = omega arith in
        omega (arith, rw first at (lost 0 (omega arith)), lost 1 (omega arith), lost 2 (omega arith))

  -- what a consumer lacks is no more than a sound record's figures
  pub lacking_low : Facts b → (c : ℕ) → supplied b c ≤ most_figure
  lacking_low f c = omega (arith, consumer_split b f c, metered_most b f c, (f.con c).equation)

  pub lacking_sum : (c : ℕ) {left lacking : List ℕ} → TurnDrawn c left lacking → get_or lacking 0 0 + get_or lacking 1 0 + get_or lacking 2 0 ≡ supplied b c
  unfolding supplied sum
  lacking_sum c t = omega (arith, t.lacks 0 (omega arith), t.lacks 1 (omega arith), t.lacks 2 (omega arith))

  pub drawing_step : Facts b → {n m c x : ℕ} {left left' lacking drawn' drawn'' supplied' column : List ℕ} → c < m → m ≤ 16 → n ≤ 8 → Drawn n m c left drawn' supplied' →
      TurnDrawn c left' lacking → column ≡ filled (replicate 8 0) n (excess left left') → ColumnPut n m drawn' c column n drawn'' → x ≡ supplied b c →
      Drawn n m (c + 1) left' drawn'' (set supplied' c x)
  drawing_step f {n} {c = c} l wide few h t q put e =
      record {
        size = t.size;
        left_is = t.left_is;
        drawn_is =
            columns_step h.drawn_is l put
            (λ g k. ap (λ (xs : List ℕ). get_or xs g 0) q ∙ filled_before (replicate 8 0) n _ g 0 k ∙ excess_drawn f n c few _ _ h.size t.size h.left_is t.left_is g k);
        supplied_is = fill_step h.supplied_is (omega arith) e;
      }

  -- what each of the consumers lacks, in the list's places
  pub supplied_are : {n m c : ℕ} {left drawn' supplied' : List ℕ} → Drawn n m c left drawn' supplied' → table c (λ j. get_or supplied' j 0) ≡ table c (supplied b)
  supplied_are {c = c} h =
      table_same c _ _ (λ j l. ap (λ (ys : List ℕ). get_or ys j 0) h.supplied_is.is ∙ filled_before (replicate 16 0) c (supplied b) j 0 l)

-- what a consumer wants was read from the bytes
pub wants_are : (s : List ℕ) {want' : List ℕ} (c : ℕ) → by_hours (book_in s) ≡ true → c < 16 → want' ≡ table classes (wanted_at (words_in s) c) →
    (k : ℕ) → k < classes → get_or want' k 0 ≡ (stocks_of (book_in s) k).outstanding c
wants_are s c e h q k l = ap (λ (xs : List ℕ). get_or xs k 0) q ∙ get_or_table classes _ k 0 l ∙ wanted_read (words_in s) e c k h l

-- what each turn of the drawing stands on
module _ {s balance : List ℕ} {n m : ℕ} (p : Drawable s balance n m) where
  pub few : n ≤ 8
  few = omega (arith, p.n_is, p.facts.counts.G_high)

  pub narrow : m ≤ 16
  narrow = omega (arith, p.m_is, p.facts.counts.C_high)

  pub turned : {c : ℕ} {want' left left' lacking drawn' supplied' : List ℕ} → c < m → Drawn (book_in s) n m c left drawn' supplied' →
      want' ≡ table classes (wanted_at (words_in s) c) → ClassesDrew (suppliers (book_in s).plan c) want' left left' lacking → TurnDrawn (book_in s) c left' lacking
  turned {c} {want'} l h q d = turn_drawn (book_in s) c want' h.left_is (wants_are s c p.hours_apply (omega (arith, narrow)) q) d

  pub lacking_fits : {c : ℕ} {left lacking : List ℕ} → TurnDrawn (book_in s) c left lacking → get_or lacking 0 0 + get_or lacking 1 0 + get_or lacking 2 0 ≤ most_figure
  lacking_fits {c} t = omega (arith, lacking_sum (book_in s) c t, lacking_low (book_in s) p.facts c)
