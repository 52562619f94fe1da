-- Steps 1 to 4 on what an accepted closing by hours reads of the record's bytes give the output of the rules. Assumes nothing.
use Prim.Native.Nat.{ℕ, ◌+◌, ◌-◌, ◌*◌, ◌/◌, ◌%◌, ◌≤◌, ◌<◌}
use Rattle.std.specs.Prelude.{◌≡◌, Bool, true, false, ltb, replicate, if◌then◌else◌}
use Rattle.std.proofs.Math.Path.{refl, sym, ap, fun_ext}
use Rattle.std.proofs.Common.{◌∙◌, ltb-true, ltb-false}
use mathlib.Core.List.{List, [], ◌∷◌, ◌++◌}
use native.Mathlib.Nat.{mul-le-mul}
use native.Mathlib.Omega.{arith}
use Rattle.std.proofs.Math.ListN.{length, get_or}
use Rattle.lists.specs.Sums.{sum}
use Rattle.lists.specs.Laws.SumsLaws.{sum_part}
use Rattle.lists.specs.Tables.{table}
use Rattle.lists.specs.Laws.TablesLaws.{get_or_table, table_same, filled, filled_before, filled_later, length_filled, zeros_at}
use Rattle.lists.specs.Pairs.{place, pairs, joined}
use Rattle.lists.specs.Laws.PairsLaws.{place_in, place_out, row_of, column_of_lem}
use Rattle.energy.specs.Energy.{portion_up}
use Rattle.energy.specs.Limits.{most_figure}
use Rattle.output_lists.specs.Laws.ColumnsLaws.{columns_pairs}
use Rattle.output_lists.specs.Laws.StretchesWritten.{list_places}
use Rattle.record.specs.Hours.{classes}
use Rattle.record.specs.Book.{Book, by_hours}
use Rattle.record.specs.Stored.{consumer_at, plan_of, figures}
use Rattle.record.specs.Laws.SoundLaws.{Facts, injected_most}
use Rattle.record.specs.Called.{number_on}
use Rattle.record.specs.declared.Terms.{Terms}
use Rattle.record.specs.declared.Consumers.{Consumers}
use Rattle.record_places.specs.RecordSize.{record_bytes, words_in}
use Rattle.record_places.specs.Laws.Places.{outstanding_at}
use Rattle.record_layout.specs.OnBytes.{record_in, book_in}
use Rattle.record_layout.specs.Laws.Layout.{run, consumers_at}
use Rattle.closing_rules.specs.Drawing.{stock_at}
use Rattle.closing_rules.specs.Closing.{lapse_due, source, stocks_of, taken_up, charge_of, credited, serving, stock, want, bank_left, charge, drawn, supplied, bank_before_lapse, lapses, lapsed, bank_after, closing_lists, closing_output, closing_rule}
use Rattle.closing_rules.proofs.ClosingLaws.{bank_total_lem, pending_total_lem, credited_split, all_drawn}
use Rattle.closing_rules.proofs.ClosingBeyond.{bank_beyond, pending_beyond}
use Rattle.closing_rules.proofs.ClosingRefusals.{facts, output_size}
use Rattle.bank.specs.Laws.CreditLaws.{charge_at, credit_at, creditable, creditable_so}
use Rattle.bank.specs.Laws.BankSteps.{Credited}
use Rattle.bank.specs.Laws.BankLaws.{credit_within, credit_size}
use Rattle.closing_by_hours.specs.Laws.ByGenerator.{Exceeds, excess, summed}
use Rattle.closing_by_hours.specs.Laws.ClassesRead.{class_number, bank_read, pending_read}
use Rattle.closing_by_hours.specs.Laws.HoursDrawing.{Drawable, Drawn, supplied_are}
use Rattle.closing_lists.specs.Laws.ClosingWritten.{five_lists}

-- ---- a list by generator and class, added up

abbrev none : List ℕ
none = replicate 24 0

module _ (n : ℕ) (xs : List ℕ) (f : ℕ → ℕ → ℕ) (z : length xs ≡ 24) (is : (g k : ℕ) → g < n → k < classes → get_or xs (source g k) 0 ≡ f k g) where
  three : (g : ℕ) → g < n → get_or xs (g * 3) 0 + get_or xs (g * 3 + 1) 0 + get_or xs (g * 3 + 2) 0 ≡ sum classes (λ k. f k g)
  unfolding sum
  three g l =
      let first : g * 3 + 0 ≡ g * 3 = omega arith in
      omega (arith, rw first at (is g 0 l (omega arith)), is g 1 l (omega arith), is g 2 l (omega arith))

  pub adds_up : ((g : ℕ) → g < n → sum classes (λ k. f k g) ≤ most_figure) → Exceeds xs none n
  adds_up low = record { size = z; size' = refl; le = λ s. omega (arith, zeros_at 24 s); low = λ g l. omega (arith, three g l, low g l) }

  -- what by_generator makes of it
  pub added : {ys : List ℕ} → ys ≡ summed xs n → table n (λ g. get_or ys g 0) ≡ table n (λ g. sum classes (λ k. f k g))
  unfolding excess
  added e =
      table_same n _ _
      (λ g l. ap (λ (zs : List ℕ). get_or zs g 0) e ∙ filled_before (replicate 8 0) n (excess xs none) g 0 l ∙
      omega (arith, three g l, zeros_at 24 (g * 3), zeros_at 24 (g * 3 + 1), zeros_at 24 (g * 3 + 2)))

-- ---- what an accepted closing read of the bytes

module _ (s : List ℕ) (terms : Terms) (size : ℕ) (whole : length s ≡ record_bytes) (terms_are : terms ≡ (record_in s).terms) (hours : by_hours (book_in s) ≡ true) (z : number_on (closing_rule size) (record_in s) ≡ 0) where
  abbrev b : Book
  b = book_in s

  abbrev n : ℕ
  n = terms.generators

  abbrev m : ℕ
  m = terms.consumers

  pub sound : Facts b
  sound = facts (record_in s) size z

  n_is : n ≡ b.plan.G
  unfolding figures plan_of
  n_is = ap (λ (t : Terms). t.generators) terms_are

  m_is : m ≡ b.plan.C
  unfolding figures plan_of
  m_is = ap (λ (t : Terms). t.consumers) terms_are

  pub n_high : n ≤ 8
  n_high = omega (arith, n_is, sound.counts.G_high)

  pub m_high : m ≤ 16
  m_high = omega (arith, m_is, sound.counts.C_high)

  pub drawn_small : n * m ≤ 128
  drawn_small = mul-le-mul n_high m_high

  pub output_long : size ≡ n * m + (3 * n + 2 * m)
  output_long = rw terms_are (omega (arith, output_size (record_in s) size z))

  -- generators beyond the agreement have nothing of any class
  bank_none : (k g : ℕ) → k < classes → b.plan.G ≤ g → (stocks_of b k).bank g ≡ 0
  bank_none k g l h = omega (arith, sum_part classes (λ k. (stocks_of b k).bank g) k l, bank_total_lem b sound g, bank_beyond b sound g h)

  pending_none : (k g : ℕ) → k < classes → b.plan.G ≤ g → (stocks_of b k).pending g ≡ 0
  pending_none k g l h = omega (arith, sum_part classes (λ k. (stocks_of b k).pending g) k l, pending_total_lem b sound g, pending_beyond b sound g h)

  -- a list that was read for the generators of the agreement: all that it leaves out is 0
  read_at : {xs : List ℕ} (part figure : ℕ → ℕ) → xs ≡ filled none (3 * n) part → place 24 (table 24 part) ≡ figure → ((i : ℕ) → 3 * n ≤ i → figure i ≡ 0) → (i : ℕ) → place 24 xs i ≡ figure i
  read_at {xs} part figure q e beyond i = go (ltb i (3 * n)) refl (ltb i 24) refl
    where
      go : (t : Bool) → ltb i (3 * n) ≡ t → (u : Bool) → ltb i 24 ≡ u → place 24 xs i ≡ figure i
      go true a u d =
          let l = ltb-true i (3 * n) a in
          let w : i < 24 = omega (arith, n_high) in
          place_in 24 xs i w ∙ ap (λ (ys : List ℕ). get_or ys i 0) q ∙ filled_before none (3 * n) part i 0 l ∙ sym (place_in 24 (table 24 part) i w ∙ get_or_table 24 part i 0 w) ∙ ap (λ (h : ℕ → ℕ). h i) e
      go false a true d =
          let l = ltb-false i (3 * n) a in
          place_in 24 xs i (ltb-true i 24 d) ∙ ap (λ (ys : List ℕ). get_or ys i 0) q ∙ filled_later none (3 * n) part i 0 l ∙ zeros_at 24 i ∙ sym (beyond i l)
      go false a false d = place_out 24 xs i (ltb-false i 24 d) ∙ sym (beyond i (ltb-false i (3 * n) a))

  module _ {held pending : List ℕ} (p : held ≡ filled none (3 * n) (class_number (words_in s) 0)) (q : pending ≡ filled none (3 * n) (class_number (words_in s) 8)) where
    held_at : (i : ℕ) → place 24 held i ≡ (stocks_of b (i % 3)).bank (i / 3)
    held_at = read_at (class_number (words_in s) 0) _ p (bank_read (words_in s) hours) (λ i l. bank_none (i % 3) (i / 3) (omega arith) (omega (arith, n_is)))

    pending_at_lem : (i : ℕ) → place 24 pending i ≡ taken_up b (i % 3) (i / 3)
    unfolding taken_up
    pending_at_lem = read_at (class_number (words_in s) 8) _ q (pending_read (words_in s) hours) (λ i l. pending_none (i % 3) (i / 3) (omega arith) (omega (arith, n_is)))

    -- no figure of a sound record is beyond the bank's limits
    credit_taken : creditable 24 held (3 * n) pending terms.rate ≡ true
    unfolding figures taken_up
    credit_taken =
        creditable_so _ _ _ _ _ (omega (arith, n_high)) (omega (arith, sound.counts.rate_high, ap (λ (t : Terms). t.rate) terms_are))
        (λ i l.
        let g = i / 3 in
        let k : i % 3 < classes = omega arith in
        omega (
          arith,
          held_at i,
          pending_at_lem i,
          sum_part classes (λ k. (stocks_of b k).bank g) (i % 3) k,
          sum_part classes (λ k. (stocks_of b k).pending g) (i % 3) k,
          bank_total_lem b sound g,
          pending_total_lem b sound g,
          injected_most b sound g,
          (sound.gen g).equation,
        ))

    module _ {balance charge' : List ℕ} (c : Credited 24 held (3 * n) pending terms.rate balance charge') where
      rate_is : terms.rate ≡ b.rate
      unfolding figures
      rate_is = ap (λ (t : Terms). t.rate) terms_are

      charge_at_lem : (i : ℕ) → charge_at 24 pending terms.rate i ≡ charge_of b (i % 3) (i / 3)
      unfolding charge_at charge_of
      charge_at_lem i = λ j. portion_up (pending_at_lem i j) (rate_is j)

      held_size : length held ≡ 24
      held_size = ap length p ∙ length_filled none (3 * n) _ (omega (arith, n_high))

      credit_here : (i : ℕ) → credit_at 24 pending terms.rate held i ≡ credited b (i % 3) (i / 3)
      unfolding credit_at credited
      credit_here i = omega (arith, held_at i, pending_at_lem i, charge_at_lem i)

      -- the balances after the credit are the stocks of the closing
      stocked : place 24 balance ≡ stock b
      unfolding stock credited taken_up
      stocked = ap (place 24) (credit_within credit_taken c).0 ∙ fun_ext (λ i. go i (ltb i (3 * n)) refl (ltb i 24) refl)
        where
          now : List ℕ
          now = filled held (3 * n) (credit_at 24 pending terms.rate held)

          later : (i : ℕ) → 3 * n ≤ i → (stocks_of b (i % 3)).bank (i / 3) + ((stocks_of b (i % 3)).pending (i / 3) - charge_of b (i % 3) (i / 3)) ≡ 0
          later i h =
              let far : b.plan.G ≤ i / 3 = omega (arith, n_is) in
              omega (arith, bank_none (i % 3) (i / 3) (omega arith) far, pending_none (i % 3) (i / 3) (omega arith) far)

          go : (i : ℕ) (t : Bool) → ltb i (3 * n) ≡ t → (u : Bool) → ltb i 24 ≡ u →
              place 24 now i ≡ (stocks_of b (i % 3)).bank (i / 3) + ((stocks_of b (i % 3)).pending (i / 3) - charge_of b (i % 3) (i / 3))
          go i true a u d =
              let l = ltb-true i (3 * n) a in
              place_in 24 now i (omega (arith, n_high)) ∙ filled_before held (3 * n) (credit_at 24 pending terms.rate held) i 0 l ∙ credit_here i
          go i false a true d =
              let l = ltb-false i (3 * n) a in
              let h = ltb-true i 24 d in
              omega (
                arith,
                place_in 24 now i h,
                filled_later held (3 * n) (credit_at 24 pending terms.rate held) i 0 l,
                place_in 24 held i h,
                held_at i,
                later i l,
                bank_none (i % 3) (i / 3) (omega arith) (omega (arith, n_is)),
              )
          go i false a false d = place_out 24 now i (ltb-false i 24 d) ∙ sym (later i (ltb-false i (3 * n) a))

      pub draw_ready : Drawable s balance n m
      draw_ready = record { whole = whole; hours_apply = hours; facts = sound; n_is = n_is; m_is = m_is; size = credit_size held_size c; stock_is = stocked }

      -- ---- the charge

      charged : (g k : ℕ) → g < n → k < classes → get_or charge' (source g k) 0 ≡ charge_of b k g
      charged g k l h =
          ap (λ (xs : List ℕ). get_or xs (source g k) 0) (credit_within credit_taken c).1 ∙ filled_before none (3 * n) (charge_at 24 pending terms.rate) (source g k) 0 (omega arith) ∙ charge_at_lem (source g k) ∙
          (λ i. charge_of b (column_of_lem 3 g k h i) (row_of 3 g k h i))

      charge_size : length charge' ≡ 24
      charge_size = ap length (credit_within credit_taken c).1 ∙ length_filled none (3 * n) _ (omega (arith, n_high))

      charge_low : (g : ℕ) → charge b g ≤ most_figure
      charge_low g = omega (arith, credited_split b sound g, injected_most b sound g, (sound.gen g).equation)

      pub charge_adds : Exceeds charge' none n
      unfolding charge
      charge_adds = adds_up n charge' (charge_of b) charge_size charged (λ g l. charge_low g)

      pub charges : {ys : List ℕ} → ys ≡ summed charge' n → table n (λ g. get_or ys g 0) ≡ table n (charge b)
      unfolding charge
      charges = added n charge' (charge_of b) charge_size charged

  -- ---- the lapse, when all consumers have drawn

  module _ {left out supplied' : List ℕ} (d : Drawn b n m m left out supplied') where
    held_then : (g k : ℕ) → g < n → k < classes → get_or left (source g k) 0 ≡ bank_left b k g
    unfolding bank_left
    held_then g k l h =
        sym (place_in 24 left (source g k) (omega (arith, n_high))) ∙ ap (λ (f : ℕ → ℕ). f (source g k)) d.left_is ∙
        ap (λ (c : ℕ). stock_at (serving b) (stock b) (want b) (c * classes) (source g k)) m_is

    left_low : (g : ℕ) → bank_before_lapse b g ≤ most_figure
    left_low g = omega (arith, all_drawn b g, credited_split b sound g, injected_most b sound g, (sound.gen g).equation)

    pub lapsed_adds : Exceeds left none n
    unfolding bank_before_lapse
    lapsed_adds = adds_up n left (bank_left b) d.size held_then (λ g l. left_low g)

    -- by hours every bank lapses
    due : lapses b ≡ true
    unfolding lapses lapse_due
    due = rw hours

    lapsed_are : {ys : List ℕ} → ys ≡ summed left n → table n (λ g. get_or ys g 0) ≡ table n (lapsed b)
    unfolding lapsed bank_before_lapse
    lapsed_are q = added n left (bank_left b) d.size held_then q ∙ (λ i. table n (λ g. if sym due i then sum classes (λ k. bank_left b k g) else 0))

    stay_are : table n (λ g. get_or {A = ℕ} (replicate 8 0) g 0) ≡ table n (bank_after b)
    unfolding bank_after
    stay_are = table_same n _ _ (λ g l. zeros_at 8 g) ∙ (λ i. table n (λ g. if sym due i then 0 else bank_before_lapse b g))

    -- the lists that the steps give are the output of the rules
    pub lists_are : (charge' : List ℕ) {lapsed' outstanding : List ℕ} → table n (λ g. get_or charge' g 0) ≡ table n (charge b) →
        lapsed' ≡ summed left n → outstanding ≡ run (words_in s) 16 outstanding_at →
        out ++ five_lists charge' lapsed' (replicate 8 0) outstanding supplied' n m ≡ closing_output b
    unfolding five_lists joined closing_output closing_lists figures consumer_at
    lists_are charge' charges-are lapsed-q open-q =
        let opened = open-q ∙ ap (λ (x : Consumers). x.outstanding) (sym (consumers_at (words_in s))) in
        let opens = ap (λ (xs : List ℕ). table m (λ c. get_or xs c 0)) opened ∙ list_places m 16 (record_in s).consumers.outstanding m_high in
        (λ i. joined (columns_pairs d.drawn_is i ∷ charges-are i ∷ lapsed_are lapsed-q i ∷ stay_are i ∷ opens i ∷ supplied_are b d i ∷ [])) ∙
        (λ i.
        let G = n_is i in
        let C = m_is i in
        joined (pairs G C (drawn b) ∷ table G (charge b) ∷ table G (lapsed b) ∷ table G (bank_after b) ∷ table C (place 16 (record_in s).consumers.outstanding) ∷ table C (supplied b) ∷ []))
