-- The numbers that a closing changes make the record that the rules store. Assumes nothing.
use Rattle.std.specs.Prelude.{ℕ, zero, suc, ◌+◌, ◌*◌, ◌≤◌, ◌<◌, ◌≡◌, take}
use Rattle.std.proofs.Math.Path.{refl, sym, ap}
use Rattle.std.proofs.Common.{◌∙◌, zero-add}
use mathlib.Core.List.{List, [], ◌∷◌}
use native.Mathlib.Omega.{arith}
use Rattle.std.proofs.Math.ListN.{length, get_or, set}
use Rattle.std.proofs.Math.Seq.{get_or-set_other}
use Rattle.lists.specs.Sums.{sum}
use Rattle.lists.specs.Laws.SumsLaws.{sum_cong}
use Rattle.lists.specs.Tables.{table}
use Rattle.lists.specs.Laws.TablesLaws.{is_table}
use Rattle.lists.specs.Pairs.{place}
use Rattle.lists.specs.Laws.PairsLaws.{place_in}
use Rattle.energy.specs.Limits.{most_cycle, most_unit_blocks, most_figure}
use Rattle.codec.specs.Bytes.{encode}
use Rattle.codec.specs.Laws.BytesLaws.{Below, length_decode}
use Rattle.record.specs.Book.{Book, by_hours, no_stocks}
use Rattle.record.specs.Hours.{classes, hours_apply}
use Rattle.record.specs.Stored.{generator_at, consumer_at, hours_of, plan_of, figures, stored_generators, stored_consumers, stored_stocks, stored}
use Rattle.record.specs.Laws.Shape.{Shape}
use Rattle.record.specs.Laws.SoundLaws.{Facts}
use Rattle.record.specs.RecordWords.{runs, run_lengths, total, words, cut, from_runs, record_of}
use Rattle.record.specs.declared.Record.{Record}
use Rattle.record.specs.declared.Terms.{Terms}
use Rattle.record.specs.declared.Counts.{Counts}
use Rattle.record.specs.declared.Switch.{Switch}
use Rattle.record_layout.specs.Laws.NumbersRaised.{set_run, list_raised}
use Rattle.record_layout.specs.Laws.NumbersReplaced.{list_replaced}
use Rattle.record_layout.specs.Laws.LayoutLaws.{run_length, bytes_of_record}
use Rattle.record_layout.specs.Laws.RecordKept.{changed_record, record_shape, numbers_low}
use Rattle.record_layout.specs.OnBytes.{record_in, book_in}
use Rattle.record_runs.specs.Laws.Raise.{row_sum, column_sum, Raisable}
use Rattle.closing_rules.specs.Closing.{charge, drawn, supplied, gone_after, lapsed, bank_after, generator_after_closing, consumer_after_closing, after_closing, closing_length, closing_output}
use Rattle.closing_rules.proofs.ClosingOutput.{closing_length_lem, drawn_at_lem, charge_at_lem, lapsed_at_lem, bank_at_lem, supplied_at_lem}
use Rattle.closing_rules.proofs.ClosingBeyond.{bank_beyond, pending_beyond, charge_beyond, given_beyond, lapsed_beyond, bank_after_beyond, open_beyond, taken_beyond, supplied_beyond}
use Rattle.closing_rules.proofs.ClosingRoom.{closing_output_moderate}
use Rattle.closing_totals.specs.Laws.ClosingTotals.{counts_after, totals_raised, stocks_replaced, classes_after, ClosingLists, Listed}
use Rattle.closing_totals.specs.Laws.ClassesCleared.{classes_cleared, emptied, class_cleared_lem}
use Rattle.record_places.specs.RecordSize.{record_numbers, record_bytes, words_in}
use Rattle.record_places.specs.Laws.Places.{gone_at, month_blocks_at, charge_at, closings_at, off_peak_at, normal_at, peak_at}

-- the first seven numbers, with other months gone and no block in the month
counted : (xs : List ℕ) (gone : ℕ) → length xs ≡ 7 →
    set (set xs 4 gone) 6 0 ≡ get_or xs 0 0 ∷ get_or xs 1 0 ∷ get_or xs 2 0 ∷ get_or xs 3 0 ∷ gone ∷ get_or xs 5 0 ∷ 0 ∷ []
unfolding table
counted xs gone e = ap (λ (l : List ℕ). set (set l 4 gone) 6 0) (is_table 0 7 (λ i. get_or xs i 0) xs e (λ i l. refl))

-- the switch month and the closings done, with one closing more
counted_closings : (xs : List ℕ) (closings : ℕ) → length xs ≡ 2 → set xs 1 closings ≡ get_or xs 0 0 ∷ closings ∷ []
unfolding table
counted_closings xs closings e = ap (λ (l : List ℕ). set l 1 closings) (is_table 0 2 (λ i. get_or xs i 0) xs e (λ i l. refl))

-- a number that is low put among others
set_low : {b : ℕ} (v : ℕ) → v ≤ b → (ws : List ℕ) (i k : ℕ) → get_or ws k 0 ≤ b → get_or (set ws i v) k 0 ≤ b
set_low v h [] i k l = l
set_low v h (w ∷ ws) zero zero l = h
set_low v h (w ∷ ws) zero (suc k) l = l
set_low v h (w ∷ ws) (suc i) zero l = l
set_low v h (w ∷ ws) (suc i) (suc k) l = set_low v h ws i k l

-- ---- the record's lists, one after the other

module _ (s out : List ℕ) (f : Facts (book_in s)) (is : out ≡ closing_output (book_in s)) where
  abbrev ws : List ℕ
  ws = words_in s

  abbrev r : Record
  r = record_in s

  abbrev b : Book
  b = book_in s

  abbrev G : ℕ
  G = b.plan.G

  abbrev C : ℕ
  C = b.plan.C

  shape : Shape r
  shape = record_shape ws (length_decode 8 record_numbers s)

  gave : (g : ℕ) → g < G → row_sum C out 0 g ≡ sum C (drawn b g)
  gave g l = sum_cong C _ (drawn b g) (λ c k. rw (zero-add, is) (drawn_at_lem b g c l k))

  took : (c : ℕ) → c < C → column_sum G C out 0 c ≡ sum G (λ g. drawn b g c)
  took c l = sum_cong G _ (λ g. drawn b g c) (λ g k. rw (zero-add, is) (drawn_at_lem b g c k l))

  -- the lists with the counts of the next month; then those that are raised, those that are replaced, and the classes of hours
  counts_after_lem : List (List ℕ) → List (List ℕ)
  counts_after_lem xss =
      let t = r.terms in
      set (set xss 0 (t.generators ∷ t.consumers ∷ t.rate ∷ t.cycle ∷ gone_after b ∷ r.counts.unitblocks ∷ 0 ∷ [])) 22 (r.switch.month ∷ (b.closings + 1) ∷ [])

  runs_counts : cut run_lengths (counts_after ws) ≡ counts_after_lem (cut run_lengths ws)
  unfolding counts_after_lem counts_after record_of from_runs run_lengths cut total
  runs_counts =
      let gone = gone_after b in
      let done = b.closings + 1 in
      let old = cut run_lengths ws in
      let size = run_length run_lengths ws (length_decode 8 record_numbers s) in
      let counts =
      set_run run_lengths (set ws gone_at gone) 0 6 0 (omega arith) ∙
      ap (λ (xss : List (List ℕ)). set xss 0 (set (get_or xss 0 []) 6 0)) (set_run run_lengths ws 0 4 gone (omega arith)) ∙
      ap (set old 0) (counted (take 7 ws) gone (size 0 (omega arith))) in
      set_run run_lengths (set (set ws gone_at gone) month_blocks_at 0) 22 1 done (omega arith) ∙
      ap (λ (xss : List (List ℕ)). set xss 22 (set (get_or xss 22 []) 1 done)) counts ∙
      ap (set (set old 0 _) 22) (counted_closings (get_or old 22 []) done (size 22 (omega arith)))

  totals_after : List (List ℕ) → List (List ℕ)
  totals_after xss =
      let x = r.generators in
      let y = r.consumers in
      set
      (set
      (set
      (set (set (counts_after_lem xss) 11 (table 8 (λ g. place 8 x.charge g + charge b g))) 12
      (table 8 (λ g. place 8 x.drawn g + sum C (drawn b g))))
      13
      (table 8 (λ g. place 8 x.lapsed g + lapsed b g)))
      19
      (table 16 (λ c. place 16 y.drawn c + sum G (λ g. drawn b g c))))
      20
      (table 16 (λ c. place 16 y.supplied c + supplied b c))

  runs_totals : cut run_lengths (totals_raised G C out (counts_after ws)) ≡ totals_after (cut run_lengths ws)
  unfolding totals_after counts_after_lem totals_raised record_of from_runs run_lengths cut total
  runs_totals =
      let x = r.generators in
      let y = r.consumers in
      let few : G ≤ 8 = f.counts.G_high in
      let few' : C ≤ 16 = f.counts.C_high in
      let one =
      list_raised 8 G (counts_after ws) 11 x.charge (λ g. get_or out (G * C + g) 0) (charge b) few refl shape.generators.charge runs_counts refl (λ g l. rw is (charge_at_lem b g l)) (charge_beyond b f) in
      let two =
      list_raised 8 G _ 12 x.drawn (row_sum C out 0) (λ g. sum C (drawn b g)) few refl shape.generators.drawn one refl gave (given_beyond b f) in
      let three =
      list_raised 8 G _ 13 x.lapsed (λ g. get_or out (G * C + G + g) 0) (lapsed b) few refl shape.generators.lapsed two refl (λ g l. rw is (lapsed_at_lem b g l)) (lapsed_beyond b f) in
      let four =
      list_raised 16 C _ 19 y.drawn (column_sum G C out 0) (λ c. sum G (λ g. drawn b g c)) few' refl shape.consumers.drawn three refl took (taken_beyond b f) in
      list_raised 16 C _ 20 y.supplied (λ c. get_or out (G * C + 3 * G + C + c) 0) (supplied b) few' refl shape.consumers.supplied four refl (λ c l. rw is (supplied_at_lem b c l)) (supplied_beyond b f)

  stocks_after : List (List ℕ) → List (List ℕ)
  stocks_after xss = set (set (set (totals_after xss) 14 (table 8 (bank_after b))) 15 (table 8 (λ g. 0))) 21 (table 16 (λ c. 0))

  runs_stocks : cut run_lengths (stocks_replaced G C out (totals_raised G C out (counts_after ws))) ≡ stocks_after (cut run_lengths ws)
  unfolding stocks_after totals_after counts_after_lem stocks_replaced record_of from_runs run_lengths cut total figures generator_at consumer_at
  runs_stocks =
      let x = r.generators in
      let y = r.consumers in
      let few : G ≤ 8 = f.counts.G_high in
      let few' : C ≤ 16 = f.counts.C_high in
      let one =
      list_replaced 8 G _ 14 x.bank (λ g. get_or out (G * C + 2 * G + g) 0) (bank_after b) few refl shape.generators.bank runs_totals refl (λ g l. rw is (bank_at_lem b g l))
      (λ g h l. sym (place_in 8 x.bank g l) ∙ bank_beyond b f g h ∙ sym (bank_after_beyond b f g h)) in
      let two =
      list_replaced 8 G _ 15 x.pending (λ g. 0) (λ g. 0) few refl shape.generators.pending one refl (λ g l. refl) (λ g h l. sym (place_in 8 x.pending g l) ∙ pending_beyond b f g h) in
      list_replaced 16 C _ 21 y.outstanding (λ c. 0) (λ c. 0) few' refl shape.consumers.outstanding two refl (λ c l. refl) (λ c h l. sym (place_in 16 y.outstanding c l) ∙ open_beyond b f c h)

  classes_after_lem : List (List ℕ) → List (List ℕ)
  classes_after_lem xss = emptied 29 (emptied 26 (emptied 23 (stocks_after xss)))

  runs_classes : cut run_lengths (classes_after (by_hours b) G C (stocks_replaced G C out (totals_raised G C out (counts_after ws)))) ≡ classes_after_lem (cut run_lengths ws)
  unfolding classes_after_lem stocks_after totals_after counts_after_lem record_of from_runs run_lengths cut total figures hours_of
  runs_classes =
      let first : 0 < classes = omega arith in
      let second : 1 < classes = omega arith in
      let third : 2 < classes = omega arith in
      let one = class_cleared_lem b f _ 0 23 off_peak_at r.offpeak first refl shape.offpeak refl refl runs_stocks refl in
      let two = class_cleared_lem b f _ 1 26 normal_at r.normal second refl shape.normal refl refl one refl in
      rw (classes_cleared (by_hours b) G C _) (class_cleared_lem b f _ 2 29 peak_at r.peak third refl shape.peak refl refl two refl)

  -- what is not changed stays
  from_runs_lem : from_runs (classes_after_lem (cut run_lengths ws)) ≡ stored (after_closing b)
  unfolding classes_after_lem stocks_after totals_after counts_after_lem runs stored stored_generators stored_consumers stored_stocks no_stocks after_closing generator_after_closing consumer_after_closing figures plan_of generator_at consumer_at
  from_runs_lem = changed_record ws (length_decode 8 record_numbers s) classes_after_lem (after_closing b) refl

  record_after_lem : record_of (classes_after (by_hours b) G C (stocks_replaced G C out (totals_raised G C out (counts_after ws)))) ≡ stored (after_closing b)
  unfolding record_of
  record_after_lem = ap from_runs runs_classes ∙ from_runs_lem

-- ---- what the call requires, and what it makes

module _ {s out : List ℕ} {terms : Terms} {counts : Counts} {switch : Switch} (h : Listed s terms counts switch out) where
  abbrev n : ℕ
  n = terms.generators

  abbrev m : ℕ
  m = terms.consumers

  pub gone_few : counts.gone ≤ most_cycle
  unfolding figures
  gone_few = rw h.head.counts_are (omega (arith, h.sound.counts.gone_high, h.sound.counts.cycle_high))

  pub closings_few : switch.closings ≤ most_unit_blocks
  unfolding figures
  closings_few = rw h.switch_is (omega (arith, h.sound.switch.closings_blocks, h.sound.counts.blocks_high))

  pub totals_raisable : {t : List ℕ} → length t ≡ record_bytes → words_in t ≡ counts_after (words_in s) → Raisable charge_at 136 most_figure t
  unfolding counts_after
  totals_raisable {t} size e =
      let gone = gone_after (book_in s) in
      let few : (book_in s).closings + 1 ≤ most_figure = omega (arith, h.sound.switch.closings_blocks, h.sound.counts.blocks_high) in
      record {
        size = size;
        placed = omega arith;
        low =
            record {
              at = λ k l.
                  rw e (set_low _ few (set (set (words_in s) gone_at gone) month_blocks_at 0) closings_at k
                  (omega (
                    arith,
                    get_or-set_other (set (words_in s) gone_at gone) month_blocks_at k 0 0 (λ x. omega arith),
                    get_or-set_other (words_in s) gone_at k gone 0 (λ x. omega arith),
                    numbers_low (words_in s) (length_decode 8 record_numbers s) h.sound k,
                  )));
            };
      }

  n_is : n ≡ (book_in s).plan.G
  unfolding figures plan_of
  n_is = ap (λ (t : Terms). t.generators) h.head.terms_are

  m_is : m ≡ (book_in s).plan.C
  unfolding figures plan_of
  m_is = ap (λ (t : Terms). t.consumers) h.head.terms_are

  pub lists_stand : ClosingLists n m out
  unfolding closing_length
  lists_stand =
      record {
        generators_few = omega (arith, n_is, h.sound.counts.G_high);
        consumers_few = omega (arith, m_is, h.sound.counts.C_high);
        size = rw (n_is, m_is) (ap length h.output ∙ closing_length_lem (book_in s));
        moderate = rw h.output (closing_output_moderate (book_in s) h.sound);
      }

  -- the bytes of the numbers changed step by step are those of the record that the rules store
  pub bytes_after : (t : List ℕ) {xs ys zs : List ℕ} → length t ≡ record_bytes → Below 256 t →
      xs ≡ counts_after (words_in s) → ys ≡ totals_raised n m out xs → zs ≡ stocks_replaced n m out ys →
      words_in t ≡ classes_after (hours_apply switch.month switch.closings) n m zs →
      t ≡ encode 8 (words (stored (after_closing (book_in s))))
  unfolding figures
  bytes_after t size low counts totals stocks classes =
      sym (bytes_of_record t size low) ∙ rw (classes, stocks, totals, counts, n_is, m_is, h.switch_is) (ap (λ (x : Record). encode 8 (words x)) (record_after_lem s out h.sound h.output))
