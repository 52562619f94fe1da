-- The numbers that a block raises make the record that rule 8 stores. Assumes nothing.
use Prim.Native.Nat.{ℕ, zero, suc, ◌+◌, ◌*◌, ◌≤◌, ◌<◌}
use Rattle.std.specs.Prelude.{◌≡◌, Bool, length, take, if◌then◌else◌}
use Rattle.std.proofs.Math.Path.{refl, sym, ap}
use Rattle.std.proofs.Common.{◌∙◌, arith, length-take-le, get_or-set_other}
use Rattle.std.proofs.Math.Bool.{true, false}
use mathlib.Core.List.{List, [], ◌∷◌}
use Rattle.std.proofs.Math.ListN.{get_or, set}
use Rattle.lists.specs.Sums.{sum}
use Rattle.lists.specs.Tables.{table}
use Rattle.lists.specs.Laws.TablesLaws.{is_table}
use Rattle.lists.specs.Pairs.{place}
use Rattle.lists.specs.Laws.PairsLaws.{place_in}
use Rattle.energy.specs.Limits.{most_figure, most_unit_blocks, most_month_blocks}
use Rattle.codec.specs.Bytes.{encode}
use Rattle.codec.specs.Laws.BytesLaws.{Below, length_decode}
use Rattle.record.specs.Plan.{Plan, deemed}
use Rattle.block_rules.specs.Delivery.{unaccounted, loss_of}
use Rattle.block_rules.specs.Settlement.{set_off, shortfall, remainder, block_output}
use Rattle.block_rules.specs.Laws.Settleable.{Settleable}
use Rattle.block_rules.proofs.BlockBeyond.{loss_beyond, set_off_beyond, shortfall_beyond, unaccounted_beyond, remainder_beyond}
use Rattle.block_rules.specs.Laws.OutputPlaces.{Output, output_back}
use Rattle.record.specs.Stored.{generator_at, consumer_at, class_at, hours_of, plan_of, figures, stored_generators, stored_consumers, stored_stocks, stored}
use Rattle.record.specs.Hours.{classes, slot_after, class_of_slot, hours_apply}
use Rattle.record.specs.Book.{Book, by_hours}
use Rattle.record.specs.Laws.Shape.{Shape, StocksShape}
use Rattle.record.specs.Laws.SoundLaws.{Facts}
use Rattle.record.specs.RecordWords.{runs, run_lengths, total, words, cut, from_runs, record_of}
use Rattle.record.specs.declared.Record.{Record}
use Rattle.record.specs.declared.Counts.{Counts}
use Rattle.record.specs.declared.Switch.{Switch}
use Rattle.record.specs.declared.Stocks.{Stocks}
use Rattle.hours.specs.Laws.Classes.{class_numbers}
use Rattle.record_layout.specs.Laws.NumbersRaised.{from, raised, set_run, raised_other, list_raised}
use Rattle.record_layout.specs.Laws.LayoutLaws.{bytes_of_record}
use Rattle.record_layout.specs.Laws.FigurePlaces.{kind_place, switch_places}
use Rattle.record_layout.specs.Laws.RecordKept.{changed_record, record_shape, numbers_low}
use Rattle.block_rules.specs.Block.{pending_added, inadvertent_added, class_of_block, adds_to, generator_after_block, consumer_after_block, class_after_block, after_block, block_length, entry_of, exit_of}
use Rattle.block_rules.specs.Laws.Enterable.{Enterable}
use Rattle.block_rules.proofs.BlockClasses.{class_few}
use Rattle.block_rules.proofs.BlockSettleable.{settleable}
use Rattle.block_rules.proofs.BlockRoom.{output_moderate}
use Rattle.record_layout.specs.OnBytes.{book_in, record_in}
use Rattle.record_runs.specs.Laws.Raise.{row_sum, column_sum, Raisable}
use Rattle.block_totals.specs.Laws.BlockTotals.{four_raised, five_raised, generators_raised, consumers_raised, counts_raised, stocks_raised, hours_raised, BlockLists, Settled}
use Rattle.block_totals.specs.Laws.BlockTotalsLaws.{all_stay}
use Rattle.block_totals.specs.Laws.BlockAdded.{row, column, lost, no_row, no_column, by_kind_lem, no_kind}
use Rattle.record_places.specs.RecordSize.{record_numbers, record_bytes, words_in}
use Rattle.record_places.specs.Laws.Places.{agreed_at, injected_at, switch_month_at, closings_at, off_peak_at, normal_at, peak_at}

-- the counts of blocks, behind the five first numbers
counted : (xs : List ℕ) (b m : ℕ) → length xs ≡ 7 → set (set xs 5 b) 6 m ≡ get_or xs 0 0 ∷ get_or xs 1 0 ∷ get_or xs 2 0 ∷ get_or xs 3 0 ∷ get_or xs 4 0 ∷ b ∷ m ∷ []
unfolding table
counted xs b m e = ap (λ (ys : List ℕ). set (set ys 5 b) 6 m) (is_table 0 7 (λ i. get_or xs i 0) xs e (λ i l. refl))

module _ (s entry exit out : List ℕ) (f : Facts (book_in s)) (ok : Enterable entry exit (length out) (book_in s)) (is : out ≡ block_output (book_in s).plan (entry_of entry exit (book_in s)) (exit_of entry exit (book_in s))) where
  abbrev ws : List ℕ
  ws = words_in s

  abbrev r : Record
  r = record_in s

  abbrev p : Plan
  p = (book_in s).plan

  abbrev E : ℕ → ℕ
  E = entry_of entry exit (book_in s)

  abbrev R : ℕ → ℕ
  R = exit_of entry exit (book_in s)

  listed : Output p E R out
  listed = rw is (output_back p E R)

  able : Settleable p E R
  able = settleable entry exit (length out) (book_in s) f ok

  shape : Shape r
  shape = record_shape ws (length_decode 8 record_numbers s)

  -- the kinds stand before all that is raised
  abbrev Kinds : List ℕ → Type 0
  Kinds xs = (g : ℕ) → g < p.G → get_or xs (agreed_at + g * 3) 0 ≡ p.kind g

  kinds : Kinds ws
  unfolding figures plan_of
  kinds g l = let few : g < 8 = omega (arith, f.counts.G_high) in sym (place_in 8 r.agreed.kind g few ∙ kind_place ws g few)

  kinds_raised : (at : ℕ) (v : ℕ → ℕ) (xs : List ℕ) → injected_at ≤ at → Kinds xs → Kinds (raised (from at) p.G v xs)
  kinds_raised at v xs low k g l = raised_other (from at) v xs p.G (agreed_at + g * 3) (λ i a x. omega (arith, f.counts.G_high)) ∙ k g l

  kinds_four : Kinds (four_raised p.G p.C entry out ws)
  unfolding four_raised
  kinds_four = kinds_raised _ _ _ (omega arith) (kinds_raised _ _ _ (omega arith) (kinds_raised _ _ _ (omega arith) (kinds_raised _ _ _ (omega arith) kinds)))

  kinds_five : Kinds (five_raised p.G p.C entry out ws)
  unfolding five_raised
  kinds_five = kinds_raised _ _ _ (omega arith) kinds_four

  -- the lists with those of the generators raised; then those of the consumers, and the counts
  generators_after : List (List ℕ) → List (List ℕ)
  generators_after xss =
      let x = r.generators in
      set
      (set
      (set
      (set
      (set (set xss 6 (table 8 (λ g. place 8 x.injected g + E g))) 7
      (table 8 (λ g. place 8 x.unaccounted g + unaccounted p g (E g))))
      8
      (table 8 (λ g. place 8 x.lost g + sum p.C (λ c. loss_of p g (E g) c))))
      9
      (table 8 (λ g. place 8 x.setoff g + sum p.C (λ c. set_off p E c (R c) g))))
      10
      (table 8 (λ g. place 8 x.inadvertent g + inadvertent_added p E R g)))
      15
      (table 8 (λ g. place 8 x.pending g + pending_added p E R g))

  runs_generators : cut run_lengths (generators_raised p.G p.C entry out ws) ≡ generators_after (cut run_lengths ws)
  unfolding generators_after generators_raised five_raised four_raised record_of from_runs run_lengths cut total entry_of deemed
  runs_generators =
      let x = r.generators in
      let z = shape.generators in
      let few : p.G ≤ 8 = f.counts.G_high in
      let d = able.entries in
      let one =
      list_raised 8 p.G ws 6 x.injected (λ g. get_or entry g 0) E few refl z.injected refl refl (λ g l. sym (place_in p.G entry g l)) d.entry_beyond in
      let two =
      list_raised 8 p.G _ 7 x.unaccounted (λ g. get_or out (4 * (p.G * p.C) + g) 0) (λ g. unaccounted p g (E g)) few refl z.unaccounted one refl listed.missed_is (unaccounted_beyond p E R able) in
      let three =
      list_raised 8 p.G _ 8 x.lost (row_sum p.C out 0) (λ g. sum p.C (λ c. loss_of p g (E g) c)) few refl z.lost two refl (lost p E R out listed able)
      (no_row p E R out listed able (λ g c. loss_of p g (E g) c) (λ g c o. loss_beyond p E d g c o (E g))) in
      let four =
      list_raised 8 p.G _ 9 x.setoff (row_sum p.C out (p.G * p.C)) (λ g. sum p.C (λ c. set_off p E c (R c) g)) few refl z.setoff three refl
      (row p E R out listed able (p.G * p.C) (λ g c. set_off p E c (R c) g) listed.setoff_is) (no_row p E R out listed able (λ g c. set_off p E c (R c) g) (λ g c o. set_off_beyond p E d g c o (R c))) in
      let five =
      list_raised 8 p.G _ 10 x.inadvertent _ (inadvertent_added p E R) few refl z.inadvertent four refl
      (by_kind_lem p E R out listed able false _ kinds_four) (no_kind p E R out listed able false) in
      list_raised 8 p.G _ 15 x.pending _ (pending_added p E R) few refl z.pending five refl
      (by_kind_lem p E R out listed able true _ kinds_five) (no_kind p E R out listed able true)

  consumers_after : List (List ℕ) → List (List ℕ)
  consumers_after xss =
      let y = r.consumers in
      set
      (set
      (set (set (generators_after xss) 16 (table 16 (λ c. place 16 y.metered c + R c))) 17
      (table 16 (λ c. place 16 y.setoff c + sum p.G (λ g. set_off p E c (R c) g))))
      18
      (table 16 (λ c. place 16 y.shortfall c + sum p.G (λ g. shortfall p E c (R c) g))))
      21
      (table 16 (λ c. place 16 y.outstanding c + remainder p E c (R c)))

  abbrev totals : List ℕ
  totals = consumers_raised p.G p.C exit out (generators_raised p.G p.C entry out ws)

  runs_consumers : cut run_lengths totals ≡ consumers_after (cut run_lengths ws)
  unfolding consumers_after generators_after consumers_raised record_of from_runs run_lengths cut total exit_of
  runs_consumers =
      let y = r.consumers in
      let z = shape.consumers in
      let few : p.C ≤ 16 = f.counts.C_high in
      let d = able.entries in
      let one =
      list_raised 16 p.C _ 16 y.metered (λ c. get_or exit c 0) R few refl z.metered runs_generators refl (λ c l. sym (place_in p.C exit c l)) able.exit_beyond in
      let two =
      list_raised 16 p.C _ 17 y.setoff (column_sum p.G p.C out (p.G * p.C)) (λ c. sum p.G (λ g. set_off p E c (R c) g)) few refl z.setoff one refl
      (column p E R out listed able (p.G * p.C) (λ g c. set_off p E c (R c) g) listed.setoff_is) (no_column p E R out listed able (λ g c. set_off p E c (R c) g) (λ g c o. set_off_beyond p E d g c o (R c))) in
      let three =
      list_raised 16 p.C _ 18 y.shortfall (column_sum p.G p.C out (3 * (p.G * p.C))) (λ c. sum p.G (λ g. shortfall p E c (R c) g)) few refl z.shortfall two refl
      (column p E R out listed able (3 * (p.G * p.C)) (λ g c. shortfall p E c (R c) g) listed.short_is) (no_column p E R out listed able (λ g c. shortfall p E c (R c) g) (λ g c o. shortfall_beyond p E d g c o (R c))) in
      list_raised 16 p.C _ 21 y.outstanding (λ c. get_or out (4 * (p.G * p.C) + p.G + c) 0) (λ c. remainder p E c (R c)) few refl z.outstanding three refl listed.left_is (remainder_beyond p E R able)

  counts_after_lem : List (List ℕ) → List (List ℕ)
  counts_after_lem xss =
      let t = r.terms in
      let n = r.counts in
      set (consumers_after xss) 0 (t.generators ∷ t.consumers ∷ t.rate ∷ t.cycle ∷ n.gone ∷ (n.unitblocks + 1) ∷ (n.monthblocks + 1) ∷ [])

  runs_counts : cut run_lengths (counts_raised r.counts totals) ≡ counts_after_lem (cut run_lengths ws)
  unfolding counts_after_lem consumers_after generators_after counts_raised record_of from_runs run_lengths cut total
  runs_counts =
      let b = r.counts.unitblocks + 1 in
      let m = r.counts.monthblocks + 1 in
      let put : ℕ → ℕ → List (List ℕ) → List (List ℕ) = λ i v xss. set xss 0 (set (get_or xss 0 []) i v) in
      let first : cut run_lengths (set totals 5 b) ≡ put 5 b (consumers_after (cut run_lengths ws)) = set_run run_lengths totals 0 5 b (omega arith) ∙ ap (put 5 b) runs_consumers in
      set_run run_lengths (set totals 5 b) 0 6 m (omega arith) ∙ ap (put 6 m) first ∙
      ap (set (consumers_after (cut run_lengths ws)) 0) (counted (take 7 ws) b m (length-take-le 7 ws (omega (arith, length_decode 8 record_numbers s))))

  -- ---- a class of hours

  -- the class whose bank is run j of the runs xss and starts at this place, with what it holds
  record ClassIn (j start : ℕ) (x : Stocks) (xss : List (List ℕ)) : Type 0 where
    pending_width : get_or run_lengths (j + 1) 0 ≡ 8
    open_width : get_or run_lengths (j + 2) 0 ≡ 16
    pending_place : total (take (j + 1) run_lengths) ≡ start + 8
    open_place : total (take (j + 2) run_lengths) ≡ start + 16
    pending_is : get_or xss (j + 1) [] ≡ x.pending
    open_is : get_or xss (j + 2) [] ≡ x.outstanding
    holds : StocksShape x

  class_after : (j : ℕ) (x : Stocks) → List (List ℕ) → List (List ℕ)
  class_after j x xss =
      set (set xss (j + 1) (table 8 (λ g. place 8 x.pending g + pending_added p E R g))) (j + 2) (table 16 (λ c. place 16 x.outstanding c + remainder p E c (R c)))

  runs_class : (j start : ℕ) (x : Stocks) (xs : List ℕ) {xss : List (List ℕ)} → Kinds xs → cut run_lengths xs ≡ xss → ClassIn j start x xss →
      cut run_lengths (stocks_raised p.G p.C out xs start) ≡ class_after j x xss
  unfolding class_after stocks_raised deemed
  runs_class j start x xs {xss} k at h =
      let pending =
      list_raised 8 p.G xs (j + 1) x.pending _ (pending_added p E R) f.counts.G_high h.pending_width h.holds.pending at h.pending_is
      (by_kind_lem p E R out listed able true _ k) (no_kind p E R out listed able true) in
      let remaining =
      list_raised 16 p.C _ (j + 2) x.outstanding _ (λ c. remainder p E c (R c)) f.counts.C_high h.open_width h.holds.outstanding pending
      (get_or-set_other xss (j + 1) (j + 2) _ [] (λ e. omega arith) ∙ h.open_is) listed.left_is (remainder_beyond p E R able) in
      rw (← h.pending_place, ← h.open_place) remaining

  -- ---- the record

  abbrev after : Book
  after = after_block (book_in s) E R

  -- runs changed so that they are those of the record that rule 8 stores
  from_runs_lem : (change : List (List ℕ) → List (List ℕ)) (xs : List ℕ) → cut run_lengths xs ≡ change (cut run_lengths ws) → change (runs (stored (book_in s))) ≡ runs (stored after) → record_of xs ≡ stored after
  unfolding record_of
  from_runs_lem change xs e same = ap from_runs e ∙ changed_record ws (length_decode 8 record_numbers s) change after same

  abbrev counted_all : List ℕ
  counted_all = counts_raised r.counts totals

  -- before the switch no class gains
  no_class : by_hours (book_in s) ≡ false → record_of counted_all ≡ stored after
  unfolding counts_after_lem consumers_after generators_after runs stored stored_generators stored_consumers stored_stocks after_block generator_after_block consumer_after_block class_after_block adds_to figures plan_of generator_at consumer_at hours_of class_at
  no_class e = from_runs_lem counts_after_lem counted_all runs_counts (rw e)

  -- what is neither count nor total stays
  stays : (k : ℕ) → agreed_at ≤ k → ((i : ℕ) → i < 176 → k ≡ injected_at + i → ⊥) → get_or counted_all k 0 ≡ get_or ws k 0
  stays k = all_stay p.G p.C entry exit out r.counts ws k f.counts.G_high f.counts.C_high

  kinds_all : Kinds counted_all
  kinds_all g l = let few : g < 8 = omega (arith, f.counts.G_high) in stays (agreed_at + g * 3) (omega arith) (λ i o x. omega arith) ∙ kinds g l

  one_class : (j start : ℕ) (x : Stocks) → ClassIn j start x (counts_after_lem (cut run_lengths ws)) → class_after j x (counts_after_lem (runs (stored (book_in s)))) ≡ runs (stored after) →
      record_of (stocks_raised p.G p.C out counted_all start) ≡ stored after
  one_class j start x h = from_runs_lem (λ xss. class_after j x (counts_after_lem xss)) _ (runs_class j start x counted_all kinds_all runs_counts h)

  -- by hours the class of the block does
  of_class_lem : (k : ℕ) → k < classes → by_hours (book_in s) ≡ true → class_of_block (book_in s) ≡ k → record_of (stocks_raised p.G p.C out counted_all (off_peak_at + class_numbers * k)) ≡ stored after
  unfolding class_after counts_after_lem consumers_after generators_after runs run_lengths cut total record_of from_runs stored stored_generators stored_consumers stored_stocks after_block generator_after_block consumer_after_block class_after_block adds_to figures plan_of generator_at consumer_at hours_of class_at
  of_class_lem zero l e d =
      one_class 23 off_peak_at r.offpeak
      (record { pending_width = refl; open_width = refl; pending_place = refl; open_place = refl; pending_is = refl; open_is = refl; holds = shape.offpeak }) (rw (e, d))
  of_class_lem (suc zero) l e d =
      one_class 26 normal_at r.normal
      (record { pending_width = refl; open_width = refl; pending_place = refl; open_place = refl; pending_is = refl; open_is = refl; holds = shape.normal }) (rw (e, d))
  of_class_lem (suc (suc zero)) l e d =
      one_class 29 peak_at r.peak
      (record { pending_width = refl; open_width = refl; pending_place = refl; open_place = refl; pending_is = refl; open_is = refl; holds = shape.peak }) (rw (e, d))
  of_class_lem (suc (suc (suc k))) l e d = absurd (omega arith)

  -- the switch and the closings done stand behind all that is raised so far
  by_hours_lem : hours_apply (get_or counted_all switch_month_at 0) (get_or counted_all closings_at 0) ≡ by_hours (book_in s)
  unfolding figures
  by_hours_lem =
      rw (stays switch_month_at (omega arith) (λ i o x. omega arith), stays closings_at (omega arith) (λ i o x. omega arith)) (ap (λ (x : Switch). hours_apply x.month x.closings) (sym (switch_places ws)))

  record_after_lem : record_of (hours_raised p.G p.C out counted_all r.counts.monthblocks) ≡ stored after
  unfolding hours_raised figures
  record_after_lem = rw by_hours_lem (go (by_hours (book_in s)) refl)
    where
      k : ℕ
      k = class_of_slot (slot_after r.counts.monthblocks)

      go : (t : Bool) → by_hours (book_in s) ≡ t → record_of (if t then stocks_raised p.G p.C out counted_all (off_peak_at + class_numbers * k) else counted_all) ≡ stored after
      go true e = of_class_lem k (class_few _) e refl
      go false e = no_class e

-- ---- what the call requires, and what it makes

module _ {s : List ℕ} {n m : ℕ} {counts : Counts} {entry exit out : List ℕ} (h : Settled s n m counts entry exit out) where
  -- bytes of the numbers raised are those of the record that rule 8 stores
  pub bytes_after : (t : List ℕ) → length t ≡ record_bytes → Below 256 t → words_in t ≡ hours_raised n m out (counts_raised counts (consumers_raised n m exit out (generators_raised n m entry out (words_in s)))) counts.monthblocks →
      t ≡ encode 8 (words (stored (after_block (book_in s) (entry_of entry exit (book_in s)) (exit_of entry exit (book_in s)))))
  bytes_after t size low e =
      sym (bytes_of_record t size low) ∙
      rw (e, h.counts_are, h.generators, h.consumers) (ap (λ (x : Record). encode 8 (words x)) (record_after_lem s entry exit out h.sound h.enterable h.output))

  pub totals_raisable : Raisable injected_at 80 most_figure s
  totals_raisable =
      record { size = h.size; placed = omega arith; low = record { at = λ k l. numbers_low (words_in s) (length_decode 8 record_numbers s) h.sound k } }

  pub lists_stand : BlockLists n m out
  unfolding figures plan_of block_length
  lists_stand =
      record {
        generators_few = omega (arith, h.generators, h.sound.counts.G_high);
        consumers_few = omega (arith, h.consumers, h.sound.counts.C_high);
        size = rw (h.generators, h.consumers) h.enterable.output_size;
        moderate = rw h.output (output_moderate (record_in s) _ _ h.sound h.enterable.entry_most h.enterable.exit_most);
      }

  -- the classes stand behind all that is raised before them
  pub classes_raisable : (t : List ℕ) → length t ≡ record_bytes → words_in t ≡ counts_raised counts (consumers_raised n m exit out (generators_raised n m entry out (words_in s))) → Raisable off_peak_at 96 most_figure t
  classes_raisable t size e =
      record {
        size = size;
        placed = omega arith;
        low = record { at = λ k l. rw (e, all_stay n m entry exit out counts (words_in s) k lists_stand.generators_few lists_stand.consumers_few (omega arith) (λ i o x. omega arith)) (totals_raisable.low.at k (omega arith)) };
      }

  pub counts_low : (counts.unitblocks ≤ most_unit_blocks) × (counts.monthblocks ≤ most_month_blocks)
  unfolding figures
  counts_low = rw h.counts_are (h.sound.counts.blocks_high, h.sound.counts.month_high)

  pub entry_sized : length entry ≡ n
  entry_sized = h.enterable.entry_size ∙ sym h.generators

  pub exit_sized : length exit ≡ m
  exit_sized = h.enterable.exit_size ∙ sym h.consumers
