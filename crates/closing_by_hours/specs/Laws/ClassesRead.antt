-- ClassBank, pending and open by class as the code reads them from the record's numbers. Assumes nothing.
use Rattle.std.specs.Prelude.{ℕ, ◌+◌, ◌*◌, ◌/◌, ◌%◌, ◌≤◌, ◌<◌, ◌≡◌, refl, Bool, true, false, List, ltb}
use Rattle.std.proofs.Math.Path.{sym, ap, fun_ext}
use Rattle.std.proofs.Common.{◌∙◌, arith, ltb-true, ltb-false}
use Rattle.std.proofs.Math.ListN.{get_or}
use Rattle.lists.specs.Tables.{table}
use Rattle.lists.specs.Laws.TablesLaws.{get_or_table}
use Rattle.lists.specs.Pairs.{place}
use Rattle.lists.specs.Laws.PairsLaws.{place_in, place_out, row_of, column_of_lem}
use Rattle.record.specs.Hours.{classes}
use Rattle.record.specs.Book.{Book, ClassStocks, by_hours}
use Rattle.record.specs.Stored.{hours_of, figures}
use Rattle.record.specs.RecordWords.{record_of}
use Rattle.record.specs.Laws.StoredLaws.{figures_cut}
use Rattle.record_places.specs.Laws.Places.{off_peak_at}
use Rattle.record_layout.specs.Laws.FigurePlaces.{class_bank_place, class_pending_place, class_open_place}
use Rattle.closing_rules.specs.Closing.{stocks_of}

module _ (ws : List ℕ) (at : ℕ) where
  -- number i of a list that stands `at` places after the start of each class
  unfoldable pub class_number : ℕ → ℕ
  class_number i = get_or ws (off_peak_at + i % 3 * 32 + i / 3 + at) 0

-- what consumer c has open of class k
unfoldable pub wanted_at : List ℕ → ℕ → ℕ → ℕ
wanted_at ws c k = get_or ws (off_peak_at + k * 32 + c + 16) 0

-- ---- what was read is what the closing's rules take

module _ (ws : List ℕ) (e : by_hours (figures (record_of ws)) ≡ true) where
  abbrev b : Book
  b = figures (record_of ws)

  -- by hours the closing's stocks are those of the classes
  stocks_are : (k : ℕ) → stocks_of b k ≡ hours_of (record_of ws) k
  unfolding stocks_of figures
  stocks_are k = rw e

  -- a list by generator that was read by class holds the figures of the classes
  list_read : (figure : ClassStocks → ℕ → ℕ) (part : ℕ → ℕ) → ((k g : ℕ) → k < classes → g < 8 → figure (hours_of (record_of ws) k) g ≡ part (g * 3 + k)) →
      ((k g : ℕ) → 8 ≤ g → figure (hours_of (record_of ws) k) g ≡ 0) → place 24 (table 24 part) ≡ (λ i. figure (stocks_of b (i % 3)) (i / 3))
  list_read figure part classed out = fun_ext (λ i. go i (ltb i 24) refl ∙ sym (ap (λ (x : ClassStocks). figure x (i / 3)) (stocks_are (i % 3))))
    where
      go : (i : ℕ) (t : Bool) → ltb i 24 ≡ t → place 24 (table 24 part) i ≡ figure (hours_of (record_of ws) (i % 3)) (i / 3)
      go i true p =
          let l = ltb-true i 24 p in
          let back : i / 3 * 3 + i % 3 ≡ i = omega arith in
          place_in 24 (table 24 part) i l ∙ get_or_table 24 part i 0 l ∙ sym (classed (i % 3) (i / 3) (omega arith) (omega arith) ∙ ap part back)
      go i false p = let l = ltb-false i 24 p in place_out 24 (table 24 part) i l ∙ sym (out (i % 3) (i / 3) (omega arith))

  -- class k's number of generator g, as code reaches it
  class_reached : (at k g : ℕ) → k < 3 → class_number ws at (g * 3 + k) ≡ get_or ws (off_peak_at + k * 32 + g + at) 0
  unfolding class_number
  class_reached at k g l = rw (row_of 3 g k l, column_of_lem 3 g k l)

  pub bank_read : place 24 (table 24 (class_number ws 0)) ≡ (λ i. (stocks_of b (i % 3)).bank (i / 3))
  unfolding figures
  bank_read =
      list_read (λ x. x.bank) (class_number ws 0)
      (λ k g l h. class_bank_place ws k g l h ∙ sym (class_reached 0 k g l ∙ ap (λ (i : ℕ). get_or ws i 0) (omega arith)))
      (λ k g h. (figures_cut (record_of ws)).bank k g h)

  pub pending_read : place 24 (table 24 (class_number ws 8)) ≡ (λ i. (stocks_of b (i % 3)).pending (i / 3))
  unfolding figures
  pending_read =
      list_read (λ x. x.pending) (class_number ws 8) (λ k g l h. class_pending_place ws k g l h ∙ sym (class_reached 8 k g l))
      (λ k g h. (figures_cut (record_of ws)).pending k g h)

  pub wanted_read : (c k : ℕ) → c < 16 → k < classes → wanted_at ws c k ≡ (stocks_of b k).outstanding c
  unfolding wanted_at
  wanted_read c k h l = sym (class_open_place ws k c l h) ∙ sym (ap (λ (x : ClassStocks). x.outstanding c) (stocks_are k))
