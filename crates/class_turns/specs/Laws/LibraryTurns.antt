-- The library settles a consumer's three classes together. What it leaves in the bank, and what it lists as supplied, is what the turns leave and
-- lack one after another. Assumes nothing.
use Rattle.std.specs.Prelude.{ℕ, zero, suc, ◌+◌, ◌-◌, ◌*◌, ◌/◌, ◌%◌, ◌≤◌, ◌<◌, ◌≡◌, replicate}
use Rattle.std.proofs.Common.{sym, ◌∙◌, add-zero, add-suc, arith}
use Rattle.std.proofs.Math.Path.{ap, fun_ext}
use mathlib.Core.List.{List}
use Rattle.std.proofs.Math.ListN.{get_or}
use Rattle.lists.specs.Sums.{sum}
use Rattle.lists.specs.Laws.SumsLaws.{sum_part}
use Rattle.lists.specs.Laws.TablesLaws.{filled_before}
use Rattle.lists.specs.Pairs.{place}
use Rattle.record.specs.Hours.{classes}
use Rattle.record.specs.Book.{Book}
use Rattle.record.specs.Laws.SoundLaws.{Facts}
use Rattle.closing_rules.specs.Drawing.{stock_at}
use Rattle.closing_rules.specs.Closing.{turn, stocks_of, serving, stock, want, supplied_of, supplied}
use Rattle.closing_rules.proofs.DrawingLaws.{stock_stays}
use Rattle.closing_rules.proofs.ClosingLaws.{open_total_lem}
use Rattle.closing_rules.proofs.ClosingBeyond.{open_beyond}
use Rattle.closing_by_hours.specs.Laws.HoursDrawing.{Drawn}
use Rattle.class_turns.specs.Laws.TurnsSettled.{TurnsSettled}

module _ (b : Book) (f : Facts b) where
  abbrev at : ℕ → ℕ → ℕ
  at = stock_at (serving b) (stock b) (want b)

  abbrev last : ℕ
  last = b.plan.C * classes

  -- turns beyond the agreement want nothing, so they leave every stock as it is
  wants_none : (t : ℕ) → last ≤ t → want b t ≡ 0
  unfolding want
  wants_none t l =
      omega (arith, sum_part classes (λ k. (stocks_of b k).outstanding (t / 3)) (t % 3) (omega arith), open_total_lem b f (t / 3), open_beyond b f (t / 3) (omega arith))

  stays : (i : ℕ) → at (last + i) ≡ at last
  stays zero = rw add-zero
  stays (suc i) = rw add-suc (fun_ext (λ s. stock_stays (serving b) (stock b) (want b) s (last + i) (wants_none (last + i) (omega arith)))) ∙ stays i

  module _ {n m : ℕ} {left drawn supplied' balance lacking : List ℕ} (library : Drawn b n m b.plan.C left drawn supplied') (turns : TurnsSettled b 48 balance lacking) where
    pub same_bank : place 24 left ≡ place 24 balance
    same_bank =
        let e : last + (48 - last) ≡ 48 = omega (arith, f.counts.C_high) in
        library.left_is ∙ sym (turns.balance_is ∙ ap at (sym e) ∙ stays (48 - last))

    lacks : (c k : ℕ) → c < b.plan.C → k < classes → get_or lacking (turn c k) 0 ≡ supplied_of b k c
    unfolding supplied_of
    lacks c k l h = ap (λ (xs : List ℕ). get_or xs (turn c k) 0) turns.lacking_is.is ∙ filled_before (replicate 48 0) 48 _ (turn c k) 0 (omega (arith, f.counts.C_high))

    pub same_supplied : (c : ℕ) → c < b.plan.C → get_or supplied' c 0 ≡ get_or lacking (turn c 0) 0 + get_or lacking (turn c 1) 0 + get_or lacking (turn c 2) 0
    unfolding supplied sum
    same_supplied c l =
        ap (λ (xs : List ℕ). get_or xs c 0) library.supplied_is.is ∙ filled_before (replicate 16 0) b.plan.C (supplied b) c 0 l ∙
        omega (arith, lacks c 0 l (omega arith), lacks c 1 l (omega arith), lacks c 2 l (omega arith))
