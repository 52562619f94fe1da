-- Steps 2 and 3 of a closing by hours, turn after turn. Assumes nothing.
use Rattle.std.specs.Prelude.{ℕ, ◌+◌, ◌<◌, ◌≡◌, List, length, set, replicate}
use Rattle.std.proofs.Math.Path.{refl, sym, ap}
use Rattle.std.proofs.Common.{◌∙◌, add-one}
use Rattle.lists.specs.Laws.TablesLaws.{Filling, fill_start, fill_step}
use Rattle.lists.specs.Pairs.{place}
use Rattle.order_rules.specs.Settle.{kept, unmet}
use Rattle.record.specs.Hours.{classes}
use Rattle.record.specs.Plan.{suppliers}
use Rattle.record.specs.Book.{Book}
use Rattle.closing_rules.specs.Drawing.{stock_at, missing_at}
use Rattle.closing_rules.specs.Closing.{turn, sources_of, stocks_of, serving, stock, want}
use Rattle.closing_rules.proofs.ClosingLaws.{serving_at, want_at}
use Rattle.class_bank.specs.Laws.Serving.{Served}

module _ (b : Book) where
  -- t turns are settled: the balances that they leave, and what each lacks
  pub record TurnsSettled (t : ℕ) (balance lacking : List ℕ) : Type 0 where
    pub size : length balance ≡ 24
    pub balance_is : place 24 balance ≡ stock_at (serving b) (stock b) (want b) t
    pub lacking_is : Filling 48 (missing_at (serving b) (stock b) (want b)) (replicate 48 0) t lacking

  pub turns_start : {balance : List ℕ} → length balance ≡ 24 → place 24 balance ≡ stock b → TurnsSettled 0 balance (replicate 48 0)
  unfolding stock_at
  turns_start z e = record { size = z; balance_is = e; lacking_is = fill_start refl }

  -- consumer c has had its turn for class k
  pub turns_step : {t x : ℕ} {balance balance' lacking gs : List ℕ} {wanted : ℕ} (c k : ℕ) → t ≡ turn c k → k < classes → t < 48 → TurnsSettled t balance lacking →
      gs ≡ suppliers b.plan c → wanted ≡ (stocks_of b k).outstanding c → Served k gs wanted balance balance' x → TurnsSettled (t + 1) balance' (set lacking (turn c k) x)
  unfolding stock_at missing_at
  turns_step {t} c k e l h done p w served =
      let who : sources_of k _ ≡ serving b t = ap (sources_of k) p ∙ sym (serving_at b c k l) ∙ ap (serving b) (sym e) in
      let wants : _ ≡ want b t = w ∙ sym (want_at b c k l) ∙ ap (want b) (sym e) in
      record {
        size = served.size;
        balance_is = served.has_is ∙ (λ i. kept (who i) (done.balance_is i) (wants i)) ∙ rw add-one;
        lacking_is = rw (sym e) (fill_step done.lacking_is h (served.left_is ∙ (λ i. unmet (who i) (done.balance_is i) (wants i))));
      }
