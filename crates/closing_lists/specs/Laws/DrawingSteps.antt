-- Steps 2 and 3 of a closing as the code goes through them. Assumes nothing.
use Rattle.std.specs.Prelude.{ℕ, ◌+◌, ◌*◌, ◌≤◌, ◌<◌, ◌≡◌, refl, List, length, set, replicate}
use Rattle.std.proofs.Math.Path.{ap}
use Rattle.std.proofs.Common.{◌∙◌, add-one, arith}
use Rattle.std.proofs.Math.ListN.{get_or}
use Rattle.lists.specs.Tables.{table}
use Rattle.lists.specs.Laws.TablesLaws.{get_or_table, table_same, Filling, fill_start, fill_step, filled_before}
use Rattle.lists.specs.Pairs.{place}
use Rattle.order_rules.specs.Settle.{given, kept, unmet}
use Rattle.output_lists.specs.Laws.Columns.{ColumnPut, Columns}
use Rattle.output_lists.specs.Laws.ColumnsLaws.{columns_start, columns_step}
use Rattle.closing_rules.specs.Drawing.{stock_at, drawn_at, missing_at}
use Rattle.bank.specs.Laws.BankSteps.{Drew}

module _ (serving : ℕ → List ℕ) (has want : ℕ → ℕ) (n m : ℕ) where
  -- The first c consumers have drawn: the balances that they leave, their columns of the list of n rows of m, and what each lacks.
  pub record Drawn (c : ℕ) (left drawn supplied : List ℕ) : Type 0 where
    pub size : length left ≡ 8
    pub left_is : place 8 left ≡ stock_at serving has want c
    pub drawn_is : Columns n m (drawn_at serving has want) c drawn
    pub supplied_is : Filling 16 (missing_at serving has want) (replicate 16 0) c supplied

  pub drawing_step : {c open' x : ℕ} {left left' drawn drawn' column supplied : List ℕ} → c < m → m ≤ 16 → n ≤ 8 → Drawn c left drawn supplied →
      open' ≡ want c → Drew (serving c) open' left left' column x → ColumnPut n m drawn c column n drawn' → Drawn (c + 1) left' drawn' (set supplied c x)
  unfolding stock_at drawn_at missing_at
  drawing_step {c} l wide few h w d put =
      let gs = serving c in
      let has = h.left_is in
      record {
        size = d.size;
        left_is = rw (add-one c) (d.leaves ∙ (λ i. kept gs (has i) (w i)));
        drawn_is = columns_step h.drawn_is l put (λ g k. ap (λ (xs : List ℕ). get_or xs g 0) d.gives ∙ get_or_table 8 _ g 0 (omega arith) ∙ (λ i. given gs (has i) (w i) g));
        supplied_is = fill_step h.supplied_is (omega arith) (d.lacks ∙ (λ i. unmet gs (has i) (w i)));
      }

  -- what each of the consumers lacks, in the list's places
  pub supplied_are : {c : ℕ} {left drawn supplied : List ℕ} → Drawn c left drawn supplied → table c (λ j. get_or supplied j 0) ≡ table c (missing_at serving has want)
  supplied_are {c} h =
      table_same c _ _ (λ j l. ap (λ (ys : List ℕ). get_or ys j 0) h.supplied_is.is ∙ filled_before (replicate 16 0) c (missing_at serving has want) j 0 l)

pub drawing_start : (serving : ℕ → List ℕ) (left : List ℕ) (want : ℕ → ℕ) (n m : ℕ) {drawn : List ℕ} → length left ≡ 8 → length drawn ≡ n * m →
    Drawn serving (place 8 left) want n m 0 left drawn (replicate 16 0)
unfolding stock_at
drawing_start serving left want n m e z = record { size = e; left_is = refl; drawn_is = columns_start z; supplied_is = fill_start refl }
