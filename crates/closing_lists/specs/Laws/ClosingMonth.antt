-- Steps 1 to 4 on the arrays of a record give the former output on its figures. Assumes nothing.
use Prim.Native.Nat.{ℕ, ◌≤◌}
use Rattle.std.specs.Prelude.{◌≡◌, Bool, if◌then◌else◌}
use Rattle.std.proofs.Math.Path.{ap}
use Rattle.std.proofs.Common.{◌∙◌, arith}
use mathlib.Core.List.{List, [], ◌∷◌, ◌++◌}
use Rattle.std.proofs.Math.ListN.{get_or}
use Rattle.lists.specs.Tables.{table}
use Rattle.lists.specs.Pairs.{place, pairs, joined}
use Rattle.lists.specs.Laws.PairsLaws.{place_out, place_table}
use Rattle.output_lists.specs.Laws.ColumnsLaws.{columns_pairs}
use Rattle.output_lists.specs.Laws.StretchesWritten.{list_places, list_table}
use Rattle.record.specs.Plan.{suppliers}
use Rattle.record.specs.Book.{Book}
use Rattle.record.specs.Stored.{generator_at, consumer_at, plan_of, figures}
use Rattle.record.specs.declared.Record.{Record}
use Rattle.closing_rules.specs.Drawing.{stock_at, drawn_at, missing_at}
use Rattle.closing_rules.specs.FormerClosing.{former_charge, former_credited, former_open, former_banks, former_drawn, former_supplied, former_bank_before_lapse, former_lapsed, former_bank_after, former_output}
use Rattle.bank.specs.Laws.CreditLaws.{charge_at, credit_at}
use Rattle.closing_lists.specs.Laws.DrawingSteps.{Drawn, supplied_are}
use Rattle.closing_lists.specs.Laws.ClosingWritten.{five_lists}

module _ (r : Record) (few : r.terms.generators ≤ 8) (narrow : r.terms.consumers ≤ 16) (due : Bool) where
  abbrev b : Book
  b = figures r

  abbrev G : ℕ
  G = r.terms.generators

  abbrev C : ℕ
  C = r.terms.consumers

  abbrev serving : ℕ → List ℕ
  serving = suppliers (plan_of r)

  abbrev want : ℕ → ℕ
  want = place 16 r.consumers.outstanding

  none_beyond : (g : ℕ) → 8 ≤ g → former_credited b g ≡ 0
  unfolding former_credited figures generator_at
  none_beyond g h = omega (arith, place_out 8 r.generators.bank g h, place_out 8 r.generators.pending g h)

  -- the balances that are credited are what step 1 leaves in the bank; by them the turns of step 2 are those of the rules
  pub output_is : {credited charge left out supplied lapsed balance : List ℕ} →
      credited ≡ table 8 (credit_at 8 r.generators.pending r.terms.rate r.generators.bank) → charge ≡ table 8 (charge_at 8 r.generators.pending r.terms.rate) →
      Drawn serving (place 8 credited) want G C C left out supplied →
      lapsed ≡ table 8 (λ g. if due then place 8 left g else 0) → balance ≡ table 8 (λ g. if due then 0 else place 8 left g) →
      out ++ five_lists charge lapsed balance r.consumers.outstanding supplied G C ≡ former_output b due
  unfolding credit_at charge_at five_lists joined former_output former_credited former_charge former_open former_banks former_drawn former_supplied former_lapsed former_bank_after former_bank_before_lapse figures generator_at consumer_at plan_of
  output_is {credited} {left = left} {out} credit charges drew lapse after =
      let has : place 8 credited ≡ former_credited b = ap (place 8) credit ∙ place_table 8 (former_credited b) none_beyond in
      let stays : place 8 left ≡ former_bank_before_lapse b = drew.left_is ∙ (λ i. stock_at serving (has i) want C) in
      let drawn_are : out ≡ pairs G C (former_drawn b) = columns_pairs drew.drawn_is ∙ (λ i. pairs G C (drawn_at serving (has i) want)) in
      let lapsed_are = lapse ∙ (λ i. table 8 (λ g. if due then stays i g else 0)) in
      let balances = after ∙ (λ i. table 8 (λ g. if due then 0 else stays i g)) in
      let lacking = supplied_are serving _ want G C drew ∙ (λ i. table C (missing_at serving (has i) want)) in
      let first : (xs : List ℕ) (f : ℕ → ℕ) → xs ≡ table 8 f → table G (λ g. get_or xs g 0) ≡ table G f = λ xs f e. ap (λ (ys : List ℕ). table G (λ g. get_or ys g 0)) e ∙ list_table G 8 f few in
      (λ i. joined (drawn_are i ∷ first _ (former_charge b) charges i ∷ first _ (former_lapsed b due) lapsed_are i ∷ first _ (former_bank_after b due) balances i ∷ list_places C 16 r.consumers.outstanding narrow i ∷ lacking i ∷ []))
