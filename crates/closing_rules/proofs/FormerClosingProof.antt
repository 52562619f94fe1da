-- Before the switch month a closing is document 01's: the theorem `before_switch_former`. Assumes nothing.
use Prim.Native.Nat.{ℕ, zero, suc, ◌+◌, ◌*◌, ◌<◌}
use Rattle.std.specs.Prelude.{◌≡◌, refl, Bool, true, false, ◌||◌}
use Rattle.std.proofs.Math.Path.{ap, fun_ext}
use Rattle.std.proofs.Common.{◌∙◌}
use native.Mathlib.Omega.{arith}
use Rattle.lists.specs.Sums.{sum}
use Rattle.energy.specs.Energy.{portion_up}
use Rattle.energy.specs.Laws.EnergyLaws.{portion_zero}
use Rattle.order_rules.specs.Settle.{Rest, settle, kept, unmet}
use Rattle.record.specs.Plan.{suppliers}
use Rattle.record.specs.Hours.{classes, peak, before_switch}
use Rattle.record.specs.Book.{Book, ClassStocks, by_hours}
use Rattle.closing_rules.specs.Drawing.{stock_at, missing_at}
use Rattle.closing_rules.proofs.DrawingLaws as Turns
use Rattle.closing_rules.specs.Closing.{lapse_due, source, turn, sources_of, undivided, stocks_of, taken_up, charge_of, credited, serving, stock, want, drawn_of, bank_left, supplied_of, charge, drawn, supplied, bank_before_lapse, lapses, gone_after, lapsed, bank_after, generator_after_closing, consumer_after_closing, after_closing, closing_lists, closing_output}
use Rattle.closing_rules.proofs.ClosingLaws.{serving_at, want_at, stock_at_lem, consumer_drawn, pending_below, stock_below, want_below, left_none, supplied_none}
use Rattle.closing_rules.proofs.PeakAlone.{of_peak, peak_alone}
use Rattle.closing_rules.specs.FormerClosing.{former_charge, former_credited, former_open, former_banks, former_drawn, former_bank_before_lapse, former_supplied, former_lapses, former_gone_after, former_lapsed, former_bank_after, former_generator, former_consumer, former_after_closing, former_output, FormerEnd, FormerClaim}

module _ (b : Book) (old : by_hours b ≡ false) where
  -- the stocks when a turn comes
  abbrev now : ℕ → ℕ → ℕ
  now = stock_at (serving b) (stock b) (want b)

  -- ---- what there is is peak's

  peak_stocks : stocks_of b peak ≡ undivided b
  unfolding stocks_of
  peak_stocks = rw old

  want_peak : (c : ℕ) → want b (turn c peak) ≡ former_open b c
  unfolding undivided former_open
  want_peak c = want_at b c peak (omega arith) ∙ ap (λ (x : ClassStocks). x.outstanding c) peak_stocks

  charge_peak : (g : ℕ) → charge_of b peak g ≡ former_charge b g
  unfolding charge_of taken_up undivided former_charge
  charge_peak g = ap (λ (x : ClassStocks). portion_up (x.pending g) b.rate) peak_stocks

  -- ---- step 1

  charge_below : (g k : ℕ) → k < peak → charge_of b k g ≡ 0
  unfolding charge_of
  charge_below g k l = ap (λ (x : ℕ). portion_up x b.rate) (pending_below b old g k l) ∙ portion_zero b.rate

  charge_former : (g : ℕ) → charge b g ≡ former_charge b g
  unfolding charge sum
  charge_former g = omega (arith, charge_below g 0 (omega arith), charge_below g 1 (omega arith), charge_peak g)

  stock_former : (g : ℕ) → stock b (source g peak) ≡ former_credited b g
  unfolding credited taken_up undivided former_credited
  stock_former g =
      omega (
        arith,
        stock_at_lem b g peak (omega arith),
        charge_peak g,
        ap (λ (x : ClassStocks). x.bank g) peak_stocks,
        ap (λ (x : ClassStocks). x.pending g) peak_stocks,
      )

  -- ---- steps 2 and 3

  -- where the turn comes to consumer c with the former banks, it is settled as formerly
  module _ (c : ℕ) (same : of_peak (now (c * classes)) ≡ former_banks b c) where
    at_peak : of_peak (now (turn c peak)) ≡ former_banks b c
    at_peak = fun_ext (λ g. at g ∙ ap (λ (f : ℕ → ℕ). f g) same)
      where
        stays : (g k : ℕ) → k < peak → now (suc (turn c k)) (source g peak) ≡ now (turn c k) (source g peak)
        stays g k l = Turns.stock_stays (serving b) (stock b) (want b) (source g peak) (turn c k) (want_below b old c k l)

        at : (g : ℕ) → now (turn c peak) (source g peak) ≡ now (c * classes) (source g peak)
        at g =
            let s = source g peak in
            let second : turn c peak ≡ suc (turn c 1) = omega arith in
            let first : turn c 1 ≡ suc (turn c 0) = omega arith in
            let begin : turn c 0 ≡ c * classes = omega arith in
            ap (λ (t : ℕ). now t s) second ∙ stays g 1 (omega arith) ∙ ap (λ (t : ℕ). now t s) first ∙ stays g 0 (omega arith) ∙ ap (λ (t : ℕ). now t s) begin

    -- consumer c's turn for peak, by its linked generators' peak energy alone
    peak_turn : (f : Rest → ℕ) → f (settle (serving b (turn c peak)) (now (turn c peak)) (want b (turn c peak))) ≡ f (settle (sources_of peak (suppliers b.plan c)) (now (turn c peak)) (former_open b c))
    peak_turn f = rw (serving_at b c peak (omega arith), want_peak c)

    next_former : of_peak (now (suc c * classes)) ≡ former_banks b (suc c)
    unfolding former_banks stock_at kept
    next_former =
        let gs = suppliers b.plan c in
        let next : suc c * classes ≡ suc (turn c peak) = omega arith in
        ap (λ (t : ℕ). of_peak (now t)) next ∙ fun_ext (λ g. peak_turn (λ r. r.has (source g peak))) ∙ (peak_alone gs (now (turn c peak)) (former_open b c)).0 ∙
        ap (λ (has : ℕ → ℕ). (settle gs has (former_open b c)).has) at_peak

    supplied_peak : supplied_of b peak c ≡ former_supplied b c
    unfolding supplied_of former_supplied former_banks missing_at unmet
    supplied_peak =
        let gs = suppliers b.plan c in
        peak_turn (λ r. r.want) ∙ (peak_alone gs (now (turn c peak)) (former_open b c)).1 ∙ ap (λ (has : ℕ → ℕ). (settle gs has (former_open b c)).want) at_peak

  -- when the turn comes to consumer c every bank is what it formerly was
  banks_former : (c : ℕ) → of_peak (now (c * classes)) ≡ former_banks b c
  unfolding former_banks stock_at
  banks_former zero = fun_ext stock_former
  banks_former (suc c) = next_former c (banks_former c)

  supplied_former : (c : ℕ) → supplied b c ≡ former_supplied b c
  unfolding supplied sum
  supplied_former c = omega (arith, supplied_none b old c 0 (omega arith), supplied_none b old c 1 (omega arith), supplied_peak c (banks_former c))

  before_lapse_former : (g : ℕ) → bank_before_lapse b g ≡ former_bank_before_lapse b g
  unfolding bank_before_lapse former_bank_before_lapse bank_left sum
  before_lapse_former g =
      omega (arith, left_none b old g 0 (omega arith), left_none b old g 1 (omega arith), ap (λ (f : ℕ → ℕ). f g) (banks_former b.plan.C))

  drawn_below : (g j c : ℕ) → j < peak → sum classes (λ k. drawn_of b g j c k) ≡ 0
  drawn_below g j c l =
      omega (arith, consumer_drawn b g j c, Turns.stock_most (serving b) (stock b) (want b) (source g j) (c * classes), stock_below b old g j l)

  former_next : (g c : ℕ) → former_drawn b g c + former_banks b (suc c) g ≡ former_banks b c g
  unfolding former_drawn former_banks
  former_next g c =
      let gs = suppliers b.plan in
      omega (arith, Turns.stock_next gs (former_credited b) (former_open b) g c, Turns.drawn_le gs (former_credited b) (former_open b) g c)

  drawn_former : (g c : ℕ) → drawn b g c ≡ former_drawn b g c
  unfolding drawn sum
  drawn_former g c =
      let next : turn c classes ≡ suc c * classes = omega arith in
      omega (
        arith,
        drawn_below g 0 c (omega arith),
        drawn_below g 1 c (omega arith),
        consumer_drawn b g peak c,
        ap (λ (t : ℕ). now t (source g peak)) next,
        ap (λ (f : ℕ → ℕ). f g) (banks_former c),
        ap (λ (f : ℕ → ℕ). f g) (banks_former (suc c)),
        former_next g c,
      )

  -- ---- step 4

  lapses_former : (last : Bool) → before_switch b.switch b.closings ≡ last → lapses b ≡ last || former_lapses b
  unfolding lapses lapse_due former_lapses
  lapses_former last e = rw (old, e)

  module _ (lapse : Bool) (e : lapses b ≡ lapse) where
    gone_former : gone_after b ≡ former_gone_after b lapse
    unfolding gone_after former_gone_after
    gone_former = rw e

    lapsed_former : (g : ℕ) → lapsed b g ≡ former_lapsed b lapse g
    unfolding lapsed former_lapsed
    lapsed_former g = rw (e, before_lapse_former g)

    bank_after_former : (g : ℕ) → bank_after b g ≡ former_bank_after b lapse g
    unfolding bank_after former_bank_after
    bank_after_former g = rw (e, before_lapse_former g)

    generator_former : (g : ℕ) → generator_after_closing b g ≡ former_generator b lapse g
    unfolding generator_after_closing former_generator
    generator_former g = rw (charge_former g, fun_ext (drawn_former g), lapsed_former g, bank_after_former g)

    consumer_former : (c : ℕ) → consumer_after_closing b c ≡ former_consumer b lapse c
    unfolding consumer_after_closing former_consumer
    consumer_former c = rw (fun_ext (λ g. fun_ext (drawn_former g)), supplied_former c)

    book_former : after_closing b ≡ former_after_closing b lapse
    unfolding after_closing former_after_closing
    book_former = rw (gone_former, fun_ext generator_former, fun_ext consumer_former)

    output_former : closing_output b ≡ former_output b lapse
    unfolding closing_output closing_lists former_output former_open
    output_former = rw (fun_ext (λ g. fun_ext (drawn_former g)), fun_ext charge_former, fun_ext lapsed_former, fun_ext bank_after_former, fun_ext supplied_former)

    end_former : FormerEnd b lapse
    end_former =
        record {
          lapses_is = e;
          gone_is = gone_former;
          lapsed_is = lapsed_former;
          bank_after_is = bank_after_former;
          book_is = book_former;
          output_is = output_former;
        }

-- its whole output, with the lapse that the rules say
pub output_before_switch : (b : Book) → by_hours b ≡ false → closing_output b ≡ former_output b (lapses b)
output_before_switch b old = output_former b old (lapses b) refl

pub before_switch_former : FormerClaim
before_switch_former b old =
    record {
      charge_is = charge_former b old;
      banks_are = λ g c. ap (λ (f : ℕ → ℕ). f g) (banks_former b old c);
      drawn_is = drawn_former b old;
      supplied_is = supplied_former b old;
      before_lapse_is = before_lapse_former b old;
      end = λ e. end_former b old (former_lapses b) (lapses_former b old false e);
      last_end = λ e. end_former b old true (lapses_former b old true e);
    }
