-- What a closing takes up is what the blocks of its month published: the theorems `published_taken_up` and `closing_takes_up`. Of a
-- block nothing is used but that it publishes. Assumes nothing.
use Rattle.std.specs.Prelude.{ℕ, ◌+◌, ◌*◌, ◌≡◌, Bool, ◌&&◌, List, [], ◌∷◌, length, if◌then◌else◌}
use Rattle.std.proofs.Math.Path.{refl}
use Rattle.std.proofs.Common.{sym, ap, ◌∙◌, arith, eqb-true}
use Rattle.std.proofs.Math.Bool.{true, false}
use Rattle.std.proofs.lemmas.Bool.{eqb-false}
use Rattle.std.proofs.Math.Dec.{eqb}
use Rattle.record.specs.Book.{Book, ClassStocks, by_hours, no_injection, no_consumption, no_stocks}
use Rattle.record.specs.Stored.{figures}
use Rattle.record.specs.Laws.SoundLaws.{Facts, facts_cut}
use Rattle.record.specs.Laws.StoredLaws.{figures_stored}
use Rattle.record.specs.Laws.CalledLaws.{refused_record, accepted_output, accepted_figures}
use Rattle.record.specs.declared.Record.{Record}
use Rattle.agreement_rules.specs.Opening.{Opening, opened}
use Rattle.agreement_rules.specs.Laws.OpeningLaws.{opened_facts}
use Rattle.agreement_rules.specs.Schedule.{after_schedule, schedule_rule}
use Rattle.agreement_rules.specs.Laws.ScheduleLaws.{schedule_keeps}
use Rattle.block.specs.Laws.Published.{Published}
use Rattle.block.specs.Laws.BlockPublishes.{block_publishes}
use Rattle.closing_rules.specs.Closing.{stocks_of, taken_up, after_closing, closing_rule}
use Rattle.closing_rules.proofs.ClosingLaws.{closing_keeps, pending_total_lem, none_pending, none_open}
use Rattle.closing_rules.proofs.ClosingOutput.{open_at}
use Rattle.closing_rules.proofs.ClosingRefusals.{facts}
use Rattle.book.specs.Trace.{Ask, ask_schedule, ask_block, ask_closing, Given, Done, Trace, trace_none, trace_one, last_record}
use Rattle.book.specs.Demand3.{at}
use Rattle.book.proofs.Demand3Proof.{call_of_lem, starts}
use Rattle.closing_month.specs.Month.{entered, month_next, month_from, of_class, sum_over, pending_from, open_from, TakenUp, MonthClaim, ClosingClaim}

-- ---- by class

-- where there is nothing, no class holds anything
none_held : (t : Bool) → ◌≡◌ {A = ℕ} 0 (if t then 0 else 0)
none_held true = refl
none_held false = refl

-- one output more: it is of the class or not (u), and the month is closed by hours or not (t)
one_more : (outs : List (List ℕ)) (out : List ℕ) (f : List ℕ → ℕ) (x : ℕ) (t u : Bool) → x ≡ (if t then sum_over outs f else 0) →
    x + (if t && u then f out else 0) ≡ (if t then sum_over (if u then out ∷ outs else outs) f else 0)
unfolding sum_over
one_more outs out f x true true e = omega (arith, e)
one_more outs out f x true false e = omega (arith, e)
one_more outs out f x false u e = omega (arith, e)

module _ (o : Opening) where
  at_opening : TakenUp o [] (opened o)
  unfolding opened no_injection no_consumption no_stocks sum_over of_class
  at_opening =
      record {
        G_is = refl;
        C_is = refl;
        kind_is = λ g. refl;
        month_is = refl;
        pending_is = λ g l. refl;
        open_is = λ c l. refl;
        class_pending_is = λ k g l. none_held (by_hours (opened o));
        class_open_is = λ k c l. none_held (by_hours (opened o));
      }

  -- ---- one accepted call

  module _ {outs : List (List ℕ)} {b : Book} (h : TakenUp o outs b) where
    by_schedule : (kws ranks : List ℕ) → TakenUp o outs (after_schedule kws ranks b)
    unfolding after_schedule
    by_schedule kws ranks =
        record {
          G_is = h.G_is;
          C_is = h.C_is;
          kind_is = h.kind_is;
          month_is = h.month_is;
          pending_is = h.pending_is;
          open_is = h.open_is;
          class_pending_is = h.class_pending_is;
          class_open_is = h.class_open_is;
        }

    by_block : {out : List ℕ} {b' : Book} → Published b out b' → TakenUp o (out ∷ outs) b'
    unfolding sum_over of_class
    by_block {out} p =
        record {
          G_is = rw p.plan_is h.G_is;
          C_is = rw p.plan_is h.C_is;
          kind_is = rw p.plan_is h.kind_is;
          month_is = omega arith;
          pending_is = λ g l. omega (arith, rw (h.G_is, h.C_is, h.kind_is g) at (p.pending_is g (omega arith)), h.pending_is g l);
          open_is = λ c l. omega (arith, rw (h.G_is, h.C_is) at (p.open_is c (omega arith)), h.open_is c l);
          class_pending_is =
              λ k g l.
              rw p.hours_is
              (rw (h.G_is, h.C_is, h.kind_is g, h.month_is) at (p.class_pending_is k g (omega arith)) ∙
              one_more (of_class k outs) out (pending_from o g) ((b.hours k).pending g) (by_hours b) _ (h.class_pending_is k g l));
          class_open_is =
              λ k c l.
              rw p.hours_is
              (rw (h.G_is, h.C_is, h.month_is) at (p.class_open_is k c (omega arith)) ∙
              one_more (of_class k outs) out (open_from o c) ((b.hours k).outstanding c) (by_hours b) _ (h.class_open_is k c l));
        }

    by_closing : TakenUp o [] (after_closing b)
    unfolding after_closing no_stocks sum_over of_class
    by_closing =
        record {
          G_is = h.G_is;
          C_is = h.C_is;
          kind_is = h.kind_is;
          month_is = refl;
          pending_is = λ g l. none_pending b g;
          open_is = λ c l. none_open b c;
          class_pending_is = λ k g l. none_held (by_hours (after_closing b));
          class_open_is = λ k c l. none_held (by_hours (after_closing b));
        }

  module _ {outs : List (List ℕ)} (r : Record) (h : TakenUp o outs (figures r)) where
    accepted : (a : Ask) (w : Given) → Done r a w → w.answer.number ≡ 0 → TakenUp o (entered outs a w.out) (figures w.answer.after)
    unfolding entered Done schedule_rule closing_rule
    accepted (ask_schedule kws ranks) w d z = rw (accepted_figures d.0 (schedule_keeps kws ranks) z) (by_schedule h kws ranks)
    accepted (ask_block entry exit lent) w d z = by_block h (block_publishes entry exit d z)
    accepted (ask_closing lent) w d z = rw (accepted_figures d (closing_keeps (length lent)) z) (by_closing h)

    step : (a : Ask) (w : Given) → Done r a w → TakenUp o (month_next outs a w) (figures w.answer.after)
    unfolding month_next
    step a w d = go (eqb w.answer.number 0) refl
      where
        go : (t : Bool) → eqb w.answer.number 0 ≡ t → TakenUp o (month_next outs a w) (figures w.answer.after)
        go true e = rw e (accepted a w d (eqb-true _ 0 e))
        go false e = rw (e, refused_record (call_of_lem r a w d) (eqb-false _ 0 e)) h

  follows : {outs : List (List ℕ)} {r : Record} → TakenUp o outs (figures r) → {as' : List Ask} {ws : List Given} → Trace r as' ws →
      TakenUp o (month_from outs as' ws) (figures (last_record r ws))
  unfolding month_from last_record
  follows h trace_none = h
  follows {outs = outs} {r = r} h (trace_one {a = a} {w = w} d rest) = follows {outs = month_next outs a w} {r = w.answer.after} (step r h a w d) rest

pub published_taken_up : MonthClaim
published_taken_up o p number r₀ start asks ws t =
    follows o (rw (starts o p number r₀ start, figures_stored (opened o) (facts_cut (opened o) (opened_facts o p))) (at_opening o)) t

by_hours_lem : (b : Book) → by_hours b ≡ true → (k : ℕ) → stocks_of b k ≡ b.hours k
unfolding stocks_of
by_hours_lem b e k = rw e

pub closing_takes_up : ClosingClaim
unfolding closing_rule taken_up
closing_takes_up o outs r h lent a out' d z =
    let b = figures r in
    let f : Facts b = facts r (length lent) (sym d.number_is ∙ z) in
    record {
      pending_is = λ g l. pending_total_lem b f g ∙ h.pending_is g l;
      open_is =
          λ c l.
          let e : at out' (o.G * o.C + 3 * o.G + c) ≡ (b.con c).outstanding = rw (accepted_output d z, ← h.G_is, ← h.C_is) (open_at b c (omega arith)) in
          e ∙ h.open_is c l;
      class_pending_is = λ e k g l. ap (λ (x : ClassStocks). x.pending g) (by_hours_lem b e k) ∙ rw e at (h.class_pending_is k g l);
      class_open_is = λ e k c l. ap (λ (x : ClassStocks). x.outstanding c) (by_hours_lem b e k) ∙ rw e at (h.class_open_is k c l);
    }
