-- `class_turns::settle_turns` meets its contract: t turns are settled. Assumes nothing.
use Prim.Native.Nat.{◌/◌, ◌%◌, ◌≤◌}
use mathlib.Core.Path.{◌≡◌, ◌∙◌, ap}
use Rattle.order.specs.Laws.KeptOrder.{turns_in}
use native.Mathlib.Omega.{arith}
use borrow.Author.Rules.{rules}
use Rattle.record.specs.Stored.{figures}
use Rattle.record.specs.Laws.SoundLaws.{orderable}
use Rattle.record_places.specs.RecordSize.{words_in}
use Rattle.closing_by_hours.specs.Laws.ClassesRead.{wanted_at, wanted_read}
use Rattle.class_turns.specs.Laws.TurnsSettled.{turns_start, turns_step}
use Rattle.class_turns.proofs.settle_turns.Goals as goal

pub loop-t-init : goal.loop-t-init
loop-t-init c = let p = c.requires in turns_start _ p.size p.stock_is

pub suppliers_at-suppliers-requires : goal.suppliers_at-suppliers-requires
unfolding figures
suppliers_at-suppliers-requires i =
    let few : i.args.n ≤ 8 = let p = i.requires in omega (arith, p.n_is, p.facts.counts.G_high) in
    let p = i.requires in
    record { whole = p.whole; n_is = p.n_is; n_high = few; c_high = omega (arith, i.loop-t-test.true); orderable = orderable _ p.facts }

pub number_at-want-requires : goal.number_at-want-requires
number_at-want-requires c = (c.requires.whole, search rules)

pub serve-requires : goal.serve-requires
serve-requires c = omega arith

pub loop-t-preserved : goal.loop-t-preserved
unfolding figures wanted_at
loop-t-preserved c =
    let p = c.requires in
    let t = c.loop-t.t in
    turns_step _ (t / 3) (t % 3) (omega arith) (omega arith) c.loop-t-test.true c.loop-t.invariant (ap turns_in c.keys.ensures.turns ∙ c.suppliers_at-suppliers.ensures.turns)
    (c.number_at-want.ensures ∙ wanted_read (words_in c.args.s.now) p.hours_apply (t / 3) (t % 3) (omega arith) (omega arith)) c.serve.ensures

pub returns : goal.returns
returns c = let e : c.loop-t.t ≡ 48 = omega (arith, c.loop-t.invariant.lacking_is.within) in rw e at c.loop-t.invariant
