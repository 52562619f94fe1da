-- `block_settlement::settle_each` meets its contract: c consumers are settled. Assumes nothing.
use Rattle.std.proofs.Common.{rules, ◌<◌, ◌≡◌, sym, ◌∙◌, arith}
use Rattle.lists.specs.Laws.PairsLaws.{place_in}
use Rattle.record_layout.specs.OnBytes.{plan_in}
use Rattle.block_settlement.specs.Laws.SettledLaws.{none_remain, one_remains}
use Rattle.block_settlement.proofs.settle_each.Goals as goal

pub loop-c-init : goal.loop-c-init
loop-c-init c = (λ E h. (h, none_remain _ E _), c.requires.1.1.0)

pub loop-c-preserved : goal.loop-c-preserved
loop-c-preserved c =
    let l = c.loop-c in
    let s = c.args.s.now in
    let inside : l.c < (plan_in s).C = omega (arith, c.loop-c-test.true, c.requires.0.m_is) in
    let read = c.from.ensures ∙ sym (place_in (plan_in s).C c.args.exit.now l.c inside) in (
      λ E h. let so_far = l.invariant.0 E h in let more = c.settle_one.ensures E _ read so_far.0 in (more.0, one_remains _ E _ so_far.1 (search rules) more.1),
      search rules,
    )

pub returns : goal.returns
returns c =
    let all : c.loop-c.c ≡ c.args.m = omega arith in
    λ E h. rw all at (c.loop-c.invariant.0 E h)
