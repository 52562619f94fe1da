-- `block_delivery::rate_at` reads the pair's loss rate, which fits 32 bits, since it is not over its limit. Assumes nothing.
use mathlib.Core.Path.{◌≡◌, sym, ◌∙◌}
use native.Mathlib.Omega.{arith}
use borrow.Author.Rules.{rules}
use Rattle.record_layout.specs.OnBytes.{plan_in}
use Rattle.record_layout.specs.Laws.PairPlaces.{loss_at_lem}
use Rattle.block_delivery.proofs.rate_at.Goals as goal

pub overflow_cast-result : goal.overflow_cast-result
overflow_cast-result c =
    let read : c.number_at.result ≡ (plan_in c.args.s.now).loss c.args.g c.args.c = c.number_at.ensures ∙ sym (loss_at_lem c.args.s.now c.args.g c.args.c (search rules) (search rules)) in
    omega (arith, read, c.requires.1.1.1 c.args.g c.args.c)

pub returns : goal.returns
returns c =
    let read : c.number_at.result ≡ (plan_in c.args.s.now).loss c.args.g c.args.c = c.number_at.ensures ∙ sym (loss_at_lem c.args.s.now c.args.g c.args.c (search rules) (search rules)) in
    read
