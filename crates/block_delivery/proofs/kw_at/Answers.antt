-- `block_delivery::kw_at` reads the pair's kW, which fit 32 bits, since they are not over their limit. Assumes nothing.
use mathlib.Core.Path.{◌≡◌, sym, ◌∙◌}
use native.Mathlib.Omega.{arith}
use borrow.Author.Rules.{rules}
use Rattle.record_layout.specs.OnBytes.{plan_in}
use Rattle.record_layout.specs.Laws.PairPlaces.{kw_at_lem}
use Rattle.block_delivery.proofs.kw_at.Goals as goal

pub overflow_cast-result : goal.overflow_cast-result
overflow_cast-result c =
    let read : c.number_at.result ≡ (plan_in c.args.s.now).kw c.args.g c.args.c = c.number_at.ensures ∙ sym (kw_at_lem c.args.s.now c.args.g c.args.c (search rules) (search rules)) in
    omega (arith, read)

pub returns : goal.returns
returns c =
    let read : c.number_at.result ≡ (plan_in c.args.s.now).kw c.args.g c.args.c = c.number_at.ensures ∙ sym (kw_at_lem c.args.s.now c.args.g c.args.c (search rules) (search rules)) in
    read
