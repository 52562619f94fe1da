-- `block_delivery::kind_at` reads the generator's kind. Assumes nothing.
use mathlib.Core.Path.{sym, ap, ◌∙◌}
use borrow.Author.Rules.{rules}
use Rattle.block_figures.specs.Laws.Kinds.{kind_of}
use Rattle.block_delivery.specs.Laws.DeliveryLentLaws.{kind_at}
use Rattle.block_delivery.proofs.kind_at.Goals as goal

pub returns : goal.returns
returns c = c.from.ensures ∙ ap kind_of (c.number_at.ensures ∙ sym (kind_at c.args.s.now c.args.g (search rules)))
