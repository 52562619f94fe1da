-- `agreed_lists::column` meets its contract: after g turns the first g places are read, and the others are 0. Assumes nothing.
use mathlib.Core.Logic.{inl}
use mathlib.Core.Path.{sym}
use borrow.Author.Rules.{rules}
use Rattle.lists.specs.Laws.PairsLaws.{cell_in, cell_out}
use Rattle.agreement_rules.specs.Laws.AgreedReadingLaws.{read_start, read_step, read_done}
use Rattle.agreed_lists.proofs.column.Goals as goal

pub loop-g-init : goal.loop-g-init
loop-g-init c = read_start (search rules) (search rules)

pub loop-g-preserved : goal.loop-g-preserved
loop-g-preserved c = read_step c.loop-g.invariant (search rules) c.from.ensures

pub returns : goal.returns
returns c = let a = c.args in
    read_done _ c.loop-g.invariant (search rules) (λ j l. sym (cell_in a.n 3 a.list.now j a.k l c.requires.third)) (λ j l. cell_out a.n 3 a.list.now j a.k (inl l))
