-- `bank::Bank::draw` is step 2 for one consumer: its suppliers settle in their order, and of more than eight nobody gives. Assumes nothing.
use Rattle.std.proofs.Common.{rules, refl}
use Rattle.order.specs.Laws.KeptOrder.{turns_below}
use Rattle.bank.specs.Laws.BankLaws.{givers_within, givers_beyond, draw_done, draw_none}
use Rattle.bank.proofs.Bank+8.draw.Goals as goal

pub settle-left-requires : goal.settle-left-requires
settle-left-requires c =
    record {
      rows = 8;
      whole = search rules;
      below = turns_below _;
      narrow = search rules;
      within = search rules;
      nothing = refl;
    }

pub returns-then-keys-le-MOST_GENERATORS : goal.returns-then-keys-le-MOST_GENERATORS
returns-then-keys-le-MOST_GENERATORS c = rw (givers_within _ refl c.if-keys-le-MOST_GENERATORS.true) (draw_done _ _ (search rules) c.settle-left.ensures)

pub returns-else-keys-le-MOST_GENERATORS : goal.returns-else-keys-le-MOST_GENERATORS
returns-else-keys-le-MOST_GENERATORS c = rw (givers_beyond _ c.if-keys-le-MOST_GENERATORS.false) (draw_none _ (search rules))
