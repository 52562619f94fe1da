-- `table::read_lines` meets its contract, by the refusals 15 and 16, and the values laid where neither applies. Assumes nothing.
use Rattle.std.proofs.Common.{sym, arith}
use Rattle.table.specs.Laws.ReaderMeets.{lines_15, lines_16, lines_laid}
use Rattle.table.proofs.read_lines.Goals as goal

pub write_values-requires : goal.write_values-requires
write_values-requires c =
    record {
      some = c.requires;
      formed = sym c.if-not-well_formed.ensures;
      room = omega (arith, c.count_values-k.ensures);
    }

pub returns-then-not-well_formed : goal.returns-then-not-well_formed
returns-then-not-well_formed c = lines_15 _ (sym c.if-not-well_formed.ensures)

pub returns-then-out-k : goal.returns-then-out-k
returns-then-out-k c = lines_16 _ (sym c.if-not-well_formed.ensures) (omega (arith, c.count_values-k.ensures, c.if-out-k.true))

pub returns : goal.returns
returns c =
    rw c.count_values-k.ensures
    (lines_laid _ _ (sym c.if-not-well_formed.ensures) (omega (arith, c.count_values-k.ensures, c.if-out-k.false)) c.write_values.ensures)
