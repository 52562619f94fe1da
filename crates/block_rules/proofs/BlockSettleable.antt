-- A block that a sound record takes can be delivered and settled. Assumes nothing.
use Rattle.std.specs.Prelude.{ℕ, List}
use Rattle.std.proofs.Common.{arith}
use Rattle.block_rules.specs.Laws.Settleable.{Settleable}
use Rattle.record.specs.Book.{Book}
use Rattle.record.specs.Laws.SoundLaws.{Facts, pair_beyond}
use Rattle.block_rules.specs.Block.{entry_of, exit_of}
use Rattle.block_rules.specs.Laws.Enterable.{Enterable}
use Rattle.block_rules.proofs.BlockLaws.{entry_out, exit_out}

pub settleable : (entry exit : List ℕ) (size : ℕ) (b : Book) → Facts b → Enterable entry exit size b → Settleable b.plan (entry_of entry exit b) (exit_of entry exit b)
settleable entry exit size b f ok =
    record {
      entries =
          record {
            G_high = f.counts.G_high;
            C_high = f.counts.C_high;
            loss_high = λ g c. (f.pair g c).loss;
            scheduled_high = λ g. omega (arith, (f.agreed g).total, (f.agreed g).installed);
            kw_beyond = λ g c o. (pair_beyond b f g c o).1.1.0;
            entry_high = ok.entry_most;
            entry_beyond = entry_out entry exit b;
          };
      exit_high = ok.exit_most;
      exit_beyond = exit_out entry exit b;
    }
