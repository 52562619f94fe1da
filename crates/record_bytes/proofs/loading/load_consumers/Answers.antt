-- `record_bytes::loading::load_consumers` meets its contract: each figure is read at its place. Assumes nothing.
use Rattle.record_layout.specs.Laws.Layout.{consumers_at}
use Rattle.record_places.specs.RecordSize.{words_in}
use Rattle.record_bytes.proofs.loading.load_consumers.Goals as goal

pub returns : goal.returns
returns c = cc (consumers_at (words_in c.args.s.now))
