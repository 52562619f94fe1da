-- `record_bytes::loading::load_switch` meets its contract: each figure is read at its place. Assumes nothing.
use Rattle.record_layout.specs.Laws.Layout.{switch_at_lem}
use Rattle.record_places.specs.RecordSize.{words_in}
use Rattle.record_bytes.proofs.loading.load_switch.Goals as goal

pub returns : goal.returns
returns c = cc (switch_at_lem (words_in c.args.s.now))
