-- `record_bytes::loading::load_schedule` meets its contract: each figure is read at its place. Assumes nothing.
use Rattle.record_layout.specs.Laws.Layout.{schedule_at}
use Rattle.record_places.specs.RecordSize.{words_in}
use Rattle.record_bytes.proofs.loading.load_schedule.Goals as goal

pub returns : goal.returns
returns c = cc (schedule_at (words_in c.args.s.now))
