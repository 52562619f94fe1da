-- `record_bytes::loading::load_agreed` meets its contract: the columns are those of the run at place 7. Assumes nothing.
use Rattle.record_layout.specs.Laws.Layout.{agreed_at_lem}
use Rattle.record_places.specs.RecordSize.{words_in}
use Rattle.record_bytes.proofs.loading.load_agreed.Goals as goal

pub returns : goal.returns
returns c = cc (agreed_at_lem (words_in c.args.s.now) _ c.load_list-rows.ensures)
