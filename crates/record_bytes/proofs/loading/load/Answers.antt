-- `record_bytes::loading::load` meets its contract: each part is that of the record. Assumes nothing.
use mathlib.Core.Path.{sym, ◌∙◌}
use Rattle.record_layout.specs.Laws.Layout.{offpeak_at, normal_at_lem, peak_at_lem}
use Rattle.record_places.specs.RecordSize.{words_in}
use Rattle.record_bytes.proofs.loading.load.Goals as goal

pub returns : goal.returns
returns c =
    let ws = words_in c.args.s.now in
    λ i. record {
      terms = c.load_terms.ensures i;
      counts = c.load_counts.ensures i;
      agreed = c.load_agreed.ensures i;
      links = c.load_links.ensures i;
      schedule = c.load_schedule.ensures i;
      generators = c.load_generators.ensures i;
      consumers = c.load_consumers.ensures i;
      switch = c.load_switch.ensures i;
      offpeak = (c.load_stocks.ensures ∙ sym (offpeak_at ws)) i;
      normal = (c.load_stocks-2.ensures ∙ sym (normal_at_lem ws)) i;
      peak = (c.load_stocks-3.ensures ∙ sym (peak_at_lem ws)) i;
    }
