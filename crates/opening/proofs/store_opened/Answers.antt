-- `opening::store_opened` meets its contract: the parts that the rules store of a permitted opening, one after the other, fill the record's bytes. Assumes nothing.
use mathlib.Core.Path.{ap, sym, ◌∙◌}
use Rattle.codec.specs.Bytes.{encode}
use Rattle.record.specs.RecordWords.{words}
use Rattle.record.specs.declared.Record.{Record}
use Rattle.record_layout.specs.Laws.Layout.{laid_then, laid_all, words_parts}
use Rattle.agreement_rules.specs.Laws.AgreedPartsLaws.{opened_parts}
use Rattle.opening.proofs.store_opened.Goals as goal

pub links_from-links-requires : goal.links_from-links-requires
links_from-links-requires c =
    let permitted = c.requires.0 in
    (permitted.pairs_size, (permitted.G_high, permitted.C_high))

pub first_schedule-schedule-requires : goal.first_schedule-schedule-requires
first_schedule-schedule-requires c =
    let permitted = c.requires.0 in
    (permitted.G_high, permitted.C_high)

pub shape_of-s : goal.shape_of-s
shape_of-s c = c.store_stocks-3.ensures.size ∙ sym c.requires.1

pub returns : goal.returns
returns c =
    let terms = c.terms_from-terms in
    let counts = c.first_counts-counts in
    let agreed = c.agreed_from-agreed in
    let links = c.links_from-links in
    let schedule = c.first_schedule-schedule in
    let generators = c.no_injection-generators in
    let consumers = c.no_consumption-consumers in
    let switch = c.first_switch-first in
    let stocks = c.no_stocks-stocks in
    let r : Record =
    record {
      terms = terms.result;
      counts = counts.result;
      agreed = agreed.result;
      links = links.result;
      schedule = schedule.result;
      generators = generators.result;
      consumers = consumers.result;
      switch = switch.result;
      offpeak = stocks.result;
      normal = stocks.result;
      peak = stocks.result;
    } in
    laid_all (rw (← (words_parts r)) at
    (laid_then c.store_terms.ensures
    (laid_then c.store_counts.ensures
    (laid_then c.store_agreed.ensures
    (laid_then c.store_links.ensures
    (laid_then c.store_schedule.ensures
    (laid_then c.store_generators.ensures
    (laid_then c.store_consumers.ensures
    (laid_then c.store_switch.ensures
    (laid_then c.store_stocks.ensures
    (laid_then c.store_stocks-2.ensures
    c.store_stocks-3.ensures))))))))))) ∙
    ap (λ (x : Record). encode 8 (words x))
    (opened_parts _ _ _ _ _ _ _ _ terms.ensures counts.ensures agreed.ensures links.ensures schedule.ensures generators.ensures consumers.ensures switch.ensures stocks.ensures)
