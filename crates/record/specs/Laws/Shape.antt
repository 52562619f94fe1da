-- A record's lists have as many numbers as it has places, and are then stored again as they stand. Assumes nothing.
use Rattle.std.specs.Prelude.{ℕ, ◌+◌, ◌*◌, ◌/◌, ◌%◌, ◌<◌, ◌≡◌, List, length, get_or}
use Rattle.std.proofs.Common.{sym, ap, ◌∙◌, arith}
use Rattle.lists.specs.Tables.{table}
use Rattle.lists.specs.Laws.TablesLaws.{is_table}
use Rattle.lists.specs.Pairs.{place, cell, pairs}
use Rattle.lists.specs.Laws.PairsLaws.{place_in, cell_in, pairs_table}
use Rattle.record.specs.Stored.{generator_at, consumer_at, class_at, hours_of, plan_of, figures, stored_generators, stored_consumers, stored_stocks, stored}
use Rattle.record.specs.declared.Agreed.{Agreed}
use Rattle.record.specs.declared.Links.{Links}
use Rattle.record.specs.declared.Schedule.{Schedule}
use Rattle.record.specs.declared.Generators.{Generators}
use Rattle.record.specs.declared.Consumers.{Consumers}
use Rattle.record.specs.declared.Stocks.{Stocks}
use Rattle.record.specs.declared.Record.{Record}

pub record AgreedShape (x : Agreed) : Type 0 where
  pub kind : length x.kind ≡ 8
  pub installed : length x.installed ≡ 8
  pub contracted : length x.contracted ≡ 8

pub record LinksShape (x : Links) : Type 0 where
  pub link : length x.link ≡ 128
  pub loss : length x.loss ≡ 128

pub record ScheduleShape (x : Schedule) : Type 0 where
  pub kw : length x.kw ≡ 128
  pub rank : length x.rank ≡ 128

pub record GeneratorsShape (x : Generators) : Type 0 where
  pub injected : length x.injected ≡ 8
  pub unaccounted : length x.unaccounted ≡ 8
  pub lost : length x.lost ≡ 8
  pub setoff : length x.setoff ≡ 8
  pub inadvertent : length x.inadvertent ≡ 8
  pub charge : length x.charge ≡ 8
  pub drawn : length x.drawn ≡ 8
  pub lapsed : length x.lapsed ≡ 8
  pub bank : length x.bank ≡ 8
  pub pending : length x.pending ≡ 8

pub record ConsumersShape (x : Consumers) : Type 0 where
  pub metered : length x.metered ≡ 16
  pub setoff : length x.setoff ≡ 16
  pub shortfall : length x.shortfall ≡ 16
  pub drawn : length x.drawn ≡ 16
  pub supplied : length x.supplied ≡ 16
  pub outstanding : length x.outstanding ≡ 16

pub record StocksShape (x : Stocks) : Type 0 where
  pub bank : length x.bank ≡ 8
  pub pending : length x.pending ≡ 8
  pub outstanding : length x.outstanding ≡ 16

pub record Shape (r : Record) : Type 0 where
  pub agreed : AgreedShape r.agreed
  pub links : LinksShape r.links
  pub schedule : ScheduleShape r.schedule
  pub generators : GeneratorsShape r.generators
  pub consumers : ConsumersShape r.consumers
  pub offpeak : StocksShape r.offpeak
  pub normal : StocksShape r.normal
  pub peak : StocksShape r.peak

-- ---- a list stored again

pub table_place : (n : ℕ) (xs : List ℕ) → length xs ≡ n → table n (place n xs) ≡ xs
table_place n xs e = sym (is_table 0 n (place n xs) xs e (λ i l. sym (place_in n xs i l)))

pub pairs_cell : (m : List ℕ) → length m ≡ 128 → pairs 8 16 (cell 8 16 m) ≡ m
pairs_cell m e = pairs_table 8 16 (cell 8 16 m) ∙ sym (is_table 0 128 (λ k. cell 8 16 m (k / 16) (k % 16)) m e (λ k l. here k l))
  where
    here : (k : ℕ) → k < 128 → get_or m k 0 ≡ cell 8 16 m (k / 16) (k % 16)
    here k l =
        let e : k / 16 * 16 + k % 16 ≡ k = omega arith in
        sym (cell_in 8 16 m (k / 16) (k % 16) (omega arith) (omega arith) ∙ ap (λ (i : ℕ). get_or m i 0) e)

pub generators_kept : (x : Generators) → GeneratorsShape x → stored_generators (generator_at x) ≡ x
unfolding stored_generators generator_at
generators_kept x s =
    λ i. record {
      injected = table_place 8 x.injected s.injected i;
      unaccounted = table_place 8 x.unaccounted s.unaccounted i;
      lost = table_place 8 x.lost s.lost i;
      setoff = table_place 8 x.setoff s.setoff i;
      inadvertent = table_place 8 x.inadvertent s.inadvertent i;
      charge = table_place 8 x.charge s.charge i;
      drawn = table_place 8 x.drawn s.drawn i;
      lapsed = table_place 8 x.lapsed s.lapsed i;
      bank = table_place 8 x.bank s.bank i;
      pending = table_place 8 x.pending s.pending i;
    }

pub consumers_kept : (x : Consumers) → ConsumersShape x → stored_consumers (consumer_at x) ≡ x
unfolding stored_consumers consumer_at
consumers_kept x s =
    λ i. record {
      metered = table_place 16 x.metered s.metered i;
      setoff = table_place 16 x.setoff s.setoff i;
      shortfall = table_place 16 x.shortfall s.shortfall i;
      drawn = table_place 16 x.drawn s.drawn i;
      supplied = table_place 16 x.supplied s.supplied i;
      outstanding = table_place 16 x.outstanding s.outstanding i;
    }

pub stocks_kept : (x : Stocks) → StocksShape x → stored_stocks (class_at x) ≡ x
unfolding stored_stocks class_at
stocks_kept x s =
    λ i. record {
      bank = table_place 8 x.bank s.bank i;
      pending = table_place 8 x.pending s.pending i;
      outstanding = table_place 16 x.outstanding s.outstanding i;
    }

pub record_kept : (r : Record) → Shape r → stored (figures r) ≡ r
unfolding stored figures plan_of hours_of
record_kept r s =
    λ i. record {
      terms = r.terms;
      counts = r.counts;
      agreed =
          record {
            kind = table_place 8 r.agreed.kind s.agreed.kind i;
            installed = table_place 8 r.agreed.installed s.agreed.installed i;
            contracted = table_place 8 r.agreed.contracted s.agreed.contracted i;
          };
      links = record { link = pairs_cell r.links.link s.links.link i; loss = pairs_cell r.links.loss s.links.loss i };
      schedule = record { kw = pairs_cell r.schedule.kw s.schedule.kw i; rank = pairs_cell r.schedule.rank s.schedule.rank i };
      generators = generators_kept r.generators s.generators i;
      consumers = consumers_kept r.consumers s.consumers i;
      switch = r.switch;
      offpeak = stocks_kept r.offpeak s.offpeak i;
      normal = stocks_kept r.normal s.normal i;
      peak = stocks_kept r.peak s.peak i;
    }
