-- The record as stored, and its figures. Assumes nothing.
use Rattle.std.specs.Prelude.{ℕ, zero, suc}
use Rattle.lists.specs.Tables.{table}
use Rattle.lists.specs.Pairs.{place, cell, pairs}
use Rattle.record.specs.Plan.{Plan}
use Rattle.record.specs.Book.{Book, ClassStocks, no_injection, no_consumption, no_stocks}
use Rattle.record.specs.declared.Record.{Record}
use Rattle.record.specs.declared.Generators.{Generators}
use Rattle.record.specs.declared.Consumers.{Consumers}
use Rattle.record.specs.declared.Stocks.{Stocks}
use Rattle.record.specs.declared.GeneratorTerms.{GeneratorTerms}
use Rattle.record.specs.declared.ConsumerTerms.{ConsumerTerms}

-- a list by generator has 8 places, one by consumer 16, a pair list 8 rows of 16
unfoldable pub generator_at : Generators → ℕ → GeneratorTerms
generator_at t g =
    record {
      injected = place 8 t.injected g;
      unaccounted = place 8 t.unaccounted g;
      lost = place 8 t.lost g;
      setoff = place 8 t.setoff g;
      inadvertent = place 8 t.inadvertent g;
      charge = place 8 t.charge g;
      drawn = place 8 t.drawn g;
      lapsed = place 8 t.lapsed g;
      bank = place 8 t.bank g;
      pending = place 8 t.pending g;
    }

unfoldable pub consumer_at : Consumers → ℕ → ConsumerTerms
consumer_at t c =
    record {
      metered = place 16 t.metered c;
      setoff = place 16 t.setoff c;
      shortfall = place 16 t.shortfall c;
      drawn = place 16 t.drawn c;
      supplied = place 16 t.supplied c;
      outstanding = place 16 t.outstanding c;
    }

unfoldable pub class_at : Stocks → ClassStocks
class_at t = record { bank = place 8 t.bank; pending = place 8 t.pending; outstanding = place 16 t.outstanding }

-- off-peak, normal, peak
unfoldable pub hours_of : Record → ℕ → ClassStocks
hours_of r zero = class_at r.offpeak
hours_of r (suc zero) = class_at r.normal
hours_of r (suc (suc zero)) = class_at r.peak
hours_of r (suc (suc (suc k))) = no_stocks

-- the figures of a stored record
unfoldable pub plan_of : Record → Plan
plan_of r =
    record {
      G = r.terms.generators;
      C = r.terms.consumers;
      kind = place 8 r.agreed.kind;
      installed = place 8 r.agreed.installed;
      contracted = place 8 r.agreed.contracted;
      link = cell 8 16 r.links.link;
      loss = cell 8 16 r.links.loss;
      kw = cell 8 16 r.schedule.kw;
      rank = cell 8 16 r.schedule.rank;
    }

unfoldable pub figures : Record → Book
figures r =
    record {
      plan = plan_of r;
      rate = r.terms.rate;
      cycle = r.terms.cycle;
      gone = r.counts.gone;
      unitblocks = r.counts.unitblocks;
      monthblocks = r.counts.monthblocks;
      gen = generator_at r.generators;
      con = consumer_at r.consumers;
      switch = r.switch.month;
      closings = r.switch.closings;
      hours = hours_of r;
    }

-- the stored record of a book's figures
unfoldable pub stored_generators : (ℕ → GeneratorTerms) → Generators
stored_generators gen =
    record {
      injected = table 8 (λ g. (gen g).injected);
      unaccounted = table 8 (λ g. (gen g).unaccounted);
      lost = table 8 (λ g. (gen g).lost);
      setoff = table 8 (λ g. (gen g).setoff);
      inadvertent = table 8 (λ g. (gen g).inadvertent);
      charge = table 8 (λ g. (gen g).charge);
      drawn = table 8 (λ g. (gen g).drawn);
      lapsed = table 8 (λ g. (gen g).lapsed);
      bank = table 8 (λ g. (gen g).bank);
      pending = table 8 (λ g. (gen g).pending);
    }

unfoldable pub stored_consumers : (ℕ → ConsumerTerms) → Consumers
stored_consumers con =
    record {
      metered = table 16 (λ c. (con c).metered);
      setoff = table 16 (λ c. (con c).setoff);
      shortfall = table 16 (λ c. (con c).shortfall);
      drawn = table 16 (λ c. (con c).drawn);
      supplied = table 16 (λ c. (con c).supplied);
      outstanding = table 16 (λ c. (con c).outstanding);
    }

unfoldable pub stored_stocks : ClassStocks → Stocks
stored_stocks t = record { bank = table 8 t.bank; pending = table 8 t.pending; outstanding = table 16 t.outstanding }

unfoldable pub stored : Book → Record
stored b =
    let p = b.plan in
    record {
      terms = record { generators = p.G; consumers = p.C; rate = b.rate; cycle = b.cycle };
      counts = record { gone = b.gone; unitblocks = b.unitblocks; monthblocks = b.monthblocks };
      agreed = record { kind = table 8 p.kind; installed = table 8 p.installed; contracted = table 8 p.contracted };
      links = record { link = pairs 8 16 p.link; loss = pairs 8 16 p.loss };
      schedule = record { kw = pairs 8 16 p.kw; rank = pairs 8 16 p.rank };
      generators = stored_generators b.gen;
      consumers = stored_consumers b.con;
      switch = record { month = b.switch; closings = b.closings };
      offpeak = stored_stocks (b.hours 0);
      normal = stored_stocks (b.hours 1);
      peak = stored_stocks (b.hours 2);
    }

-- the record of zeros that a refused opening returns
unfoldable pub zeros : Record
zeros =
    stored
    (record {
      plan =
          record {
            G = 0;
            C = 0;
            kind = λ g. 0;
            installed = λ g. 0;
            contracted = λ g. 0;
            link = λ g c. 0;
            loss = λ g c. 0;
            kw = λ g c. 0;
            rank = λ g c. 0;
          };
      rate = 0;
      cycle = 0;
      gone = 0;
      unitblocks = 0;
      monthblocks = 0;
      gen = λ g. no_injection;
      con = λ c. no_consumption;
      switch = 0;
      closings = 0;
      hours = λ k. no_stocks;
    })
