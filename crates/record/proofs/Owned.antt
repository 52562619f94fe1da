-- What a record by value tells of its lists: they have the lengths of their type. Assumes nothing.
use denote.Shadow.{shadow}
use denote.RattleType.{Valss, owns}
use denote.Struct.Declared.{shape}
use Rattle.record.specs.Laws.Shape.{Shape}
use Rattle.record.specs.declared.Record.{Record}
use Rattle.record.specs.contracts.Record.{the_type}

pub shaped : (r : Record) {vs : Valss (shape the_type).fields} → shadow (owns (shape the_type).fields (the_type.to r) vs) → Shape r
shaped r o =
    let agreed = o.1.1.0.1.1 in
    let links = o.1.1.1.0.1.1 in
    let schedule = o.1.1.1.1.0.1.1 in
    let generators = o.1.1.1.1.1.0.1.1 in
    let consumers = o.1.1.1.1.1.1.0.1.1 in
    let offpeak = o.1.1.1.1.1.1.1.1.0.1.1 in
    let normal = o.1.1.1.1.1.1.1.1.1.0.1.1 in
    let peak = o.1.1.1.1.1.1.1.1.1.1.0.1.1 in
    record {
      agreed =
          record {
            kind = agreed.0.1.0.1;
            installed = agreed.1.0.1.0.1;
            contracted = agreed.1.1.0.1.0.1;
          };
      links = record { link = links.0.1.0.1; loss = links.1.0.1.0.1 };
      schedule = record { kw = schedule.0.1.0.1; rank = schedule.1.0.1.0.1 };
      generators =
          record {
            injected = generators.0.1.0.1;
            unaccounted = generators.1.0.1.0.1;
            lost = generators.1.1.0.1.0.1;
            setoff = generators.1.1.1.0.1.0.1;
            inadvertent = generators.1.1.1.1.0.1.0.1;
            charge = generators.1.1.1.1.1.0.1.0.1;
            drawn = generators.1.1.1.1.1.1.0.1.0.1;
            lapsed = generators.1.1.1.1.1.1.1.0.1.0.1;
            bank = generators.1.1.1.1.1.1.1.1.0.1.0.1;
            pending = generators.1.1.1.1.1.1.1.1.1.0.1.0.1;
          };
      consumers =
          record {
            metered = consumers.0.1.0.1;
            setoff = consumers.1.0.1.0.1;
            shortfall = consumers.1.1.0.1.0.1;
            drawn = consumers.1.1.1.0.1.0.1;
            supplied = consumers.1.1.1.1.0.1.0.1;
            outstanding = consumers.1.1.1.1.1.0.1.0.1;
          };
      offpeak =
          record {
            bank = offpeak.0.1.0.1;
            pending = offpeak.1.0.1.0.1;
            outstanding = offpeak.1.1.0.1.0.1;
          };
      normal =
          record {
            bank = normal.0.1.0.1;
            pending = normal.1.0.1.0.1;
            outstanding = normal.1.1.0.1.0.1;
          };
      peak =
          record {
            bank = peak.0.1.0.1;
            pending = peak.1.0.1.0.1;
            outstanding = peak.1.1.0.1.0.1;
          };
    }
