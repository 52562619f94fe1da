-- Document 01, "The record", and document 02, F-7: its numbers in their order. Assumes nothing.
use Rattle.std.specs.Prelude.{ℕ, zero, suc, ◌+◌, List, [], ◌∷◌, get_or, take, drop}
use Rattle.lists.specs.Tables.{table}
use Rattle.lists.specs.Pairs.{place, cell, pairs, joined}
use Rattle.record.specs.declared.Record.{Record}
use Rattle.record.specs.declared.Agreed.{Agreed}

-- kind, installed and contracted of generator g, side by side
unfoldable pub agreed_of : Agreed → ℕ → ℕ → ℕ
agreed_of a g zero = place 8 a.kind g
agreed_of a g (suc zero) = place 8 a.installed g
agreed_of a g (suc (suc k)) = place 8 a.contracted g

-- the runs of the record, and how many numbers each has
unfoldable pub runs : Record → List (List ℕ)
runs r =
    let t = r.terms in
    let n = r.counts in
    let x = r.generators in
    let y = r.consumers in
    let o = r.offpeak in
    let m = r.normal in
    let p = r.peak in
    (t.generators ∷ t.consumers ∷ t.rate ∷ t.cycle ∷ n.gone ∷ n.unitblocks ∷ n.monthblocks ∷ []) ∷
    pairs 8 3 (agreed_of r.agreed) ∷
    r.links.link ∷ r.links.loss ∷ r.schedule.kw ∷ r.schedule.rank ∷
    x.injected ∷ x.unaccounted ∷ x.lost ∷ x.setoff ∷ x.inadvertent ∷ x.charge ∷ x.drawn ∷ x.lapsed ∷ x.bank ∷ x.pending ∷
    y.metered ∷ y.setoff ∷ y.shortfall ∷ y.drawn ∷ y.supplied ∷ y.outstanding ∷
    (r.switch.month ∷ r.switch.closings ∷ []) ∷
    o.bank ∷ o.pending ∷ o.outstanding ∷ m.bank ∷ m.pending ∷ m.outstanding ∷ p.bank ∷ p.pending ∷ p.outstanding ∷
    []

unfoldable pub run_lengths : List ℕ
run_lengths = 7 ∷ 24 ∷ 128 ∷ 128 ∷ 128 ∷ 128 ∷ 8 ∷ 8 ∷ 8 ∷ 8 ∷ 8 ∷ 8 ∷ 8 ∷ 8 ∷ 8 ∷ 8 ∷ 16 ∷ 16 ∷ 16 ∷ 16 ∷ 16 ∷ 16 ∷ 2 ∷ 8 ∷ 8 ∷ 16 ∷ 8 ∷ 8 ∷ 16 ∷ 8 ∷ 8 ∷ 16 ∷ []

unfoldable pub total : List ℕ → ℕ
total [] = 0
total (n ∷ ns) = n + total ns

unfoldable pub words : Record → List ℕ
words r = joined (runs r)

-- a list cut into runs of the given lengths
unfoldable pub cut : List ℕ → List ℕ → List (List ℕ)
cut [] xs = []
cut (n ∷ ns) xs = take n xs ∷ cut ns (drop n xs)

-- the record that the runs make
unfoldable pub from_runs : List (List ℕ) → Record
from_runs p =
    let head = get_or p 0 [] in
    let agreed = get_or p 1 [] in
    let at : ℕ → List ℕ = λ i. get_or p i [] in
    record {
      terms = record { generators = get_or head 0 0; consumers = get_or head 1 0; rate = get_or head 2 0; cycle = get_or head 3 0 };
      counts = record { gone = get_or head 4 0; unitblocks = get_or head 5 0; monthblocks = get_or head 6 0 };
      agreed = record { kind = table 8 (λ g. cell 8 3 agreed g 0); installed = table 8 (λ g. cell 8 3 agreed g 1); contracted = table 8 (λ g. cell 8 3 agreed g 2) };
      links = record { link = at 2; loss = at 3 };
      schedule = record { kw = at 4; rank = at 5 };
      generators =
          record {
            injected = at 6;
            unaccounted = at 7;
            lost = at 8;
            setoff = at 9;
            inadvertent = at 10;
            charge = at 11;
            drawn = at 12;
            lapsed = at 13;
            bank = at 14;
            pending = at 15;
          };
      consumers = record { metered = at 16; setoff = at 17; shortfall = at 18; drawn = at 19; supplied = at 20; outstanding = at 21 };
      switch = record { month = get_or (at 22) 0 0; closings = get_or (at 22) 1 0 };
      offpeak = record { bank = at 23; pending = at 24; outstanding = at 25 };
      normal = record { bank = at 26; pending = at 27; outstanding = at 28 };
      peak = record { bank = at 29; pending = at 30; outstanding = at 31 };
    }

unfoldable pub record_of : List ℕ → Record
record_of ws = from_runs (cut run_lengths ws)
