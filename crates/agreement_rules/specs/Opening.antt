-- Document 01, "The agreement": opening, refusals 2 to 6; document 02, F-7: the switch month, refusal 19, and "for switch month 1 opening sets
-- it to 0", of months gone. Assumes nothing.
use Rattle.std.specs.Prelude.{ℕ, ◌*◌, ◌≤◌, ◌<◌, Bool, ◌&&◌, ◌||◌, not, List, [], ◌∷◌, ◌≡◌, eqb, leb, ltb, length, take, drop, if◌then◌else◌}
use Rattle.lists.specs.Tests.{some, within}
use Rattle.lists.specs.Pairs.{cell}
use Rattle.lists.specs.Refusals.{first_of}
use Rattle.energy.specs.Limits.{most_generators, most_consumers, last_kind, most_capacity, most_loss, most_rate, most_cycle, most_switch}
use Rattle.record.specs.Book.{Book, no_injection, no_consumption, no_stocks}
use Rattle.record.specs.Stored.{stored, zeros}
use Rattle.record.specs.declared.Record.{Record}

-- the arguments of opening
pub record Opening : Type 0 where
  pub G : ℕ
  pub C : ℕ
  pub rate : ℕ
  pub cycle : ℕ
  pub gone : ℕ
  -- the switch month: the number of the first closing by hours, counted from 1, 0 for never
  pub switch : ℕ
  -- kind, installed, contracted for each generator
  pub generators : List ℕ
  -- all links, then all losses, each by generator, then consumer
  pub pairs : List ℕ

-- an opening with these arguments
abbrev pub asked : (G C rate cycle gone switch : ℕ) (generators pairs : List ℕ) → Opening
asked G C rate cycle gone switch generators pairs = record { G = G; C = C; rate = rate; cycle = cycle; gone = gone; switch = switch; generators = generators; pairs = pairs }

-- the counts are in range, and the lists have the lengths that belong to them
unfoldable pub sizes_fit : (G C : ℕ) (generators pairs : List ℕ) → Bool
sizes_fit G C generators pairs =
    within 1 most_generators G && within 1 most_consumers C && eqb (length generators) (3 * G) && eqb (length pairs) (2 * (G * C))

-- the bank terms are in range
unfoldable pub terms_fit : (rate cycle gone : ℕ) → Bool
terms_fit rate cycle gone = leb rate most_rate && within 1 most_cycle cycle && ltb gone cycle

-- Months gone at first: where the first closing goes by hours no closing is before it, so opening sets them to 0. Refusal 6 is tested on the
-- months gone that are given.
unfoldable pub first_gone : (switch gone : ℕ) → ℕ
first_gone switch gone = if eqb switch 1 then 0 else gone

module _ (o : Opening) where
  unfoldable pub kind_of : ℕ → ℕ
  kind_of g = cell o.G 3 o.generators g 0

  unfoldable pub installed_of : ℕ → ℕ
  installed_of g = cell o.G 3 o.generators g 1

  unfoldable pub contracted_of : ℕ → ℕ
  contracted_of g = cell o.G 3 o.generators g 2

  unfoldable pub link_of : ℕ → ℕ → ℕ
  link_of = cell o.G o.C (take (o.G * o.C) o.pairs)

  unfoldable pub rate_of_loss : ℕ → ℕ → ℕ
  rate_of_loss = cell o.G o.C (drop (o.G * o.C) o.pairs)

  unfoldable pub opening_refusal : ℕ
  opening_refusal =
      let G = o.G in
      let C = o.C in
      first_of
      ((2, not (sizes_fit G C o.generators o.pairs)) ∷
      (3, some G (λ g. ltb last_kind (kind_of g))) ∷
      (4, some G (λ g. ltb most_capacity (installed_of g) || ltb most_capacity (contracted_of g))) ∷
      (5, some G (λ g. some C (λ c. ltb 1 (link_of g c) || ltb most_loss (rate_of_loss g c)))) ∷
      (6, not (terms_fit o.rate o.cycle o.gone)) ∷
      (19, ltb most_switch o.switch) ∷
      [])

  -- no kW scheduled, every rank 1, all counts and totals 0, those of the classes of hours too
  unfoldable pub opened : Book
  opened =
      record {
        plan =
            record {
              G = o.G;
              C = o.C;
              kind = kind_of;
              installed = installed_of;
              contracted = contracted_of;
              link = link_of;
              loss = rate_of_loss;
              kw = λ g c. 0;
              rank = λ g c. if ltb g o.G && ltb c o.C then 1 else 0;
            };
        rate = o.rate;
        cycle = o.cycle;
        gone = first_gone o.switch o.gone;
        unitblocks = 0;
        monthblocks = 0;
        gen = λ g. no_injection;
        con = λ c. no_consumption;
        switch = o.switch;
        closings = 0;
        hours = λ k. no_stocks;
      }

-- What opening ensures of its number and of the record it returns: a refused opening returns zeros. The contract of opening cites
-- this, and so does the trace of demand 3.
pub record Opened (o : Opening) (number : ℕ) (r : Record) : Type 0 where
  pub number_is : number ≡ opening_refusal o
  pub record_is : r ≡ (if eqb (opening_refusal o) 0 then stored (opened o) else zeros)

-- The openings to which no refusal number applies, spelled out.
pub record Permitted (o : Opening) : Type 0 where
  pub G_low : 1 ≤ o.G
  pub G_high : o.G ≤ most_generators
  pub C_low : 1 ≤ o.C
  pub C_high : o.C ≤ most_consumers
  pub generators_size : length o.generators ≡ 3 * o.G
  pub pairs_size : length o.pairs ≡ 2 * (o.G * o.C)
  pub kind : (g : ℕ) → g < o.G → kind_of o g ≤ last_kind
  pub installed : (g : ℕ) → g < o.G → installed_of o g ≤ most_capacity
  pub contracted : (g : ℕ) → g < o.G → contracted_of o g ≤ most_capacity
  pub link : (g c : ℕ) → g < o.G → c < o.C → link_of o g c ≤ 1
  pub loss : (g c : ℕ) → g < o.G → c < o.C → rate_of_loss o g c ≤ most_loss
  pub rate_high : o.rate ≤ most_rate
  pub cycle_low : 1 ≤ o.cycle
  pub cycle_high : o.cycle ≤ most_cycle
  pub gone_high : o.gone < o.cycle
  pub switch_high : o.switch ≤ most_switch
