-- Document 01, "Schedule": refusals 7 to 9. Assumes nothing.
use Rattle.std.specs.Prelude.{ℕ, ◌*◌, ◌&&◌, not, List, [], ◌∷◌, eqb, ltb, length}
use Rattle.lists.specs.Sums.{sum}
use Rattle.lists.specs.Tests.{some, within}
use Rattle.lists.specs.Pairs.{cell}
use Rattle.lists.specs.Refusals.{first_of}
use Rattle.energy.specs.Limits.{most_rank}
use Rattle.record.specs.Plan.{lower_capacity}
use Rattle.record.specs.Book.{Book}
use Rattle.record.specs.Called.{Rule, Called}
use Rattle.record.specs.declared.Record.{Record}
use Rattle.record.specs.declared.Answer.{Answer}

-- A schedule: kW by pair, and ranks by pair. Refusal 8: the kW of a generator are within the lower of its capacities (5.1).
module _ (kws ranks : List ℕ) (b : Book) where
  unfoldable pub new_kw : ℕ → ℕ → ℕ
  new_kw = cell b.plan.G b.plan.C kws

  unfoldable pub new_rank : ℕ → ℕ → ℕ
  new_rank = cell b.plan.G b.plan.C ranks

  unfoldable pub schedule_refusal : ℕ
  schedule_refusal =
      let p = b.plan in
      let G = p.G in
      let C = p.C in
      first_of
      ((2, not (eqb (length kws) (G * C) && eqb (length ranks) (G * C))) ∷
      (7, some G (λ g. some C (λ c. eqb (p.link g c) 0 && ltb 0 (new_kw g c)))) ∷
      (8, some G (λ g. ltb (lower_capacity (p.installed g) (p.contracted g)) (sum C (new_kw g)))) ∷
      (9, some G (λ g. some C (λ c. not (within 1 most_rank (new_rank g c))))) ∷
      [])

  -- it replaces the former schedule whole (4.3)
  unfoldable pub after_schedule : Book
  after_schedule =
      let p = b.plan in
      record {
        plan =
            record {
              G = p.G;
              C = p.C;
              kind = p.kind;
              installed = p.installed;
              contracted = p.contracted;
              link = p.link;
              loss = p.loss;
              kw = new_kw;
              rank = new_rank;
            };
        rate = b.rate;
        cycle = b.cycle;
        gone = b.gone;
        unitblocks = b.unitblocks;
        monthblocks = b.monthblocks;
        gen = b.gen;
        con = b.con;
        switch = b.switch;
        closings = b.closings;
        hours = b.hours;
      }

unfoldable pub schedule_rule : List ℕ → List ℕ → Rule
schedule_rule kws ranks = record { refusal = schedule_refusal kws ranks; after = after_schedule kws ranks; output = λ b. [] }

-- What schedule ensures: it has no output.
abbrev pub Scheduled : Record → List ℕ → List ℕ → Answer → Type 0
Scheduled r kws ranks a = Called (schedule_rule kws ranks) r [] a.number a.after []
