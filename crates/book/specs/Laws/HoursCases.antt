-- The units and books of F-7's cases, which `bench_cases` computes. Assumes nothing.
use Rattle.std.specs.Prelude.{ℕ, ◌*◌, List, [], ◌∷◌, ◌++◌}
use Rattle.lists.specs.Sums.{sum}
use Rattle.lists.specs.Tables.{table}
use Rattle.lists.specs.Pairs.{cell, joined}
use Rattle.record.specs.Hours.{classes}
use Rattle.record.specs.Book.{Book}
use Rattle.agreement_rules.specs.Opening.{Opening, opened}
use Rattle.book.specs.AgreementA.{agreement_a}
use Rattle.book.specs.BookCalls.{block, next}

-- agreement A of this cycle, with these months gone and this switch month
unfoldable pub switched : (cycle gone switch : ℕ) → Opening
switched cycle gone switch =
    record {
      G = agreement_a.G;
      C = agreement_a.C;
      rate = agreement_a.rate;
      cycle = cycle;
      gone = gone;
      switch = switch;
      generators = agreement_a.generators;
      pairs = agreement_a.pairs;
    }

-- n wind generators and m consumers, every pair linked and without loss; by hours from the first closing on
unfoldable pub hourly : (n m rate : ℕ) → Opening
hourly n m rate =
    record {
      G = n;
      C = m;
      rate = rate;
      cycle = 12;
      gone = 0;
      switch = 1;
      generators = joined (table n (λ g. 1 ∷ 40 ∷ 40 ∷ []));
      pairs = table (n * m) (λ i. 1) ++ table (n * m) (λ i. 0);
    }

-- The book of such a unit in its first month, which holds so many blocks: all that was injected is pending, all that was metered is open. The
-- lists have off-peak, then normal, then peak, each by generator or by consumer.
unfoldable pub holding : Opening → (monthblocks : ℕ) (pending wanted : List ℕ) → Book
holding o monthblocks pending wanted =
    let b = opened o in
    let injected : ℕ → ℕ = λ g. sum classes (λ k. cell classes o.G pending k g) in
    let metered : ℕ → ℕ = λ c. sum classes (λ k. cell classes o.C wanted k c) in
    record {
      plan = b.plan;
      rate = b.rate;
      cycle = b.cycle;
      gone = b.gone;
      unitblocks = monthblocks;
      monthblocks = monthblocks;
      gen =
          λ g.
          record {
            injected = injected g;
            unaccounted = 0;
            lost = 0;
            setoff = 0;
            inadvertent = 0;
            charge = 0;
            drawn = 0;
            lapsed = 0;
            bank = 0;
            pending = injected g;
          };
      con = λ c. record { metered = metered c; setoff = 0; shortfall = 0; drawn = 0; supplied = 0; outstanding = metered c };
      switch = b.switch;
      closings = b.closings;
      hours = λ k. record { bank = λ g. 0; pending = cell classes o.G pending k; outstanding = cell classes o.C wanted k };
    }

-- ---- slots

-- what a block adds to the open of off-peak, normal and peak where its month holds so many blocks: nothing is delivered, and 7 Wh remain
abbrev pub open_added : (monthblocks : ℕ) → List ℕ
open_added monthblocks = table classes (λ k. ((next (holding (hourly 1 1 0) monthblocks [] []) (block (0 ∷ []) (7 ∷ []) 6)).hours k).outstanding 0)

-- 7 Wh in one class
abbrev pub to_off_peak : List ℕ
to_off_peak = 7 ∷ 0 ∷ 0 ∷ []

abbrev pub to_normal : List ℕ
to_normal = 0 ∷ 7 ∷ 0 ∷ []

abbrev pub to_peak : List ℕ
to_peak = 0 ∷ 0 ∷ 7 ∷ []

-- ---- closings

-- one generator and one consumer: 15 Wh pending in each class
abbrev pub fifteen_each : Book
fifteen_each = holding (hourly 1 1 1_000) 96 (15 ∷ 15 ∷ 15 ∷ []) []

-- generator 1 has 10 Wh of peak pending, generator 2 has 10 Wh of normal; the consumer has 10 Wh of normal open
abbrev pub peak_of_the_first : Book
peak_of_the_first = holding (hourly 2 1 0) 96 (0 ∷ 0 ∷ 0 ∷ 10 ∷ 10 ∷ 0 ∷ []) (0 ∷ 10 ∷ 0 ∷ [])

-- the generator has 10 Wh of peak pending; consumer 1 has 10 Wh of peak open, consumer 2 has 10 Wh of normal
abbrev pub peak_or_normal : Book
peak_or_normal = holding (hourly 1 2 0) 96 (0 ∷ 0 ∷ 10 ∷ []) (0 ∷ 0 ∷ 0 ∷ 10 ∷ 10 ∷ 0 ∷ [])

-- pending 50, 100 and 200 Wh; open 100, 0 and 180 Wh
abbrev pub all_classes : Book
all_classes = holding (hourly 1 1 1_000) 96 (50 ∷ 100 ∷ 200 ∷ []) (100 ∷ 0 ∷ 180 ∷ [])
