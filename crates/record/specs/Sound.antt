-- Document 01, "The record", and document 02, F-7: what a sound record is. Assumes nothing.
use Rattle.std.specs.Prelude.{ℕ, ◌+◌, ◌*◌, Bool, ◌&&◌, ◌||◌, not, eqb, leb, ltb, if◌then◌else◌}
use Rattle.lists.specs.Sums.{sum}
use Rattle.lists.specs.Tests.{all, within}
use Rattle.energy.specs.Limits.{most_generators, most_consumers, last_kind, most_capacity, most_loss, most_rate, most_cycle, most_rank, most_reading, most_month_blocks, most_unit_blocks, most_switch}
use Rattle.record.specs.Plan.{lower_capacity, scheduled}
use Rattle.record.specs.Hours.{classes}
use Rattle.record.specs.Book.{Book, by_hours, split_of_injected, split_of_metered}
use Rattle.record.specs.declared.GeneratorTerms.{GeneratorTerms}
use Rattle.record.specs.declared.ConsumerTerms.{ConsumerTerms}

-- The limit n at a place within the agreement. Places beyond G or C are 0: there each limit is 0.
abbrev pub limit : Bool → ℕ → ℕ
limit inside n = if inside then n else 0

-- the ranges of the counts: G, C, bank terms, blocks
unfoldable pub counts_sound : ℕ → ℕ → ℕ → ℕ → ℕ → ℕ → ℕ → Bool
counts_sound G C rate cycle gone unitblocks monthblocks =
    within 1 most_generators G && within 1 most_consumers C && leb rate most_rate && within 1 most_cycle cycle && ltb gone cycle && leb unitblocks most_unit_blocks && leb monthblocks most_month_blocks && leb monthblocks unitblocks

-- one generator of the agreement, with the sum of its scheduled kW, which is within the lower of its capacities (5.1)
unfoldable pub agreed_sound : Bool → ℕ → ℕ → ℕ → ℕ → Bool
agreed_sound inside kind installed contracted total =
    leb kind (limit inside last_kind) && leb installed (limit inside most_capacity) && leb contracted (limit inside most_capacity) && leb total (lower_capacity installed contracted)

-- one pair: an unlinked one has 0 kW
unfoldable pub pair_sound : Bool → ℕ → ℕ → ℕ → ℕ → Bool
pair_sound inside link loss kw rank =
    leb link (limit inside 1) && leb loss (limit inside most_loss) && (eqb link 1 || eqb kw 0) && leb (limit inside 1) rank && leb rank (limit inside most_rank)

-- the totals of one generator: injected within its bound, and the generator equation
unfoldable pub generator_sound : ℕ → Bool → GeneratorTerms → Bool
generator_sound unitblocks inside x = leb x.injected (limit inside (most_reading * unitblocks)) && eqb x.injected (split_of_injected x)

-- the totals of one consumer: metered within its bound, and the consumer equation
unfoldable pub consumer_sound : ℕ → Bool → ConsumerTerms → Bool
consumer_sound unitblocks inside x = leb x.metered (limit inside (most_reading * unitblocks)) && eqb x.metered (split_of_metered x)

-- F-7: the range of the switch month; closings done and month blocks are at most unit blocks; by hours, months gone are 0
unfoldable pub switch_sound : (hours : Bool) (switch closings gone unitblocks monthblocks : ℕ) → Bool
switch_sound hours switch closings gone unitblocks monthblocks =
    leb switch most_switch && leb (closings + monthblocks) unitblocks && (not hours || eqb gone 0)

-- F-7, of one place of bank, pending or open and the sum of its three classes: by hours the place is that sum; before, the class places
-- are 0, and so is their sum
unfoldable pub classes_sound : (hours : Bool) (whole total : ℕ) → Bool
classes_sound hours whole total = eqb total (limit hours whole)

module _ (b : Book) where
  unfoldable pub bank_total : ℕ → ℕ
  bank_total g = sum classes (λ k. (b.hours k).bank g)

  unfoldable pub pending_total : ℕ → ℕ
  pending_total g = sum classes (λ k. (b.hours k).pending g)

  unfoldable pub open_total : ℕ → ℕ
  open_total c = sum classes (λ k. (b.hours k).outstanding c)

  unfoldable pub generator_hours : ℕ → Bool
  generator_hours g = classes_sound (by_hours b) (b.gen g).bank (bank_total g) && classes_sound (by_hours b) (b.gen g).pending (pending_total g)

  unfoldable pub consumer_hours : ℕ → Bool
  consumer_hours c = classes_sound (by_hours b) (b.con c).outstanding (open_total c)

  unfoldable pub sound : Bool
  sound =
      let p = b.plan in
      let in_g : ℕ → Bool = λ g. ltb g p.G in
      let in_c : ℕ → Bool = λ c. ltb c p.C in
      counts_sound p.G p.C b.rate b.cycle b.gone b.unitblocks b.monthblocks &&
      (all 8 (λ g. agreed_sound (in_g g) (p.kind g) (p.installed g) (p.contracted g) (scheduled p g)) &&
      all 8 (λ g. all 16 (λ c. pair_sound (in_g g && in_c c) (p.link g c) (p.loss g c) (p.kw g c) (p.rank g c))) &&
      all 8 (λ g. generator_sound b.unitblocks (in_g g) (b.gen g)) &&
      all 16 (λ c. consumer_sound b.unitblocks (in_c c) (b.con c)) &&
      switch_sound (by_hours b) b.switch b.closings b.gone b.unitblocks b.monthblocks &&
      all 8 generator_hours &&
      all 16 consumer_hours)
