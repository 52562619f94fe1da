-- The tests of the parts of a stored record, as the code goes through them, and that they make up the test of the whole. Assumes nothing.
use Rattle.std.specs.Prelude.{◌≡◌, ℕ, zero, suc, ◌+◌, ◌-◌, ◌*◌, ◌<◌, ◌≤◌, Bool, true, false, ◌&&◌, ◌||◌, List, [], ◌∷◌, ◌==◌, bit_or, nat_le, nat_lt, slice_index, refl}
use Rattle.std.proofs.Math.Path.{sym, ap}
use Rattle.std.proofs.Common.{ap₂, ◌∙◌, add_assoc, arith, leb-true, leb-false, lt-ltb, le-ltb, le-leb, ne_eqb, eqb-true}
use Rattle.std.specs.Int.Bits.{or_zero_l, or_add_and}
use Rattle.std.proofs.lemmas.Nat.{and_le_r}
use Rattle.std.proofs.lemmas.Bool.{lt-leb}
use Rattle.lists.specs.Sums.{sum}
use Rattle.lists.specs.Tests.{all, within}
use Rattle.lists.specs.Laws.TestsLaws.{all_rows, all_same, all_plus, within_high, chain_at}
use Rattle.lists.specs.Pairs.{place, cell}
use Rattle.lists.specs.Laws.PairsLaws.{cell_in}
use Rattle.energy.specs.Limits.{most_generators, most_consumers, most_rate, most_cycle, most_unit_blocks, most_month_blocks}
use Rattle.record.specs.Plan.{lower_capacity, scheduled}
use Rattle.record.specs.Book.{Book, by_hours}
use Rattle.record.specs.Stored.{generator_at, consumer_at, plan_of, figures}
use Rattle.record.specs.Sound.{counts_sound, agreed_sound, pair_sound, generator_sound, consumer_sound, switch_sound, generator_hours, consumer_hours, sound}
use Rattle.record.specs.declared.Record.{Record}
use Rattle.record.specs.declared.Terms.{Terms}
use Rattle.record.specs.declared.Counts.{Counts}
use Rattle.record.specs.declared.Agreed.{Agreed}
use Rattle.record.specs.declared.Generators.{Generators}
use Rattle.record.specs.declared.Consumers.{Consumers}
use Rattle.record.specs.declared.GeneratorTerms.{GeneratorTerms}
use Rattle.record.specs.declared.ConsumerTerms.{ConsumerTerms}
use Rattle.sound_items.specs.Laws.Capped.{RowTotal}
use Rattle.sound_items.specs.Laws.CappedLaws.{capped_total}

-- ---- the tests, each of one place

unfoldable pub counts_test : Terms → Counts → Bool
counts_test t n = counts_sound t.generators t.consumers t.rate t.cycle n.gone n.unitblocks n.monthblocks

unfoldable pub agreed_test : Agreed → List ℕ → ℕ → ℕ → ℕ → Bool
agreed_test a kw G C g = agreed_sound (nat_lt g G) (place 8 a.kind g) (place 8 a.installed g) (place 8 a.contracted g) (sum C (cell 8 16 kw g))

unfoldable pub pair_test : List ℕ → List ℕ → List ℕ → List ℕ → ℕ → ℕ → ℕ → ℕ → Bool
pair_test link loss kw rank G C g c = pair_sound (nat_lt g G && nat_lt c C) (cell 8 16 link g c) (cell 8 16 loss g c) (cell 8 16 kw g c) (cell 8 16 rank g c)

unfoldable pub generator_test : Generators → ℕ → ℕ → ℕ → Bool
generator_test t G blocks g = generator_sound blocks (nat_lt g G) (generator_at t g)

unfoldable pub consumer_test : Consumers → ℕ → ℕ → ℕ → Bool
consumer_test t C blocks c = consumer_sound blocks (nat_lt c C) (consumer_at t c)

-- the switch and the classes of hours
unfoldable pub hours_test : Book → Bool
hours_test b =
    switch_sound (by_hours b) b.switch b.closings b.gone b.unitblocks b.monthblocks && all 8 (generator_hours b) && all 16 (consumer_hours b)

-- within the lower of two is within both
pub within_both : (t i n : ℕ) → nat_le t i && nat_le t n ≡ nat_le t (lower_capacity i n)
within_both t i n = go (nat_le t i) refl (nat_le t n) refl
  where
    go : (a : Bool) → nat_le t i ≡ a → (b : Bool) → nat_le t n ≡ b → a && b ≡ nat_le t (lower_capacity i n)
    go true e true q = sym (le-leb t (lower_capacity i n) (omega (arith, leb-true t i e, leb-true t n q)))
    go true e false q = sym (lt-leb t (lower_capacity i n) (omega (arith, leb-false t n q)))
    go false e b q = sym (lt-leb t (lower_capacity i n) (omega (arith, leb-false t i e)))

-- ---- the same read from the lists, as the code does

pub agreed_here : (a : Agreed) (kw : List ℕ) (G C g : ℕ) {s : ℕ} → g < 8 → RowTotal kw g C s → agreed_sound (nat_lt g G) (slice_index a.kind g) (slice_index a.installed g) (slice_index a.contracted g) s ≡ agreed_test a kw G C g
unfolding agreed_test place
agreed_here a kw G C g l h = rw (lt-ltb g 8 l) (capped_total _ _ _ _ h.cut)

abbrev pub generator_read : Generators → ℕ → GeneratorTerms
generator_read t g =
    record {
      injected = slice_index t.injected g;
      unaccounted = slice_index t.unaccounted g;
      lost = slice_index t.lost g;
      setoff = slice_index t.setoff g;
      inadvertent = slice_index t.inadvertent g;
      charge = slice_index t.charge g;
      drawn = slice_index t.drawn g;
      lapsed = slice_index t.lapsed g;
      bank = slice_index t.bank g;
      pending = slice_index t.pending g;
    }

pub generator_here : (t : Generators) (G blocks g : ℕ) → g < 8 → generator_sound blocks (nat_lt g G) (generator_read t g) ≡ generator_test t G blocks g
unfolding generator_test generator_at place
generator_here t G blocks g l = rw (lt-ltb g 8 l)

abbrev pub consumer_read : Consumers → ℕ → ConsumerTerms
consumer_read t c =
    record {
      metered = slice_index t.metered c;
      setoff = slice_index t.setoff c;
      shortfall = slice_index t.shortfall c;
      drawn = slice_index t.drawn c;
      supplied = slice_index t.supplied c;
      outstanding = slice_index t.outstanding c;
    }

pub consumer_here : (t : Consumers) (C blocks c : ℕ) → c < 16 → consumer_sound blocks (nat_lt c C) (consumer_read t c) ≡ consumer_test t C blocks c
unfolding consumer_test consumer_at place
consumer_here t C blocks c l = rw (lt-ltb c 16 l)

-- place k of the four pair lists
unfoldable pub pair_read : List ℕ → List ℕ → List ℕ → List ℕ → Bool → ℕ → Bool
pair_read link loss kw rank inside k = pair_sound inside (slice_index link k) (slice_index loss k) (slice_index kw k) (slice_index rank k)

-- a number made of all by `|` is 0 where each of them is
pub or_zero : (a b : ℕ) → (bit_or a b == 0) ≡ (a == 0) && b == 0
or_zero zero b = rw (or_zero_l b)
or_zero (suc a) b = rw (ne_eqb (suc a) 0 (λ e. absurd (omega (arith, e)))) (ne_eqb (bit_or (suc a) b) 0 (λ e. absurd (omega (arith, e, or_add_and (suc a) b, and_le_r (suc a) b))))

at_most_zero : (x : ℕ) → nat_le x 0 ≡ (x == 0)
at_most_zero zero = refl
at_most_zero (suc x) = rw (ne_eqb (suc x) 0 (λ e. absurd (omega (arith, e)))) (lt-leb (suc x) 0 (omega arith))

-- beyond the agreement a pair is sound where its four numbers are 0
beyond : (link loss kw rank : ℕ) → pair_sound false link loss kw rank ≡ ((link == 0 && loss == 0) && kw == 0) && rank == 0
unfolding pair_sound
beyond link loss kw rank = rw (at_most_zero link, at_most_zero loss, at_most_zero rank, le-leb 0 rank (omega arith)) (go (link == 0) refl (loss == 0))
  where
    last : (k : Bool) → (k && true) && (rank == 0) ≡ k && rank == 0
    last true = refl
    last false = refl

    go : (a : Bool) → (link == 0) ≡ a → (b : Bool) → (((a && b) && (link == 1 || kw == 0)) && true) && (rank == 0) ≡ ((a && b) && kw == 0) && rank == 0
    go false e b = refl
    go true e false = refl
    go true e true = rw (ne_eqb link 1 (λ q. absurd (omega (arith, q, eqb-true link 0 e)))) (last (kw == 0))

-- the next place, joined to those passed
pub beyond_next : (bits link loss kw rank : ℕ) → (bit_or (bit_or (bit_or (bit_or bits link) loss) kw) rank == 0) ≡ (bits == 0) && pair_sound false link loss kw rank
beyond_next bits link loss kw rank =
    rw (or_zero (bit_or (bit_or (bit_or bits link) loss) kw) rank, or_zero (bit_or (bit_or bits link) loss) kw, or_zero (bit_or bits link) loss, or_zero bits link, beyond link loss kw rank)
    (regroup (bits == 0) (link == 0) (loss == 0) (kw == 0))
  where
    regroup : (b x y z : Bool) → (((b && x) && y) && z) && (rank == 0) ≡ b && (((x && y) && z) && rank == 0)
    regroup true x y z = refl
    regroup false x y z = refl

module _ (link loss kw rank : List ℕ) where
  -- the first m places of a row, and those beyond
  pub row_here : (g m : ℕ) {a b : Bool} → m ≤ 16 →
      a ≡ all m (λ c. pair_read link loss kw rank true (g * 16 + c)) → b ≡ all (16 - m) (λ i. pair_read link loss kw rank false (g * 16 + m + i)) →
      (a && b) ≡ all 16 (λ c. pair_read link loss kw rank (nat_lt c m) (g * 16 + c))
  row_here g m {a} {b} h p q =
      rw (p, q) (ap₂ ◌&&◌ (all_same m _ _ (λ c l. rw (lt-ltb c m l))) (all_same (16 - m) _ _ (λ i l. rw (le-ltb (m + i) m (omega arith), add_assoc (g * 16) m i)))
      ∙ sym (all_plus m (16 - m) row) ∙ ap (λ (k : ℕ). all k row) (omega (arith, h)))
    where
      row : ℕ → Bool
      row c = pair_read link loss kw rank (nat_lt c m) (g * 16 + c)

  -- the first n rows, and those beyond
  pub pairs_here : (n m : ℕ) {a b : Bool} → n ≤ 8 →
      a ≡ all n (λ g. all 16 (λ c. pair_read link loss kw rank (nat_lt c m) (g * 16 + c))) → b ≡ all (128 - n * 16) (λ i. pair_read link loss kw rank false (n * 16 + i)) →
      (a && b) ≡ all 8 (λ g. all 16 (pair_test link loss kw rank n m g))
  unfolding pair_read pair_test
  pairs_here n m {a} {b} h p q =
      rw (p, q) (ap₂ ◌&&◌ (all_same n _ _ (λ g l. all_same 16 _ _ (λ c k. inside g c l k))) (count ∙ all_rows (8 - n) 16 _ ∙ all_same (8 - n) _ _ (λ g l. all_same 16 _ _ (λ c k. outside g c l k)))
      ∙ sym (all_plus n (8 - n) rows) ∙ ap (λ (k : ℕ). all k rows) (omega (arith, h)))
    where
      rows : ℕ → Bool
      rows g = all 16 (pair_test link loss kw rank n m g)

      count : all (128 - n * 16) (λ i. pair_read link loss kw rank false (n * 16 + i)) ≡ all ((8 - n) * 16) (λ i. pair_read link loss kw rank false (n * 16 + i))
      count = ap (λ (k : ℕ). all k (λ i. pair_read link loss kw rank false (n * 16 + i))) (omega (arith, h))

      cells : (g c : ℕ) → g < 8 → c < 16 → (inside : Bool) → pair_read link loss kw rank inside (g * 16 + c) ≡ pair_sound inside (cell 8 16 link g c) (cell 8 16 loss g c) (cell 8 16 kw g c) (cell 8 16 rank g c)
      cells g c l k inside = rw (cell_in 8 16 link g c l k, cell_in 8 16 loss g c l k, cell_in 8 16 kw g c l k, cell_in 8 16 rank g c l k)

      inside : (g c : ℕ) → g < n → c < 16 → pair_read link loss kw rank (nat_lt c m) (g * 16 + c) ≡ pair_test link loss kw rank n m g c
      inside g c l k = cells g c (omega (arith, h)) k (nat_lt c m) ∙ rw (lt-ltb g n l)

      outside : (g c : ℕ) → g < 8 - n → c < 16 → pair_read link loss kw rank false (n * 16 + (g * 16 + c)) ≡ pair_test link loss kw rank n m (n + g) c
      outside g c l k =
          ap (λ (i : ℕ). pair_read link loss kw rank false i) (omega arith) ∙ cells (n + g) c (omega (arith, l)) k false ∙ rw (le-ltb (n + g) n (omega arith))

-- ---- the whole

-- what the code that tests the other parts needs of the counts
pub record CountsFit (G C blocks : ℕ) : Type 0 where
  pub generators_fit : G ≤ most_generators
  pub consumers_fit : C ≤ most_consumers
  pub blocks_fit : blocks ≤ most_unit_blocks

pub counts_fit : (t : Terms) (n : Counts) → counts_test t n ≡ true → CountsFit t.generators t.consumers n.unitblocks
unfolding counts_test counts_sound
counts_fit t n e =
    let w =
    chain_at (within 1 most_generators t.generators)
    (within 1 most_consumers t.consumers ∷ nat_le t.rate most_rate ∷ within 1 most_cycle t.cycle ∷ nat_lt n.gone t.cycle ∷ nat_le n.unitblocks most_unit_blocks ∷ nat_le n.monthblocks most_month_blocks ∷ nat_le n.monthblocks n.unitblocks ∷ [])
    e in
    record { generators_fit = within_high _ _ _ (w 0); consumers_fit = within_high _ _ _ (w 1); blocks_fit = leb-true _ _ (w 5) }

last_joined : (x a b c : Bool) → x && (a && b && c) ≡ x && a && b && c
last_joined true a b c = refl
last_joined false a b c = refl

pub sound_by_parts : (r : Record) {a b c d h : Bool} →
    counts_test r.terms r.counts ≡ true →
    a ≡ all 8 (agreed_test r.agreed r.schedule.kw r.terms.generators r.terms.consumers) →
    b ≡ all 8 (λ g. all 16 (pair_test r.links.link r.links.loss r.schedule.kw r.schedule.rank r.terms.generators r.terms.consumers g)) →
    c ≡ all 8 (generator_test r.generators r.terms.generators r.counts.unitblocks) →
    d ≡ all 16 (consumer_test r.consumers r.terms.consumers r.counts.unitblocks) →
    h ≡ hours_test (figures r) →
    (a && b && c && d && h) ≡ sound (figures r)
unfolding sound figures plan_of scheduled counts_test agreed_test pair_test generator_test consumer_test hours_test
sound_by_parts r {a} {b} {c} {d} {h} e p q s t u =
    let f = figures r in
    let switch = switch_sound (by_hours f) f.switch f.closings f.gone f.unitblocks f.monthblocks in
    rw u (last_joined (a && b && c && d) switch (all 8 (generator_hours f)) (all 16 (consumer_hours f)) ∙ rw (e, p, q, s, t))

pub unsound_counts : (r : Record) → counts_test r.terms r.counts ≡ false → false ≡ sound (figures r)
unfolding sound figures plan_of counts_test
unsound_counts r e = rw e
