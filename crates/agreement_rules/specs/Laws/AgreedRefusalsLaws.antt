-- What the code tests is what the rules refuse. Assumes nothing.
use Rattle.std.specs.Prelude.{ℕ, zero, suc, ◌+◌, ◌*◌, ◌≤◌, ◌<◌, ◌≡◌, Bool, true, false, ◌&&◌, ◌||◌, List, [], ◌∷◌, eqb, leb, length, get_or, take, drop}
use Rattle.std.proofs.Math.Path.{refl}
use Rattle.std.proofs.Common.{sym, ap, ◌∙◌, arith, ltb-true, ltb-false, leb-true, leb-false, lt-ltb, le-ltb, le-leb, eqb-true, get_or-drop}
use Rattle.std.proofs.Math.Bool.{not}
use Rattle.std.proofs.Math.Dec.{ltb}
use Rattle.lists.specs.Sums.{sum}
use Rattle.lists.specs.Laws.SumsLaws.{sum_cong}
use Rattle.lists.specs.Tests.{some, within}
use Rattle.lists.specs.Laws.TestsLaws.{some_rows, some_same, within_high, and_left, and_right, chain_at}
use Rattle.lists.specs.Pairs.{cell}
use Rattle.lists.specs.Laws.PairsLaws.{place_in, cell_in}
use Rattle.lists.specs.Refusals.{first_of}
use Rattle.energy.specs.Limits.{most_generators, most_consumers, last_kind, most_capacity, most_loss, most_rank, most_switch}
use Rattle.record.specs.Plan.{lower_capacity}
use Rattle.record.specs.Stored.{figures, plan_of}
use Rattle.record.specs.declared.Agreed.{Agreed}
use Rattle.record.specs.declared.Record.{Record}
use Rattle.agreement_rules.specs.Opening.{asked, sizes_fit, terms_fit, kind_of, installed_of, contracted_of, link_of, rate_of_loss, opening_refusal}
use Rattle.agreement_rules.specs.Schedule.{new_kw, new_rank, schedule_refusal}
use Rattle.agreement_rules.specs.Laws.AgreedReading.{RowsAt}
use Rattle.agreement_rules.specs.Laws.AgreedReadingLaws.{cell_take}
use Rattle.agreement_rules.specs.Laws.AgreedRefusals.{outside, column_over, Fitting, off_link, over_at, over_capacity, refusal_on}

-- ---- tests

some_or : (n : ℕ) (p q : ℕ → Bool) → some n p || some n q ≡ some n (λ i. p i || q i)
unfolding some
some_or zero p q = refl
some_or (suc n) p q = rw (← (some_or n p q)) (mixed (some n p) (p n) (some n q) (q n))
  where
    mixed : (a b c d : Bool) → (a || b) || (c || d) ≡ (a || c) || (b || d)
    mixed true b c d = refl
    mixed false true true d = refl
    mixed false true false d = refl
    mixed false false c d = refl

outside_over : (high x : ℕ) → not (within 0 high x) ≡ ltb high x
unfolding within
outside_over high x = rw (le-leb 0 x (omega arith)) (go (leb x high) refl)
  where
    go : (t : Bool) → leb x high ≡ t → not t ≡ ltb high x
    go true e = sym (le-ltb high x (leb-true x high e))
    go false e = sym (lt-ltb high x (leb-false x high e))

over_lower : (i n t : ℕ) → ltb i t || ltb n t ≡ ltb (lower_capacity i n) t
over_lower i n t = go (ltb i t) refl (ltb n t) refl
  where
    go : (a : Bool) → ltb i t ≡ a → (b : Bool) → ltb n t ≡ b → a || b ≡ ltb (lower_capacity i n) t
    go true e b q = sym (lt-ltb (lower_capacity i n) t (omega (arith, ltb-true i t e)))
    go false e true q = sym (lt-ltb (lower_capacity i n) t (omega (arith, ltb-true n t q)))
    go false e false q = sym (le-ltb (lower_capacity i n) t (omega (arith, ltb-false i t e, ltb-false n t q)))

-- ---- the rows of a schedule

pub row_off : (link kws : List ℕ) (n m g : ℕ) → n ≤ 8 → m ≤ 16 → g < n →
    some m (λ c. eqb (get_or link (g * 16 + c) 0) 0 && ltb 0 (get_or kws (g * m + c) 0)) ≡ some m (λ c. eqb (cell 8 16 link g c) 0 && ltb 0 (cell n m kws g c))
row_off link kws n m g h k l =
    some_same m _ _ (λ c b. rw (cell_in 8 16 link g c (omega arith) (omega arith), cell_in n m kws g c l b) refl)

pub row_over : (a : Agreed) (kws : List ℕ) (n m g t : ℕ) → n ≤ 8 → g < n → t ≡ sum m (λ c. get_or kws (g * m + c) 0) →
    ltb (get_or a.installed g 0) t || ltb (get_or a.contracted g 0) t ≡ over_at a n m kws g
row_over a kws n m g t h l e =
    over_lower _ _ t ∙
    rw (place_in 8 a.installed g (omega arith), place_in 8 a.contracted g (omega arith), e, sum_cong m (cell n m kws g) (λ c. get_or kws (g * m + c) 0) (λ c b. cell_in n m kws g c l b))
    refl

-- ---- opening

pub counts_high : (n m : ℕ) → (leb 1 n && leb n 8) && (leb 1 m && leb m 16) ≡ true → (n ≤ 8) × (m ≤ 16)
counts_high n m e =
    let a = leb 1 n && leb n 8 in
    let b = leb 1 m && leb m 16 in
    (leb-true n 8 (and_right (leb 1 n) (leb n 8) (and_left a b e)), leb-true m 16 (and_right (leb 1 m) (leb m 16) (and_right a b e)))

pub sizes_fitting : (G C : ℕ) (generators pairs : List ℕ) → sizes_fit G C generators pairs ≡ true → Fitting G C generators pairs
unfolding sizes_fit
sizes_fitting G C generators pairs e =
    let s = chain_at (within 1 most_generators G) (within 1 most_consumers C ∷ eqb (length generators) (3 * G) ∷ eqb (length pairs) (2 * (G * C)) ∷ []) e in
    record {
      G_high = within_high 1 most_generators G (s 0);
      C_high = within_high 1 most_consumers C (s 1);
      generators_size = eqb-true _ _ (s 2);
      pairs_size = eqb-true _ _ (s 3);
    }

-- a pair list tested number by number is tested pair by pair
outside_pairs : (xs ys : List ℕ) (from n m high : ℕ) → ((g c : ℕ) → g < n → c < m → cell n m ys g c ≡ get_or xs (from + (g * m + c)) 0) →
    outside xs from (n * m) 0 high ≡ some n (λ g. some m (λ c. ltb high (cell n m ys g c)))
unfolding outside
outside_pairs xs ys from n m high h =
    some_rows n m (λ k. not (within 0 high (get_or xs (from + k) 0))) ∙
    some_same n _ _ (λ g l. some_same m _ _ (λ c k. outside_over high _ ∙ ap (ltb high) (sym (h g c l k))))

module _ (G C rate cycle gone switch : ℕ) (generators pairs : List ℕ) where
  pairs_bad : outside pairs 0 (G * C) 0 1 || outside pairs (G * C) (G * C) 0 most_loss ≡
      some G (λ g. some C (λ c. ltb 1 (cell G C (take (G * C) pairs) g c) || ltb most_loss (cell G C (drop (G * C) pairs) g c)))
  pairs_bad =
      rw (
        outside_pairs pairs (take (G * C) pairs) 0 G C 1 (λ g c l k. ap (λ (f : ℕ → ℕ → ℕ). f g c) (cell_take G C pairs) ∙ cell_in G C pairs g c l k ∙ ap (λ (i : ℕ). get_or pairs i 0) (omega arith)),
        outside_pairs pairs (drop (G * C) pairs) (G * C) G C most_loss (λ g c l k. cell_in G C (drop (G * C) pairs) g c l k ∙ get_or-drop (G * C) pairs (g * C + c) 0),
      )
      (some_or G _ _ ∙ some_same G _ _ (λ g l. some_or C _ _))

  -- the tests as the code makes them, in their order
  pub opening_tested : opening_refusal (asked G C rate cycle gone switch generators pairs) ≡
      first_of
      ((2, not (sizes_fit G C generators pairs)) ∷
      (3, column_over generators G 0 last_kind) ∷
      (4, column_over generators G 1 most_capacity || column_over generators G 2 most_capacity) ∷
      (5, outside pairs 0 (G * C) 0 1 || outside pairs (G * C) (G * C) 0 most_loss) ∷
      (6, not (terms_fit rate cycle gone)) ∷
      (19, ltb most_switch switch) ∷
      [])
  unfolding opening_refusal kind_of installed_of contracted_of link_of rate_of_loss column_over
  opening_tested =
      rw (some_or G (λ g. ltb most_capacity (cell G 3 generators g 1)) (λ g. ltb most_capacity (cell G 3 generators g 2)), pairs_bad) refl

-- ---- schedule

pub schedule_sizes : (n m : ℕ) (kws ranks : List ℕ) → eqb (length kws) (n * m) && eqb (length ranks) (n * m) ≡ true → (length kws ≡ n * m) × (length ranks ≡ n * m)
schedule_sizes n m kws ranks e =
    let x = eqb (length kws) (n * m) in
    let y = eqb (length ranks) (n * m) in
    (eqb-true _ _ (and_left x y e), eqb-true _ _ (and_right x y e))

module _ (a : Agreed) (link : List ℕ) (n m : ℕ) (kws ranks : List ℕ) where
  abbrev sized : Bool
  sized = eqb (length kws) (n * m) && eqb (length ranks) (n * m)

  -- what the tests ask that are made where the lists have the length that is read
  pub schedule_rows : sized ≡ true → n ≤ most_generators → m ≤ most_consumers → RowsAt kws 0 n m × (length ranks ≡ n * m)
  schedule_rows e h k =
      let s = schedule_sizes n m kws ranks e in
      (record { fits = omega (arith, s.0); few_rows = h; few = k }, s.1)

  -- the tests as the code makes them, in their order
  pub schedule_tested : refusal_on a link n m kws ranks ≡
      first_of ((2, not sized) ∷ (7, off_link link n m kws) ∷ (8, over_capacity a n m kws) ∷ (9, outside ranks 0 (n * m) 1 most_rank) ∷ [])
  unfolding refusal_on outside
  schedule_tested = rw ranks_out refl
    where
      ranks_out : some n (λ g. some m (λ c. not (within 1 most_rank (cell n m ranks g c)))) ≡ some (n * m) (λ k. not (within 1 most_rank (get_or ranks (0 + k) 0)))
      ranks_out = sym (some_rows n m _ ∙ some_same n _ _ (λ g l. some_same m _ _ (λ c k. rw (cell_in n m ranks g c l k) (ap (λ (i : ℕ). not (within 1 most_rank (get_or ranks i 0))) (omega arith)))))

pub refusal_figures : (r : Record) (kws ranks : List ℕ) → refusal_on r.agreed r.links.link r.terms.generators r.terms.consumers kws ranks ≡ schedule_refusal kws ranks (figures r)
unfolding refusal_on schedule_refusal new_kw new_rank figures plan_of off_link over_capacity
refusal_figures r kws ranks = refl
