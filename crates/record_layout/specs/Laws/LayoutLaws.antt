-- The record's bytes are read back as the record, and the record's numbers as its bytes. Assumes nothing.
use Prim.Native.Nat.{ℕ, zero, suc, ◌+◌, ◌*◌, ◌/◌, ◌%◌, ◌^◌, ◌≤◌, ◌<◌}
use Rattle.std.specs.Prelude.{◌≡◌, refl, List, [], ◌∷◌, ◌++◌, length, get_or, take}
use Rattle.std.proofs.Math.Path.{sym, ap}
use Rattle.std.proofs.Common.{◌∙◌, arith, length-drop, take-append-drop, length-take-le}
use Rattle.std.proofs.Math.ListN.{drop}
use Rattle.lists.specs.Tables.{table}
use Rattle.lists.specs.Laws.TablesLaws.{is_table, get_or_table, table_bound}
use Rattle.lists.specs.Pairs.{place, cell, pairs, joined}
use Rattle.lists.specs.Laws.PairsLaws.{place_in, place_all, cell_in, pairs_table}
use Rattle.codec.specs.Bytes.{encode}
use Rattle.codec.specs.Laws.BytesLaws.{Below, below_append, length_encode, length_decode, decode_encode, encode_decode}
use Rattle.record.specs.Book.{Book, split_of_injected, split_of_metered}
use Rattle.record.specs.Laws.Shape.{Shape, record_kept}
use Rattle.record.specs.Stored.{stored, stored_generators, stored_consumers, stored_stocks, figures}
use Rattle.energy.specs.Limits.{most_figure}
use Rattle.record.specs.Laws.SoundLaws.{Facts, injected_most, metered_most, kw_most, class_bank, class_pending, class_open}
use Rattle.record.specs.RecordWords.{agreed_of, runs, run_lengths, total, words, cut, from_runs, record_of}
use Rattle.record.specs.declared.Record.{Record}
use Rattle.record.specs.declared.GeneratorTerms.{GeneratorTerms}
use Rattle.record.specs.declared.ConsumerTerms.{ConsumerTerms}
use Rattle.record.specs.Laws.RecordWordsLaws.{words_count, length_words, record_of_words}
use Rattle.record_places.specs.RecordSize.{record_numbers, record_bytes, words_in}
use Rattle.record_layout.specs.OnBytes.{record_in}

-- ---- the numbers of a record made of numbers

joined_cut : (ns ws : List ℕ) → length ws ≡ total ns → joined (cut ns ws) ≡ ws
unfolding joined cut total
joined_cut [] [] e = refl
joined_cut [] (w ∷ ws) e = absurd (omega arith)
joined_cut (n ∷ ns) ws e = rw (joined_cut ns (drop n ws) (omega (arith, length-drop n ws))) (take-append-drop n ws)

-- each run has its length
pub run_length : (ns ws : List ℕ) → length ws ≡ total ns → (j : ℕ) → j < length ns → length (get_or (cut ns ws) j []) ≡ get_or ns j 0
unfolding cut total
run_length [] ws e j h = absurd (omega arith)
run_length (n ∷ ns) ws e zero h = length-take-le n ws (omega arith)
run_length (n ∷ ns) ws e (suc j) h = run_length ns (drop n ws) (omega (arith, length-drop n ws)) j (omega arith)

head_back : (h : List ℕ) → length h ≡ 7 → get_or h 0 0 ∷ get_or h 1 0 ∷ get_or h 2 0 ∷ get_or h 3 0 ∷ get_or h 4 0 ∷ get_or h 5 0 ∷ get_or h 6 0 ∷ [] ≡ h
unfolding table
head_back h e = sym (is_table 0 7 (λ i. get_or h i 0) h e (λ i l. refl))

pair_back : (h : List ℕ) → length h ≡ 2 → get_or h 0 0 ∷ get_or h 1 0 ∷ [] ≡ h
unfolding table
pair_back h e = sym (is_table 0 2 (λ i. get_or h i 0) h e (λ i l. refl))

module _ (a : List ℕ) (e : length a ≡ 24) where
  column : ℕ → List ℕ
  column j = table 8 (λ g. cell 8 3 a g j)

  column_at : (g j : ℕ) → g < 8 → j < 3 → place 8 (column j) g ≡ get_or a (g * 3 + j) 0
  unfolding column
  column_at g j h l = place_in 8 (column j) g h ∙ get_or_table 8 (λ g. cell 8 3 a g j) g 0 h ∙ cell_in 8 3 a g j h l

  agreed_place : (g j : ℕ) → g < 8 → j < 3 → agreed_of (record { kind = column 0; installed = column 1; contracted = column 2 }) g j ≡ get_or a (g * 3 + j) 0
  unfolding agreed_of
  agreed_place g zero h l = column_at g 0 h l
  agreed_place g (suc zero) h l = column_at g 1 h l
  agreed_place g (suc (suc zero)) h l = column_at g 2 h l
  agreed_place g (suc (suc (suc j))) h l = absurd (omega arith)

  agreed_back : pairs 8 3 (agreed_of (record { kind = column 0; installed = column 1; contracted = column 2 })) ≡ a
  agreed_back =
      pairs_table 8 3 _ ∙
      sym (is_table 0 24 _ a e (λ k l. sym (agreed_place (k / 3) (k % 3) (omega arith) (omega arith) ∙ ap (λ (i : ℕ). get_or a i 0) (omega arith))))

module _ (ws : List ℕ) (e : length ws ≡ record_numbers) where
  pub runs_back : runs (record_of ws) ≡ cut run_lengths ws
  unfolding runs record_of from_runs cut run_lengths total column
  runs_back =
      let size = run_length run_lengths ws e in
      λ i. head_back (take 7 ws) (size 0 (omega arith)) i ∷ agreed_back (take 24 (drop 7 ws)) (size 1 (omega arith)) i ∷
      (take 20 (drop 2 (cut run_lengths ws)) ++ (pair_back (get_or (cut run_lengths ws) 22 []) (size 22 (omega arith)) i ∷ drop 23 (cut run_lengths ws)))

  pub words_of_record : words (record_of ws) ≡ ws
  unfolding words
  words_of_record = ap joined runs_back ∙ joined_cut run_lengths ws (e ∙ sym words_count)

-- the record's bytes, whatever they are, are the bytes of the record read from them
pub bytes_of_record : (s : List ℕ) → length s ≡ record_bytes → Below 256 s → encode 8 (words (record_in s)) ≡ s
bytes_of_record s e h = ap (encode 8) (words_of_record (words_in s) (length_decode 8 record_numbers s)) ∙ encode_decode 8 record_numbers s e h

-- ---- a stored record read back

pub bytes_of_stored : (b : Book) → length (encode 8 (words (stored b))) ≡ record_bytes
bytes_of_stored b = omega (arith, length_encode 8 (words (stored b)), length_words b)

-- every number of every list is below b
data AllBelow (b : ℕ) : List (List ℕ) → Type 0 where
  none : AllBelow b []
  also : {xs : List ℕ} {xss : List (List ℕ)} → Below b xs → AllBelow b xss → AllBelow b (xs ∷ xss)

below_joined : {b : ℕ} {xss : List (List ℕ)} → 0 < b → AllBelow b xss → Below b (joined xss)
unfolding joined
below_joined p none = λ i. p
below_joined {b} p (also {xs} {xss} h l) = below_append b xs (joined xss) h (below_joined p l)

below_table : (n : ℕ) (f : ℕ → ℕ) → ((i : ℕ) → f i ≤ most_figure) → Below (most_figure + 1) (table n f)
below_table n f h i = omega (arith, table_bound n f most_figure (λ k l. h k) i)

below_pairs : (n w : ℕ) (f : ℕ → ℕ → ℕ) → ((g c : ℕ) → f g c ≤ most_figure) → Below (most_figure + 1) (pairs n w f)
below_pairs n w f h = rw pairs_table (below_table (n * w) (λ k. f (k / w) (k % w)) (λ k. h (k / w) (k % w)))

place_low : (f : ℕ → ℕ) → ((g : ℕ) → f g ≤ most_figure) → (g : ℕ) → place 8 (table 8 f) g ≤ most_figure
place_low f h = place_all (λ x. x ≤ most_figure) 8 (table 8 f) (omega arith) (λ i l. table_bound 8 f most_figure (λ k m. h k) i)

module _ (b : Book) (f : Facts b) where
  agreed_low : (g k : ℕ) → agreed_of (stored b).agreed g k ≤ most_figure
  unfolding agreed_of stored
  agreed_low g zero = place_low b.plan.kind (λ g. omega (arith, (f.agreed g).kind)) g
  agreed_low g (suc zero) = place_low b.plan.installed (λ g. omega (arith, (f.agreed g).installed)) g
  agreed_low g (suc (suc k)) = place_low b.plan.contracted (λ g. omega (arith, (f.agreed g).contracted)) g

  -- each term of an equation is at most the energy that is split
  generator_low : (v : GeneratorTerms → ℕ) → ((x : GeneratorTerms) → v x ≤ split_of_injected x) → Below (most_figure + 1) (table 8 (λ g. v (b.gen g)))
  generator_low v h = below_table 8 (λ g. v (b.gen g)) (λ g. omega (arith, h (b.gen g), (f.gen g).equation, injected_most b f g))

  consumer_low : (v : ConsumerTerms → ℕ) → ((x : ConsumerTerms) → v x ≤ split_of_metered x) → Below (most_figure + 1) (table 16 (λ c. v (b.con c)))
  consumer_low v h = below_table 16 (λ c. v (b.con c)) (λ c. omega (arith, h (b.con c), (f.con c).equation, metered_most b f c))

  head_low : Below (most_figure + 1) (b.plan.G ∷ b.plan.C ∷ b.rate ∷ b.cycle ∷ b.gone ∷ b.unitblocks ∷ b.monthblocks ∷ [])
  head_low zero = omega (arith, f.counts.G_high)
  head_low (suc zero) = omega (arith, f.counts.C_high)
  head_low (suc (suc zero)) = omega (arith, f.counts.rate_high)
  head_low (suc (suc (suc zero))) = omega (arith, f.counts.cycle_high)
  head_low (suc (suc (suc (suc zero)))) = omega (arith, f.counts.gone_high, f.counts.cycle_high)
  head_low (suc (suc (suc (suc (suc zero))))) = omega (arith, f.counts.blocks_high)
  head_low (suc (suc (suc (suc (suc (suc zero)))))) = omega (arith, f.counts.month_high)
  head_low (suc (suc (suc (suc (suc (suc (suc i))))))) = omega arith

  switch_low : Below (most_figure + 1) (b.switch ∷ b.closings ∷ [])
  switch_low zero = omega (arith, f.switch.switch_high)
  switch_low (suc zero) = omega (arith, f.switch.closings_blocks, f.counts.blocks_high)
  switch_low (suc (suc i)) = omega arith

  bank_low : (k : ℕ) → Below (most_figure + 1) (table 8 (b.hours k).bank)
  bank_low k = below_table 8 (b.hours k).bank (λ g. omega (arith, class_bank b f k g, (f.gen g).equation, injected_most b f g))

  pending_low : (k : ℕ) → Below (most_figure + 1) (table 8 (b.hours k).pending)
  pending_low k = below_table 8 (b.hours k).pending (λ g. omega (arith, class_pending b f k g, (f.gen g).equation, injected_most b f g))

  open_low : (k : ℕ) → Below (most_figure + 1) (table 16 (b.hours k).outstanding)
  open_low k = below_table 16 (b.hours k).outstanding (λ c. omega (arith, class_open b f k c, (f.con c).equation, metered_most b f c))

  runs_low : AllBelow (most_figure + 1) (runs (stored b))
  unfolding runs stored stored_generators stored_consumers stored_stocks
  runs_low =
      also head_low
      (also (below_pairs 8 3 (agreed_of (stored b).agreed) agreed_low)
      (also (below_pairs 8 16 b.plan.link (λ g c. omega (arith, (f.pair g c).link)))
      (also (below_pairs 8 16 b.plan.loss (λ g c. omega (arith, (f.pair g c).loss)))
      (also (below_pairs 8 16 b.plan.kw (λ g c. omega (arith, kw_most b f g c)))
      (also (below_pairs 8 16 b.plan.rank (λ g c. omega (arith, (f.pair g c).rank)))
      (also (below_table 8 (λ g. (b.gen g).injected) (injected_most b f))
      (also (generator_low (λ x. x.unaccounted) (λ x. omega arith))
      (also (generator_low (λ x. x.lost) (λ x. omega arith))
      (also (generator_low (λ x. x.setoff) (λ x. omega arith))
      (also (generator_low (λ x. x.inadvertent) (λ x. omega arith))
      (also (generator_low (λ x. x.charge) (λ x. omega arith))
      (also (generator_low (λ x. x.drawn) (λ x. omega arith))
      (also (generator_low (λ x. x.lapsed) (λ x. omega arith))
      (also (generator_low (λ x. x.bank) (λ x. omega arith))
      (also (generator_low (λ x. x.pending) (λ x. omega arith))
      (also (below_table 16 (λ c. (b.con c).metered) (metered_most b f))
      (also (consumer_low (λ x. x.setoff) (λ x. omega arith))
      (also (consumer_low (λ x. x.shortfall) (λ x. omega arith))
      (also (consumer_low (λ x. x.drawn) (λ x. omega arith))
      (also (consumer_low (λ x. x.supplied) (λ x. omega arith))
      (also (consumer_low (λ x. x.outstanding) (λ x. omega arith))
      (also switch_low
      (also (bank_low 0) (also (pending_low 0) (also (open_low 0)
      (also (bank_low 1) (also (pending_low 1) (also (open_low 1)
      (also (bank_low 2) (also (pending_low 2) (also (open_low 2) none)))))))))))))))))))))))))))))))

  pub words_low : (i : ℕ) → get_or (words (stored b)) i 0 ≤ most_figure
  unfolding words
  words_low i = omega (arith, below_joined (omega arith) runs_low i)

  -- a stored record is read back from its bytes
  pub record_of_bytes : record_in (encode 8 (words (stored b))) ≡ stored b
  record_of_bytes =
      let low : Below (256 ^ 8) (words (stored b)) = λ i. omega (arith, words_low i) in
      let size : length (words (stored b)) ≡ record_numbers = length_words b in
      ap record_of (rw size at (decode_encode 8 (words (stored b)) low)) ∙ record_of_words b

-- a record of the right shape whose numbers have 64 bits is read back from its bytes
pub read_back : (r : Record) → Shape r → Below (256 ^ 8) (words r) → record_in (encode 8 (words r)) ≡ r
read_back r s low =
    let size : length (words r) ≡ record_numbers = rw (record_kept r s) at (length_words (figures r)) in
    let back : record_of (words r) ≡ r = rw (record_kept r s) at (record_of_words (figures r)) in
    ap record_of (rw size at (decode_encode 8 (words r) low)) ∙ back
