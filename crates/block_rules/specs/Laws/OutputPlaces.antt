-- Where each list of a block's output stands in its slice, for n generators and m consumers. Assumes nothing.
use Rattle.std.specs.Prelude.{ℕ, ◌+◌, ◌*◌, ◌≤◌, ◌<◌, ◌≡◌, List, [], ◌∷◌, length, get_or, take, drop}
use Rattle.std.proofs.Common.{sym, ap, ◌∙◌, arith, zero-add, length-drop, get_or-take, get_or-drop, length-take-le}
use Rattle.lists.specs.Tables.{table}
use Rattle.lists.specs.Laws.TablesLaws.{length_table, get_or_table}
use Rattle.lists.specs.Pairs.{pairs, joined}
use Rattle.lists.specs.Laws.PairsLaws.{length_pairs, get_or_pairs, cell_index, length_joined, joined_here, joined_later, joined_none}
use Rattle.output_lists.specs.Laws.Stretches.{pairs_is, stretch_then, stretch_end}
use Rattle.record.specs.Plan.{Plan}
use Rattle.block_rules.specs.Delivery.{unaccounted, loss_of}
use Rattle.block_rules.specs.Settlement.{set_off, underdrawn, shortfall, remainder, block_lists, block_output}

-- four pair lists, then a list by generator and one by consumer
module _ (n m : ℕ) (loss setoff under short : ℕ → ℕ → ℕ) (missed left : ℕ → ℕ) where
  pub record Listed (out : List ℕ) : Type 0 where
    pub size : length out ≡ 4 * (n * m) + n + m
    pub loss_is : (g c : ℕ) → g < n → c < m → get_or out (g * m + c) 0 ≡ loss g c
    pub setoff_is : (g c : ℕ) → g < n → c < m → get_or out (n * m + (g * m + c)) 0 ≡ setoff g c
    pub under_is : (g c : ℕ) → g < n → c < m → get_or out (2 * (n * m) + (g * m + c)) 0 ≡ under g c
    pub short_is : (g c : ℕ) → g < n → c < m → get_or out (3 * (n * m) + (g * m + c)) 0 ≡ short g c
    pub missed_is : (g : ℕ) → g < n → get_or out (4 * (n * m) + g) 0 ≡ missed g
    pub left_is : (c : ℕ) → c < m → get_or out (4 * (n * m) + n + c) 0 ≡ left c

  abbrev six : List (List ℕ)
  six = pairs n m loss ∷ pairs n m setoff ∷ pairs n m under ∷ pairs n m short ∷ table n missed ∷ table m left ∷ []

  -- a stretch of n rows of m numbers, as a list of its own
  rows : (out : List ℕ) (f : ℕ → ℕ → ℕ) (o : ℕ) → o + n * m ≤ length out → ((g c : ℕ) → g < n → c < m → get_or out (o + (g * m + c)) 0 ≡ f g c) →
      (i : ℕ) → i < n * m → get_or out (o + i) 0 ≡ get_or (pairs n m f) i 0
  rows out f o b h i l =
      let part = take (n * m) (drop o out) in
      let size : length part ≡ n * m = length-take-le (n * m) (drop o out) (omega (arith, b, length-drop o out)) in
      let read : (k : ℕ) → k < n * m → get_or part k 0 ≡ get_or out (o + k) 0 = λ k q. get_or-take (n * m) (drop o out) k 0 q ∙ get_or-drop o out k 0 in
      let e : part ≡ pairs n m f = pairs_is n m f part size (λ g c p q. read (g * m + c) (cell_index n m g c p q) ∙ h g c p q) in
      sym (read i l) ∙ ap (λ (xs : List ℕ). get_or xs i 0) e

  pub listed_all : (out : List ℕ) → Listed out → out ≡ joined six
  listed_all out h =
      let s : ℕ = n * m in
      let e6 : drop (4 * s + n + m) out ≡ joined [] = stretch_end out (4 * s + n + m) h.size in
      let e5 : drop (4 * s + n) out ≡ joined (table m left ∷ []) =
      stretch_then out (table m left) [] (4 * s + n) m (length_table m left) (omega (arith, h.size)) (λ i l. h.left_is i l ∙ sym (get_or_table m left i 0 l)) e6 in
      let e4 : drop (4 * s) out ≡ joined (table n missed ∷ table m left ∷ []) =
      stretch_then out (table n missed) (table m left ∷ []) (4 * s) n (length_table n missed) (omega (arith, h.size)) (λ i l. h.missed_is i l ∙ sym (get_or_table n missed i 0 l)) e5 in
      let e3 = pair_list (3 * s) (4 * s) short (table n missed ∷ table m left ∷ []) (omega arith) (omega (arith, h.size)) h.short_is e4 in
      let e2 = pair_list (2 * s) (3 * s) under _ (omega arith) (omega (arith, h.size)) h.under_is e3 in
      let e1 = pair_list s (2 * s) setoff _ (omega arith) (omega (arith, h.size)) h.setoff_is e2 in
      pair_list 0 s loss _ (omega arith) (omega (arith, h.size)) (λ g c k l. rw zero-add (h.loss_is g c k l)) e1
    where
      pair_list : (o next : ℕ) (f : ℕ → ℕ → ℕ) (xss : List (List ℕ)) → o + n * m ≡ next → next ≤ length out →
          ((g c : ℕ) → g < n → c < m → get_or out (o + (g * m + c)) 0 ≡ f g c) → drop next out ≡ joined xss → drop o out ≡ joined (pairs n m f ∷ xss)
      pair_list o next f xss e b is rest =
          stretch_then out (pairs n m f) xss o (n * m) (length_pairs n m f) (omega (arith, e, b)) (rows out f o (omega (arith, e, b)) is) (ap (λ (i : ℕ). drop i out) e ∙ rest)

  -- and each of its lists is read back
  pub listed_back : Listed (joined six)
  listed_back =
      record {
        size = sized;
        loss_is = λ g c k l. here loss _ g c k l;
        setoff_is = λ g c k l. past_loss (g * m + c) ∙ here setoff _ g c k l;
        under_is = λ g c k l. past_setoff (g * m + c) ∙ here under _ g c k l;
        short_is = λ g c k l. past_under (g * m + c) ∙ here short _ g c k l;
        missed_is = λ g k. past_short g ∙ joined_here (table n missed) _ g (omega (arith, k, length_table n missed)) ∙ get_or_table n missed g 0 k;
        left_is = λ c l. past_missed c ∙ joined_here (table m left) _ c (omega (arith, l, length_table m left)) ∙ get_or_table m left c 0 l;
      }
    where
      here : (f : ℕ → ℕ → ℕ) (xss : List (List ℕ)) (g c : ℕ) → g < n → c < m → get_or (joined (pairs n m f ∷ xss)) (g * m + c) 0 ≡ f g c
      here f xss g c k l = joined_here (pairs n m f) xss (g * m + c) (omega (arith, length_pairs n m f, cell_index n m g c k l)) ∙ get_or_pairs n m f g c k l

      later : (f : ℕ → ℕ → ℕ) (xss : List (List ℕ)) (i : ℕ) → get_or (joined (pairs n m f ∷ xss)) (n * m + i) 0 ≡ get_or (joined xss) i 0
      later f xss i = joined_later (pairs n m f) xss (n * m) i (length_pairs n m f)

      past_loss : (i : ℕ) → get_or (joined six) (n * m + i) 0 ≡ get_or (joined (pairs n m setoff ∷ pairs n m under ∷ pairs n m short ∷ table n missed ∷ table m left ∷ [])) i 0
      past_loss i = later loss _ i

      past_setoff : (i : ℕ) → get_or (joined six) (2 * (n * m) + i) 0 ≡ get_or (joined (pairs n m under ∷ pairs n m short ∷ table n missed ∷ table m left ∷ [])) i 0
      past_setoff i = let e : 2 * (n * m) + i ≡ n * m + (n * m + i) = omega arith in ap (λ (k : ℕ). get_or (joined six) k 0) e ∙ past_loss (n * m + i) ∙ later setoff _ i

      past_under : (i : ℕ) → get_or (joined six) (3 * (n * m) + i) 0 ≡ get_or (joined (pairs n m short ∷ table n missed ∷ table m left ∷ [])) i 0
      past_under i = let e : 3 * (n * m) + i ≡ 2 * (n * m) + (n * m + i) = omega arith in ap (λ (k : ℕ). get_or (joined six) k 0) e ∙ past_setoff (n * m + i) ∙ later under _ i

      past_short : (i : ℕ) → get_or (joined six) (4 * (n * m) + i) 0 ≡ get_or (joined (table n missed ∷ table m left ∷ [])) i 0
      past_short i = let e : 4 * (n * m) + i ≡ 3 * (n * m) + (n * m + i) = omega arith in ap (λ (k : ℕ). get_or (joined six) k 0) e ∙ past_under (n * m + i) ∙ later short _ i

      past_missed : (i : ℕ) → get_or (joined six) (4 * (n * m) + n + i) 0 ≡ get_or (joined (table m left ∷ [])) i 0
      past_missed i =
          let e : 4 * (n * m) + n + i ≡ 4 * (n * m) + (n + i) = omega arith in
          ap (λ (k : ℕ). get_or (joined six) k 0) e ∙ past_short (n + i) ∙ joined_later (table n missed) (table m left ∷ []) n i (length_table n missed)

      sized : length (joined six) ≡ 4 * (n * m) + n + m
      sized =
          omega (
            arith,
            length_joined (pairs n m loss) (pairs n m setoff ∷ pairs n m under ∷ pairs n m short ∷ table n missed ∷ table m left ∷ []),
            length_joined (pairs n m setoff) (pairs n m under ∷ pairs n m short ∷ table n missed ∷ table m left ∷ []),
            length_joined (pairs n m under) (pairs n m short ∷ table n missed ∷ table m left ∷ []),
            length_joined (pairs n m short) (table n missed ∷ table m left ∷ []),
            length_joined (table n missed) (table m left ∷ []),
            length_joined (table m left) [],
            joined_none,
            length_pairs n m loss,
            length_pairs n m setoff,
            length_pairs n m under,
            length_pairs n m short,
            length_table n missed,
            length_table m left,
          )

-- ---- the output of rules 1 to 7

module _ (p : Plan) (E R : ℕ → ℕ) where
  abbrev pub Output : List ℕ → Type 0
  Output =
      Listed p.G p.C
      (λ g c. loss_of p g (E g) c)
      (λ g c. set_off p E c (R c) g)
      (λ g c. underdrawn p E c (R c) g)
      (λ g c. shortfall p E c (R c) g)
      (λ g. unaccounted p g (E g))
      (λ c. remainder p E c (R c))

  pub output_all : (out : List ℕ) → Output out → out ≡ block_output p E R
  unfolding block_output block_lists
  output_all out h = listed_all _ _ _ _ _ _ _ _ out h

  pub output_back : Output (block_output p E R)
  unfolding block_output block_lists
  output_back = listed_back _ _ _ _ _ _ _ _
