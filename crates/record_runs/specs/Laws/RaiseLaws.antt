-- The laws by which the loops that raise or replace numbers of a record are proved. Assumes nothing.
use Rattle.std.specs.Prelude.{ℕ, ◌+◌, ◌*◌, ◌≤◌, ◌<◌, ◌≡◌, refl, List, length, ltb, get_or, set, if◌then◌else◌}
use Rattle.std.proofs.Common.{sym, ap, ◌∙◌, arith, mul-le-mul_right, suc-mul, lt-ltb, le-ltb, ⊎_elim, eq-or-lt_of_le}
use Rattle.lists.specs.Laws.SumsLaws.{sum_cap}
use Rattle.energy.specs.Limits.{most_figure}
use Rattle.output_lists.specs.Laws.Bounds.{Moderate}
use Rattle.record_layout.specs.Laws.NumbersRaised.{from, raised_none, raised_more, raised_same, raised_other}
use Rattle.record_layout.specs.Laws.NumbersReplaced.{replaced_none, replaced_more, replaced_same}
use Rattle.record_runs.specs.Laws.Raise.{row_sum, column_sum, Raised, RaisedBy, Raisable, Replaced, ReplacedBy}
use Rattle.record_places.specs.RecordSize.{record_numbers, words_in}

-- the rule f below i, and v from there on
abbrev with_next : (ℕ → ℕ) → ℕ → ℕ → ℕ → ℕ
with_next f i v j = if ltb j i then f j else v

module _ (f : ℕ → ℕ) (i v : ℕ) where
  next_before : (j : ℕ) → j < i → f j ≡ with_next f i v j
  next_before j l = rw (lt-ltb j i l) refl

  next_here : v ≡ with_next f i v i
  next_here = rw (le-ltb i i (omega arith)) refl

  next_given : (gives : ℕ → ℕ → Type 0) → ((j : ℕ) → j < i → gives j (f j)) → gives i v → (j : ℕ) → j < i + 1 → gives j (with_next f i v j)
  next_given gives g w j l =
      ⊎_elim (λ (p : j ≡ i). rw (p, ← next_here) w) (λ (b : j < i). rw (← (next_before j b)) (g j b)) (eq-or-lt_of_le (omega arith))

module _ {at f : ℕ → ℕ} {s : List ℕ} where
  pub none_raised : Raised at 0 f s s
  none_raised = record { size = refl; is = sym (raised_none at f (words_in s)) }

  pub one_more : {i v : ℕ} {t u : List ℕ} → Raised at i f s t → v ≡ f i → length u ≡ length t →
      words_in u ≡ set (words_in t) (at i) (get_or (words_in t) (at i) 0 + v) → Raised at (i + 1) f s u
  one_more {i} r w e d = record { size = e ∙ r.size; is = d ∙ rw (r.is, w) (sym (raised_more at f (words_in s) i)) }

  -- by a rule that gives the same
  pub raised_as : {n : ℕ} {t : List ℕ} (h : ℕ → ℕ) → Raised at n f s t → ((i : ℕ) → i < n → f i ≡ h i) → Raised at n h s t
  raised_as {n} h r e = record { size = r.size; is = r.is ∙ raised_same at f (words_in s) h n e }

  -- a number at no such place
  pub not_raised : {i : ℕ} {t : List ℕ} (k : ℕ) → Raised at i f s t → ((j : ℕ) → j < i → k ≡ at j → ⊥) → get_or (words_in t) k 0 ≡ get_or (words_in s) k 0
  not_raised {i} k r h = ap (λ (ws : List ℕ). get_or ws k 0) r.is ∙ raised_other at f (words_in s) i k h

module _ {gives : ℕ → ℕ → Type 0} {at : ℕ → ℕ} {s : List ℕ} where
  pub none_by : RaisedBy gives at 0 s s
  none_by = record { added = λ i. 0; given = λ i l. absurd (omega arith); is = none_raised }

  pub one_more_by : {i v : ℕ} {t u : List ℕ} → RaisedBy gives at i s t → gives i v → length u ≡ length t →
      words_in u ≡ set (words_in t) (at i) (get_or (words_in t) (at i) 0 + v) → RaisedBy gives at (i + 1) s u
  one_more_by {i} {v} {t} {u} r w e d =
      let f = r.added in
      record {
        added = with_next f i v;
        given = next_given f i v gives r.given w;
        is = one_more (raised_as (with_next f i v) r.is (next_before f i v)) (next_here f i v) e d;
      }

  -- where a call at i gives f i alone
  pub raised_by : {n : ℕ} {t : List ℕ} (f : ℕ → ℕ) → RaisedBy gives at n s t → ((i r : ℕ) → i < n → gives i r → r ≡ f i) → Raised at n f s t
  raised_by f r h = raised_as f r.is (λ i l. h i (r.added i) l (r.given i l))

-- of numbers in a row, the next is low still
pub next_low : {p n b i : ℕ} {f : ℕ → ℕ} {s t : List ℕ} → Raisable p n b s → Raised (from p) i f s t → get_or (words_in t) (p + i) 0 ≤ b
next_low {p} {i = i} h r = omega (arith, not_raised (p + i) r (λ j l e. omega arith), h.low.at (p + i) (omega arith))

-- numbers that start w places behind those that are raised
pub next_list : {p n b k : ℕ} {f : ℕ → ℕ} {s t : List ℕ} (w m : ℕ) → k ≤ w → p + w + m ≤ record_numbers → Raisable p n b s → Raised (from p) k f s t → Raisable (p + w) m b t
next_list w m l placed h r =
    record {
      size = r.size ∙ h.size;
      placed = placed;
      low = record { at = λ j o. omega (arith, not_raised j r (λ i a x. omega arith), h.low.at j (omega arith)) };
    }

-- fewer of them, with a looser bound
pub fewer : {p n b : ℕ} {s : List ℕ} (m c : ℕ) → m ≤ n → b ≤ c → Raisable p n b s → Raisable p m c s
fewer m c l up h = record { size = h.size; placed = omega (arith, h.placed); low = record { at = λ k o. omega (arith, h.low.at k o) } }

-- ---- rows and columns of a list of rows

pub row_cap : (m first g : ℕ) {xs : List ℕ} → Moderate xs → row_sum m xs first g ≤ m * most_figure
row_cap m first g {xs} h = sum_cap m most_figure (λ c. get_or xs (first + (g * m + c)) 0) (λ c l. h.at (first + (g * m + c)))

pub column_cap : (n m first c : ℕ) {xs : List ℕ} → Moderate xs → column_sum n m xs first c ≤ n * most_figure
column_cap n m first c {xs} h = sum_cap n most_figure (λ g. get_or xs (first + (g * m + c)) 0) (λ g l. h.at (first + (g * m + c)))

pub row_within : (n m g : ℕ) → g < n → g * m + m ≤ n * m
row_within n m g h = omega (arith, mul-le-mul_right m h, suc-mul g m)

-- ---- numbers replaced

module _ {at f : ℕ → ℕ} {s : List ℕ} where
  pub none_replaced : Replaced at 0 f s s
  none_replaced = record { size = refl; is = sym (replaced_none at f (words_in s)) }

  pub one_replaced : {i v : ℕ} {t u : List ℕ} → Replaced at i f s t → v ≡ f i → length u ≡ length t → words_in u ≡ set (words_in t) (at i) v → Replaced at (i + 1) f s u
  one_replaced {i} r w e d = record { size = e ∙ r.size; is = d ∙ rw (r.is, w) (sym (replaced_more at f (words_in s) i)) }

  -- by a rule that gives the same
  pub replaced_as : {n : ℕ} {t : List ℕ} (h : ℕ → ℕ) → Replaced at n f s t → ((i : ℕ) → i < n → f i ≡ h i) → Replaced at n h s t
  replaced_as {n} h r e = record { size = r.size; is = r.is ∙ replaced_same at f (words_in s) h n e }

module _ {gives : ℕ → ℕ → Type 0} {at : ℕ → ℕ} {s : List ℕ} where
  pub none_replaced_by : ReplacedBy gives at 0 s s
  none_replaced_by = record { put = λ i. 0; given = λ i l. absurd (omega arith); is = none_replaced }

  pub one_replaced_by : {i v : ℕ} {t u : List ℕ} → ReplacedBy gives at i s t → gives i v → length u ≡ length t → words_in u ≡ set (words_in t) (at i) v → ReplacedBy gives at (i + 1) s u
  one_replaced_by {i} {v} r w e d =
      let f = r.put in
      record {
        put = with_next f i v;
        given = next_given f i v gives r.given w;
        is = one_replaced (replaced_as (with_next f i v) r.is (next_before f i v)) (next_here f i v) e d;
      }

  -- where a call at i gives f i alone
  pub replaced_by : {n : ℕ} {t : List ℕ} (f : ℕ → ℕ) → ReplacedBy gives at n s t → ((i r : ℕ) → i < n → gives i r → r ≡ f i) → Replaced at n f s t
  replaced_by f r h = replaced_as f r.is (λ i l. h i (r.put i) l (r.given i l))
