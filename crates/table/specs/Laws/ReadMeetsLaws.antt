-- What a caller of the reader may use: where its values stand, and what a refusal says. Assumes nothing.
use Rattle.std.specs.Prelude.{ℕ, ◌+◌, ◌*◌, ◌/◌, ◌%◌, ◌≤◌, ◌<◌, ◌≡◌, true, List, ◌++◌, length, take, drop, get_or, Result, Ok, Err}
use Rattle.std.proofs.Common.{sym, ap, ◌∙◌, div-add-mod', mul-le-mul_right, suc-mul, arith, eq-eqb, ne_eqb, length-append, length-drop, take-append-drop, get_or-take}
use Rattle.std.proofs.Math.Seq.{take-append_seam, drop-append_seam}
use Rattle.std.proofs.lemmas.List.{take-append-le, drop-append-le}
use Rattle.lists.specs.Laws.PairsLaws.{cell_index}
use Rattle.refusal.specs.declared.Refusal.{Refusal}
use Rattle.refusal.specs.Laws.NumbersLaws.{number_some, one_refusal}
use Rattle.table.specs.Table.{in_range, values, read_number, from_start, read_output, ReadMeets}
use Rattle.table.specs.Laws.TableAccepting.{accepted, IsTable, accepts_only}

-- What an answer of k lines says: the text is the table of k lines of g + c values, the values stand in the first k * (g + c)
-- places of the output, line by line, and the other places are left.
pub record LinesRead (g c k : ℕ) (text out last : List ℕ) : Type 0 where
  pub sizes_in_range : in_range g c ≡ true
  pub table : IsTable g c text (values g c text)
  pub count : length (values g c text) ≡ k * (g + c)
  pub room : k * (g + c) ≤ length out
  pub start : take (k * (g + c)) last ≡ values g c text
  pub rest : drop (k * (g + c)) last ≡ drop (k * (g + c)) out
  pub size : length last ≡ length out

output_zero : (g c : ℕ) (text out : List ℕ) → read_number g c text (length out) ≡ 0 → read_output g c text out ≡ values g c text ++ drop (length (values g c text)) out
unfolding read_output from_start
output_zero g c text out z = rw (eq-eqb (read_number g c text (length out)) 0 z)

whole : (n w : ℕ) → n % w ≡ 0 → n / w * w ≡ n
whole n w e = let d : n / w * w + n % w ≡ n = div-add-mod' n w in omega arith

part_before : (a n : ℕ) (xs ys : List ℕ) → a + n ≤ length xs → take n (drop a (xs ++ ys)) ≡ take n (drop a xs)
part_before a n xs ys h =
    rw (drop-append-le a xs ys (omega arith)) (take-append-le n (drop a xs) ys (omega (arith, length-drop a xs)))

laid_size : (vs out : List ℕ) → length vs ≤ length out → length (vs ++ drop (length vs) out) ≡ length out
laid_size vs out l = simp (length-append, length-drop) (omega arith)

pub lines_read : {g c k : ℕ} {text out last : List ℕ} → ReadMeets g c text out (Ok k) last → LinesRead g c k text out last
lines_read {g} {c} {k} {text} {out} {last} m =
    let z : read_number g c text (length out) ≡ 0 = sym m.number in
    let b = accepted g c text (length out) z in
    let t = accepts_only g c text (length out) z in
    let vs = values g c text in
    let q : k * (g + c) ≡ length vs = ap (λ (x : ℕ). x * (g + c)) m.lines ∙ whole (length vs) (g + c) t.whole in
    let o : last ≡ vs ++ drop (length vs) out = m.output ∙ output_zero g c text out z in
    record {
      sizes_in_range = b.sizes_in_range;
      table = t;
      count = sym q;
      room = omega (arith, b.room_enough);
      start = rw (q, o) (take-append_seam vs (drop (length vs) out));
      rest = rw (q, o) (drop-append_seam vs (drop (length vs) out));
      size = ap length o ∙ laid_size vs out b.room_enough;
    }

-- ---- line by line, as blocks are entered: line i is the values from place i * (g + c) on

module _ {g c k : ℕ} {text out last : List ℕ} (m : ReadMeets g c text out (Ok k) last) where
  -- line i lies within the output
  pub line_within : (i : ℕ) → i < k → i * (g + c) + (g + c) ≤ length last
  line_within i h = let r = lines_read m in omega (arith, r.room, r.size, mul-le-mul_right (g + c) h, suc-mul i (g + c))

  -- the value at place p of line i
  pub line_value : (i p : ℕ) → i < k → p < g + c → get_or last (i * (g + c) + p) 0 ≡ get_or (values g c text) (i * (g + c) + p) 0
  line_value i p h l =
      sym (get_or-take (k * (g + c)) last (i * (g + c) + p) 0 (cell_index k (g + c) i p h l))
      ∙ ap (λ (x : List ℕ). get_or x (i * (g + c) + p) 0) (lines_read m).start

  -- n values of line i from its place p on
  pub line_part : (i p n : ℕ) → i < k → p + n ≤ g + c → take n (drop (i * (g + c) + p) last) ≡ take n (drop (i * (g + c) + p) (values g c text))
  line_part i p n h l =
      let r = lines_read m in
      let e : i * (g + c) + p + n ≤ k * (g + c) = omega (arith, mul-le-mul_right (g + c) h, suc-mul i (g + c)) in
      ap (λ (x : List ℕ). take n (drop (i * (g + c) + p) x)) (sym (take-append-drop (k * (g + c)) last) ∙ ap (λ (x : List ℕ). x ++ drop (k * (g + c)) last) r.start)
      ∙ part_before (i * (g + c) + p) n (values g c text) (drop (k * (g + c)) last) (omega (arith, r.count))

-- ---- refusals

-- a refusal leaves the output unchanged
pub refusal : {g c : ℕ} {e : Refusal} {text out last : List ℕ} → ReadMeets g c text out (Err e) last → last ≡ out
unfolding read_output
refusal {g} {c} {e} {text} {out} {last} m =
    m.output ∙ rw (ne_eqb (read_number g c text (length out)) 0 (λ z. omega (arith, m.number, number_some e)))

-- ---- a call gives one answer and leaves one output

pub one_answer : {g c : ℕ} {text out last end : List ℕ} (r q : Result ℕ Refusal) → ReadMeets g c text out r last → ReadMeets g c text out q end → (r ≡ q) × (last ≡ end)
one_answer (Ok k) (Ok n) m l = (cc (m.lines, l.lines), cc (m.output, l.output))
one_answer (Ok k) (Err e) m l = absurd (omega (arith, m.number, l.number, number_some e))
one_answer (Err e) (Ok n) m l = absurd (omega (arith, m.number, l.number, number_some e))
one_answer (Err e) (Err f) m l = (ap Err (one_refusal e f (m.number ∙ sym l.number)), cc (m.output, l.output))
