-- The lists that the code fills from the rows of all generators are those of rules 1 to 4, each in its stretch. Assumes nothing.
use Rattle.std.specs.Prelude.{ℕ, ◌+◌, ◌-◌, ◌*◌, ◌≤◌, ◌<◌, ◌≡◌, List, length, get_or}
use Rattle.std.proofs.Common.{sym, ◌∙◌, zero-add, arith}
use Rattle.std.proofs.Math.Path.{ap}
use Rattle.lists.specs.Tables.{table}
use Rattle.lists.specs.Laws.TablesLaws.{get_or_table, length_table}
use Rattle.lists.specs.Pairs.{pairs}
use Rattle.lists.specs.Laws.PairsLaws.{get_or_pairs, cell_index}
use Rattle.output_lists.specs.Laws.ListPut.{Put}
use Rattle.output_lists.specs.Laws.StretchPlaces.{stretch_here, stretch_before, stretch_after, stretch_size}
use Rattle.energy.specs.Energy.{loss_on}
use Rattle.record.specs.Plan.{Plan}
use Rattle.block_rules.specs.Delivery.{unaccounted, part_of, loss_of, delivered, scheduled_at_exit, at_exit}
use Rattle.block_rules.specs.Laws.Deliverable.{Deliverable}
use Rattle.block_rules.specs.Laws.DeliveredIn.{DeliveredIn}
use Rattle.record_layout.specs.OnBytes.{plan_in}
use Rattle.block_delivery.specs.Laws.DeliveryLent.{entries_in, Ready}
use Rattle.block_delivery.specs.Laws.DeliveryRows.{figure, gap_at, Limited, Shared, Rows, Lessened}
use Rattle.block_delivery.specs.Laws.DeliveryRowLaws.{kw_high, exact, gap_is}

pub limited : {s entry : List ℕ} {n m : ℕ} → Ready s n m entry → Limited s m
limited {s} {entry} r =
    let d = r.deliverable in
    record { whole = r.whole; m_high = omega (arith, r.m_is, d.C_high); kw_high = kw_high (plan_in s) (entries_in s entry) d; loss_high = d.loss_high }

pub all_consumers : {s entry : List ℕ} {n m : ℕ} → Ready s n m entry → Ready s n (plan_in s).C entry
all_consumers r = rw r.m_is at r

pub rows : {p : Plan} {E : ℕ → ℕ} {n : ℕ} {parts : List (List ℕ)} → Shared p E n parts → Rows n parts
rows shared = record { size = shared.size; row_size = λ g k. ap length (shared.row_is g k) ∙ length_table 16 _ }

-- the output keeps its length
pub same_size : {p : Plan} {E : ℕ → ℕ} {n m k : ℕ} {out : List ℕ} → n ≡ p.G → m ≡ p.C → k ≡ 4 * (n * m) + n + m → DeliveredIn p E out → length out ≡ k
same_size a b l d = d.size ∙ sym (l ∙ (λ i. 4 * (a i * b i) + a i + b i))

module _ {p : Plan} {E : ℕ → ℕ} {n m : ℕ} (d : Deliverable p E) (G_is : n ≡ p.G) (C_is : m ≡ p.C) {parts : List (List ℕ)} (shared : Shared p E n parts) where
  part_of_lem : (g c : ℕ) → g < n → c < m → figure parts g c ≡ part_of p g (E g) c
  part_of_lem g c k l = ap (λ (row : List ℕ). get_or row c 0) (shared.row_is g k) ∙ get_or_table 16 (part_of p g (E g)) c 0 (omega (arith, d.C_high))

  abbrev loss_at_lem : ℕ → ℕ → ℕ
  loss_at_lem g c = loss_on (figure parts g c) (p.loss g c)

  loss_of_lem : (g c : ℕ) → g < n → c < m → loss_at_lem g c ≡ loss_of p g (E g) c
  unfolding loss_of
  loss_of_lem g c k l = ap (λ (x : ℕ). loss_on x (p.loss g c)) (part_of_lem g c k l)

  -- when rule 3 has taken the losses off
  module _ {after : List (List ℕ)} (less : Lessened p n m parts after) where
    delivered_of : (g c : ℕ) → g < n → c < m → figure after g c ≡ delivered p g (E g) c
    unfolding delivered
    delivered_of g c k l = less.at g c k l ∙ rw (loss_of_lem g c k l, part_of_lem g c k l)

    pub exact_here : (g c : ℕ) → g < n → c < m → p.kind g ≡ 0 → figure after g c ≤ scheduled_at_exit p g c
    exact_here g c k l z = omega (arith, delivered_of g c k l, exact p E d g c z)

    abbrev gap_here : ℕ → ℕ → ℕ
    gap_here g c = gap_at p g c (figure after g c)

    gap_of : (g c : ℕ) → g < n → c < m → gap_here g c ≡ at_exit p g (E g) c - delivered p g (E g) c
    gap_of g c k l = rw (delivered_of g c k l) (gap_is p g (E g) c)

    -- the four lists put into their stretches, one after the other
    module _ {o o₁ o₂ o₃ o₄ : List ℕ} (room : length o ≡ 4 * (n * m) + n + m)
        (unaccounted-put : Put (4 * (n * m)) n (table n (λ g. unaccounted p g (E g))) o o₁) (loss-put : Put 0 (n * m) (pairs n m loss_at_lem) o₁ o₂)
        (delivered-put : Put (2 * (n * m)) (n * m) (pairs n m (figure after)) o₂ o₃) (gap-put : Put (3 * (n * m)) (n * m) (pairs n m gap_here) o₃ o₄) where
      room₁ : length o₁ ≡ length o
      room₁ = stretch_size unaccounted-put (omega arith)

      room₂ : length o₂ ≡ length o
      room₂ = stretch_size loss-put (omega (arith, room₁)) ∙ room₁

      room₃ : length o₃ ≡ length o
      room₃ = stretch_size delivered-put (omega (arith, room₂)) ∙ room₂

      room₄ : length o₄ ≡ length o
      room₄ = stretch_size gap-put (omega (arith, room₃)) ∙ room₃

      before_gap : (i : ℕ) → i < 3 * (n * m) → get_or o₄ i 0 ≡ get_or o₃ i 0
      before_gap = stretch_before gap-put (omega (arith, room₃))

      at_delivered : (i : ℕ) → i < n * m → get_or o₃ (2 * (n * m) + i) 0 ≡ get_or (pairs n m (figure after)) i 0
      at_delivered = stretch_here delivered-put (omega (arith, room₂))

      pub delivered_in : DeliveredIn p E o₄
      delivered_in =
          record {
            size = room₄ ∙ room ∙ (λ i. 4 * (G_is i * C_is i) + G_is i + C_is i);
            loss_is = λ g c k l. sym (λ i. get_or o₄ (g * C_is i + c) 0) ∙ loss_stands g c (omega (arith, G_is)) (omega (arith, C_is));
            delivered_is = λ g c k l. sym (λ i. get_or o₄ (2 * (G_is i * C_is i) + (g * C_is i + c)) 0) ∙ delivered_stands g c (omega (arith, G_is)) (omega (arith, C_is));
            gap_is = λ g c k l. sym (λ i. get_or o₄ (3 * (G_is i * C_is i) + (g * C_is i + c)) 0) ∙ gap_stands g c (omega (arith, G_is)) (omega (arith, C_is));
            unaccounted_is = λ g k. sym (λ i. get_or o₄ (4 * (G_is i * C_is i) + g) 0) ∙ unaccounted_stands g (omega (arith, G_is));
          }
        where
          loss_stands : (g c : ℕ) → g < n → c < m → get_or o₄ (g * m + c) 0 ≡ loss_of p g (E g) c
          loss_stands g c k l =
              let i = cell_index n m g c k l in
              before_gap (g * m + c) (omega (arith, i)) ∙ stretch_before delivered-put (omega (arith, room₂)) (g * m + c) (omega (arith, i)) ∙
              (rw (zero-add (g * m + c)) at (stretch_here loss-put (omega (arith, room₁)) (g * m + c) i)) ∙ get_or_pairs n m loss_at_lem g c k l ∙ loss_of_lem g c k l

          delivered_stands : (g c : ℕ) → g < n → c < m → get_or o₄ (2 * (n * m) + (g * m + c)) 0 ≡ delivered p g (E g) c
          delivered_stands g c k l =
              let i = cell_index n m g c k l in
              before_gap (2 * (n * m) + (g * m + c)) (omega (arith, i)) ∙ at_delivered (g * m + c) i ∙ get_or_pairs n m (figure after) g c k l ∙ delivered_of g c k l

          gap_stands : (g c : ℕ) → g < n → c < m → get_or o₄ (3 * (n * m) + (g * m + c)) 0 ≡ at_exit p g (E g) c - delivered p g (E g) c
          gap_stands g c k l = stretch_here gap-put (omega (arith, room₃)) (g * m + c) (cell_index n m g c k l) ∙ get_or_pairs n m gap_here g c k l ∙ gap_of g c k l

          unaccounted_stands : (g : ℕ) → g < n → get_or o₄ (4 * (n * m) + g) 0 ≡ unaccounted p g (E g)
          unaccounted_stands g k =
              let i : ℕ = 4 * (n * m) + g in
              stretch_after gap-put (omega (arith, room₃)) i (omega arith) ∙ stretch_after delivered-put (omega (arith, room₂)) i (omega arith) ∙
              stretch_after loss-put (omega (arith, room₁)) i (omega arith) ∙ stretch_here unaccounted-put (omega arith) g k ∙
              get_or_table n (λ g. unaccounted p g (E g)) g 0 k
