-- What the steps of an accepted block ask, and that together they make up the call. Assumes nothing.
use Rattle.std.specs.Prelude.{ℕ, ◌+◌, ◌*◌, ◌≡◌, List}
use Rattle.std.proofs.Math.Path.{refl, sym, ap}
use Rattle.std.proofs.Common.{◌∙◌, arith}
use Rattle.std.proofs.Math.ListN.{length}
use Rattle.codec.specs.Bytes.{encode}
use Rattle.block_rules.specs.Laws.DeliveredIn.{DeliveredIn}
use Rattle.block_rules.specs.Settlement.{block_output}
use Rattle.block_rules.specs.Laws.OutputPlaces.{output_back}
use Rattle.record.specs.RecordWords.{words}
use Rattle.record.specs.Stored.{plan_of, figures, stored}
use Rattle.record.specs.Called.{number_on}
use Rattle.record.specs.declared.Terms.{Terms}
use Rattle.record.specs.declared.Counts.{Counts}
use Rattle.record_layout.specs.Laws.RecordHead.{HeadRead}
use Rattle.record_layout.specs.OnBytes.{record_in, CalledOn, plan_in, book_in}
use Rattle.record_layout.specs.Laws.OnBytesLaws.{on_accepted}
use Rattle.block_rules.specs.Block.{after_block, entry_of, exit_of, block_rule}
use Rattle.block_rules.proofs.BlockAccepted.{facts, enterable, generators_few, consumers_few, entry_size, exit_size, output_size, orderable_here, deliverable}
use Rattle.block_delivery.specs.Laws.DeliveryLent.{entries_in, Ready}
use Rattle.block_settlement.specs.Laws.SettlementLent.{exits_in, Ranked}
use Rattle.block_totals.specs.Laws.BlockTotals.{Settled}

module _ (s entry exit : List ℕ) (size : ℕ) {terms : Terms} {counts : Counts} (head : HeadRead s terms counts) (z : number_on (block_rule entry exit size) (record_in s) ≡ 0) where
  abbrev n : ℕ
  n = terms.generators

  abbrev m : ℕ
  m = terms.consumers

  n_is : n ≡ (plan_in s).G
  unfolding plan_of
  n_is = ap (λ (t : Terms). t.generators) head.terms_are

  m_is : m ≡ (plan_in s).C
  unfolding plan_of
  m_is = ap (λ (t : Terms). t.consumers) head.terms_are

  pub ready : Ready s n m entry
  unfolding entry_of figures
  ready =
      record {
        whole = head.whole;
        n_is = n_is;
        m_is = m_is;
        readings = entry_size _ entry exit size z ∙ sym n_is;
        deliverable = deliverable _ entry exit size z;
      }

  pub ranked : Ranked s n m
  ranked =
      record {
        whole = head.whole;
        n_is = n_is;
        m_is = m_is;
        n_high = omega (arith, n_is, generators_few _ entry exit size z);
        m_high = omega (arith, m_is, consumers_few _ entry exit size z);
        orderable = orderable_here _ entry exit size z;
      }

  pub exits : length exit ≡ m
  exits = exit_size _ entry exit size z ∙ sym m_is

  pub sized : size ≡ 4 * (n * m) + n + m
  sized = rw (n_is, m_is) (output_size _ entry exit size z)

  pub delivered_sized : {out : List ℕ} → DeliveredIn (plan_in s) (entries_in s entry) out → length out ≡ 4 * (n * m) + n + m
  delivered_sized d = rw (n_is, m_is) d.size

  pub settled : {out : List ℕ} → out ≡ block_output (plan_in s) (entries_in s entry) (exits_in s exit) → Settled s n m counts entry exit out
  unfolding entry_of exit_of figures
  settled {out} e =
      record {
        size = head.whole;
        generators = n_is;
        consumers = m_is;
        counts_are = head.counts_are;
        sound = facts _ entry exit size z;
        enterable = rw (ap length e ∙ (output_back (plan_in s) (entries_in s entry) (exits_in s exit)).size ∙ sym (output_size _ entry exit size z)) (enterable _ entry exit size z);
        output = e;
      }

-- ---- the call

module _ (s entry exit lent : List ℕ) where
  pub block_accepted : {s' out : List ℕ} → number_on (block_rule entry exit (length lent)) (record_in s) ≡ 0 →
      s' ≡ encode 8 (words (stored (after_block (book_in s) (entry_of entry exit (book_in s)) (exit_of entry exit (book_in s))))) →
      out ≡ block_output (plan_in s) (entries_in s entry) (exits_in s exit) → CalledOn (block_rule entry exit (length lent)) s lent 0 s' out
  unfolding block_rule entry_of exit_of figures
  block_accepted z e o = on_accepted _ s lent refl z e o
