-- An accepted and a refused call on bytes, and the call on the record that a record's bytes hold. Assumes nothing.
use Rattle.std.specs.Prelude.{ℕ, List, ◌≡◌, refl, Bool, true, false, eqb}
use Rattle.std.proofs.Math.Path.{sym}
use Rattle.std.proofs.Common.{ap, ◌∙◌, subst, eqb-true, eq-eqb, ne_eqb}
use Rattle.std.proofs.lemmas.Bool.{eqb-false}
use Rattle.codec.specs.Bytes.{encode}
use Rattle.record.specs.RecordWords.{words}
use Rattle.record.specs.Stored.{figures, stored}
use Rattle.record.specs.Called.{Rule, number_on, record_after, Called}
use Rattle.record.specs.Laws.CalledLaws.{Keeps, accepted_keeps, record_accepted, record_refused, output_accepted, output_refused}
use Rattle.record.specs.declared.Record.{Record}
use Rattle.record_layout.specs.OnBytes.{record_in, bytes_after, CalledOn, book_in}
use Rattle.record_layout.specs.Laws.LayoutLaws.{record_of_bytes}

module _ (rule : Rule) (bytes lent : List ℕ) where
  pub on_accepted : {bytes' out : List ℕ} {n : ℕ} → n ≡ 0 → number_on rule (record_in bytes) ≡ 0 →
      bytes' ≡ encode 8 (words (stored (rule.after (book_in bytes)))) → out ≡ rule.output (book_in bytes) → CalledOn rule bytes lent n bytes' out
  unfolding bytes_after
  on_accepted q z e o =
      record { number_is = q ∙ sym z; record_is = rw (eq-eqb _ 0 q) e; output_is = o ∙ sym (output_accepted rule (record_in bytes) lent z) }

  pub on_refused : {n : ℕ} → n ≡ number_on rule (record_in bytes) → (n ≡ 0 → ⊥) → CalledOn rule bytes lent n bytes lent
  unfolding bytes_after
  on_refused {n} e z =
      record { number_is = e; record_is = rw (ne_eqb n 0 z); output_is = sym (output_refused rule (record_in bytes) lent (λ y. z (e ∙ y))) }

-- the call on a record, made on its bytes
pub on_struct : {rule : Rule} {bytes lent bytes' out : List ℕ} {n : ℕ} (r after : Record) → Keeps rule → record_in bytes ≡ r → after ≡ record_in bytes' →
    CalledOn rule bytes lent n bytes' out → Called rule r lent n after out
unfolding bytes_after
on_struct {rule} {bytes} {lent} {bytes'} {out} {n} r after keeps e loaded c =
    subst (λ (x : Record). Called rule x lent n after out) e
    (record { number_is = c.number_is; record_is = loaded ∙ go (eqb n 0) refl; output_is = c.output_is })
  where
    here : Record
    here = record_in bytes

    go : (t : Bool) → eqb n 0 ≡ t → record_in bytes' ≡ record_after rule here
    go true q =
        let z = sym c.number_is ∙ eqb-true n 0 q in
        let given = rw (eq-eqb n 0 (eqb-true n 0 q)) at c.record_is in
        ap record_in given ∙ record_of_bytes (rule.after (figures here)) (accepted_keeps rule here keeps z) ∙ sym (record_accepted rule here z)
    go false q =
        let no = eqb-false n 0 q in
        let same = rw (ne_eqb n 0 no) at c.record_is in
        ap record_in same ∙ sym (record_refused rule here (λ y. no (c.number_is ∙ y)))
