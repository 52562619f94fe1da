-- An opening on bytes that is refused, and the opening by value that follows from the opening on bytes. Assumes nothing.
use Rattle.std.specs.Prelude.{ℕ, List, ◌≡◌}
use Rattle.std.proofs.Common.{sym, ap, ◌∙◌, eq-eqb, ne_eqb}
use Rattle.record.specs.declared.Record.{Record}
use Rattle.record_layout.specs.OnBytes.{bytes_after, record_in}
use Rattle.record_layout.specs.Laws.LayoutLaws.{record_of_bytes}
use Rattle.agreement_rules.specs.Opening.{Opening, opening_refusal, opened, Opened}
use Rattle.agreement_rules.specs.Laws.OpeningLaws.{accepted_permitted, opened_facts}
use Rattle.agreement_rules.specs.Laws.AgreedPartsLaws.{opening_accepted}
use Rattle.agreement_rules.specs.OpenedOn.{OpenedOn}

-- a refused opening leaves the bytes
pub opened_refused : {o : Opening} {bytes : List ℕ} {n : ℕ} → n ≡ opening_refusal o → (n ≡ 0 → ⊥) → OpenedOn o bytes n bytes
unfolding bytes_after
opened_refused {n = n} e z = record { number_is = e; record_is = rw (ne_eqb n 0 z) }

-- the record of an accepted opening, read back from the bytes
pub opened_back : {o : Opening} {bytes bytes' : List ℕ} {n : ℕ} {r : Record} → OpenedOn o bytes n bytes' → n ≡ 0 → r ≡ record_in bytes' → Opened o 0 r
unfolding bytes_after
opened_back {o} {n = n} h z e =
    let accepted : opening_refusal o ≡ 0 = sym h.number_is ∙ z in
    let given = rw (eq-eqb n 0 z) at h.record_is in
    let back = record_of_bytes (opened o) (opened_facts o (accepted_permitted o accepted)) in
    opening_accepted accepted (e ∙ ap (λ (b : List ℕ). record_in b) given ∙ back)
