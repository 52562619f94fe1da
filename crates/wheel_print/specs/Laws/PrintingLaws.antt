-- Laws of prints. Assumes nothing.
use Rattle.std.specs.Prelude.{ℕ, ◌+◌, ◌-◌, ◌≡◌, List, ◌++◌, length, drop, get_or, replicate}
use Rattle.std.proofs.Common.{ap, ◌∙◌, arith, length-append, take_at, get_or-append-add}
use Rattle.std.proofs.lemmas.List.{drop-replicate}
use Rattle.lists.specs.Laws.TablesLaws.{zeros_at}
use Rattle.wheel_print.specs.Printing.{Shows}

-- a text over the start of zeros
pub shows_text : {text given zeros : List ℕ} {size : ℕ} → given ≡ text → length given ≡ size → zeros ≡ replicate 320 0
    → Shows (record { bytes = given ++ drop size zeros; size = size }) text
shows_text {text} {given} {zeros} {size} e n z =
    let behind : List ℕ = drop size zeros in
    record {
      fits = omega (arith, length-append given behind, n);
      is = take_at given behind size n ∙ e;
      rest = λ k l.
          let q : k ≡ length given + (k - size) = omega (arith, n) in
          ap (λ (i : ℕ). get_or (given ++ behind) i 0) q ∙ get_or-append-add given behind (k - size) 0 ∙ rw (z, drop-replicate {X = ℕ} size 320 0) (zeros_at (320 - size) (k - size));
    }
