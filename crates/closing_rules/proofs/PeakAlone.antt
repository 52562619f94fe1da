-- Peak is served by peak energy alone: by its sources it settles as by the generators themselves. Assumes nothing.
use Rattle.std.specs.Prelude.{ℕ, ◌-◌, min, ◌≡◌, refl, Bool, true, false, List, [], ◌∷◌, eqb}
use Rattle.std.proofs.Common.{ap, ◌∙◌, arith, eq-eqb, ne_eqb, eqb-true}
use Rattle.std.proofs.Math.Path.{fun_ext}
use Rattle.std.proofs.lemmas.Bool.{eqb-false}
use Rattle.order_rules.specs.Settle.{Rest, lower, settle}
use Rattle.order_rules.specs.Laws.SettleLaws.{settle_twice}
use Rattle.record.specs.Hours.{peak}
use Rattle.closing_rules.specs.Closing.{source, sources_of}

-- what each generator has of peak
abbrev pub of_peak : (ℕ → ℕ) → ℕ → ℕ
of_peak has g = has (source g peak)

same_source : (h x : ℕ) → eqb (source h peak) (source x peak) ≡ eqb h x
same_source h x = go (eqb h x) refl
  where
    go : (t : Bool) → eqb h x ≡ t → eqb (source h peak) (source x peak) ≡ t
    go true e = eq-eqb (source h peak) (source x peak) (ap (λ (y : ℕ). source y peak) (eqb-true h x e))
    go false e = ne_eqb (source h peak) (source x peak) (λ q. eqb-false h x e (omega arith))

pub peak_lower : (has : ℕ → ℕ) (g x : ℕ) → of_peak (lower has (source g peak) x) ≡ lower (of_peak has) g x
unfolding lower
peak_lower has g x = fun_ext (λ h. rw (same_source h g))

-- what of peak is left, and what nobody gives
pub peak_alone : (gs : List ℕ) (has : ℕ → ℕ) (want : ℕ) →
    (of_peak (settle (sources_of peak gs) has want).has ≡ (settle gs (of_peak has) want).has) × ((settle (sources_of peak gs) has want).want ≡ (settle gs (of_peak has) want).want)
unfolding sources_of settle
peak_alone [] has want = (refl, refl)
peak_alone (g ∷ gs) has want =
    let s = source g peak in
    let x = min (has s) want in
    let once = settle_twice s (sources_of peak gs) has want in
    let rest = peak_alone gs (lower has s x) (want - x) in
    let low = peak_lower has g x in (
      ap (λ (r : Rest). of_peak r.has) once ∙ rest.0 ∙ ap (λ (h : ℕ → ℕ). (settle gs h (want - x)).has) low,
      ap (λ (r : Rest). r.want) once ∙ rest.1 ∙ ap (λ (h : ℕ → ℕ). (settle gs h (want - x)).want) low,
    )
