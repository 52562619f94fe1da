-- What a settlement leaves to each of n generators, where the rule f says what they have. Assumes nothing.
use Rattle.std.specs.Prelude.{ℕ, ◌<◌, ◌≡◌, refl, List}
use Rattle.std.proofs.Common.{arith}
use Rattle.order_rules.specs.Laws.Members.{Below}
use Rattle.order_rules.specs.Settle.{given, kept, unmet}
use Rattle.order_rules.specs.Laws.SettleLaws.{settle_same}

-- by the rule f and by what the code has, the same is given, kept and unmet
pub record SettlesAs (n : ℕ) (gs : List ℕ) (has f : ℕ → ℕ) (want : ℕ) : Type 0 where
  pub given_is : (g : ℕ) → g < n → given gs has want g ≡ given gs f want g
  pub kept_is : (g : ℕ) → g < n → kept gs has want g ≡ kept gs f want g
  pub unmet_is : unmet gs has want ≡ unmet gs f want

pub settles_as : {n : ℕ} {gs : List ℕ} (has f : ℕ → ℕ) (want : ℕ) → Below n gs → ((g : ℕ) → g < n → has g ≡ f g) → SettlesAs n gs has f want
unfolding given kept unmet
settles_as {n} {gs} has f want b same =
    let s = settle_same n gs has f want want b same refl in
    record { given_is = λ g l. omega (arith, same g l, s.1 g l); kept_is = s.1; unmet_is = s.0 }
