-- Laws of the first refusal that applies. Assumes nothing.
use Rattle.std.specs.Prelude.{ℕ, suc, ◌≡◌, refl, Bool, true, false, not, List, [], ◌∷◌, ◌⊎◌}
use Rattle.std.proofs.Common.{inl, inr, arith}
use Rattle.lists.specs.Refusals.{first_of}

pub first_head : (n : ℕ) (t : Bool) (rs : List (ℕ × Bool)) → first_of ((suc n, t) ∷ rs) ≡ 0 → t ≡ false
unfolding first_of
first_head n true rs e = absurd (omega arith)
first_head n false rs e = refl

pub first_tail : (n : ℕ) (t : Bool) (rs : List (ℕ × Bool)) → first_of ((suc n, t) ∷ rs) ≡ 0 → first_of rs ≡ 0
unfolding first_of
first_tail n true rs e = absurd (omega arith)
first_tail n false rs e = e

pub first_none : (n : ℕ) (t : Bool) (rs : List (ℕ × Bool)) → t ≡ false → first_of rs ≡ 0 → first_of ((n, t) ∷ rs) ≡ 0
unfolding first_of
first_none n t rs e h = rw e h

pub first_end : first_of [] ≡ 0
unfolding first_of
first_end = refl

-- the first test fails and gives its number, or what it asks for holds
pub first_or : (n : ℕ) (t : Bool) (rs : List (ℕ × Bool)) → (first_of ((n, not t) ∷ rs) ≡ n) ⊎ (t ≡ true)
unfolding first_of
first_or n true rs = inr refl
first_or n false rs = inl refl
