-- Laws of cut sums. Assumes nothing.
use Rattle.std.specs.Prelude.{◌≡◌, ℕ, ◌+◌, ◌*◌, ◌<◌, ◌≤◌, Bool, true, false, ◌&&◌, ◌==◌, nat_le, nat_lt, refl}
use Rattle.std.proofs.Common.{subst, add-one, arith, leb-true, leb-false, le-leb, eqb-true, eq-eqb, ne_eqb, lt-ltb, le-ltb, ltb-true, ltb-false}
use Rattle.std.proofs.lemmas.Bool.{lt-leb, eqb-false}
use Rattle.lists.specs.Sums.{sum}
use Rattle.energy.specs.Limits.{last_kind, most_capacity, most_reading, most_unit_blocks}
use Rattle.record.specs.Plan.{lower_capacity}
use Rattle.record.specs.Sound.{limit, agreed_sound}
use Rattle.record.specs.Laws.SoundLaws.{limit_le}
use Rattle.sound_items.specs.Laws.Capped.{cap, AsFar, Cut, Clipped}

pub cut_same : {s : ℕ} → Cut s s
unfolding AsFar
cut_same = record { is = refl }

pub cut_add : {s t x y : ℕ} → Cut s t → Cut x y → Cut (s + x) (t + y)
unfolding AsFar
cut_add {s} {t} {x} {y} h k = record { is = omega (arith, h.is, k.is) }

-- a cut sum compares as the whole one with a number below the cap
pub cut_eqb : {s t : ℕ} (i : ℕ) → i < cap → Cut s t → (i == s) ≡ (i == t)
unfolding AsFar
cut_eqb {s} {t} i l h = go (i == t) refl
  where
    go : (b : Bool) → (i == t) ≡ b → (i == s) ≡ b
    go true e = eq-eqb i s (omega (arith, h.is, eqb-true i t e))
    go false e = ne_eqb i s (λ (q : i ≡ s). eqb-false i t e (omega (arith, h.is)))

pub cut_leb : {s t : ℕ} (i : ℕ) → i < cap → Cut s t → nat_le s i ≡ nat_le t i
unfolding AsFar
cut_leb {s} {t} i l h = go (nat_le t i) refl
  where
    go : (b : Bool) → nat_le t i ≡ b → nat_le s i ≡ b
    go true e = le-leb s i (omega (arith, h.is, leb-true t i e))
    go false e = lt-leb s i (omega (arith, h.is, leb-false t i e))

pub cut_ltb : {s t : ℕ} (i : ℕ) → i < cap → Cut s t → nat_lt i s ≡ nat_lt i t
unfolding AsFar
cut_ltb {s} {t} i l h = go (nat_lt i t) refl
  where
    go : (b : Bool) → nat_lt i t ≡ b → nat_lt i s ≡ b
    go true e = lt-ltb i s (omega (arith, h.is, ltb-true i t e))
    go false e = le-ltb i s (omega (arith, h.is, ltb-false i t e))

pub clip_low : {x : ℕ} → x < cap → Clipped x x
clip_low {x} l = record { cut = cut_same; small = omega arith }

pub clip_high : {x : ℕ} → cap ≤ x → Clipped x cap
unfolding AsFar
clip_high {x} l = record { cut = record { is = omega arith }; small = omega arith }

-- the capped terms of a sum are added one by one
pub clip_add : {s t x y : ℕ} → Cut s t → Clipped y x → Cut (s + x) (t + y)
clip_add h k = cut_add h k.cut

-- the test of an equation whose terms were capped; most is the limit of its left side, as the code has it
pub capped_equation : {s t most : ℕ} (inside : Bool) (blocks i : ℕ) → most ≡ limit inside (most_reading * blocks) → blocks ≤ most_unit_blocks → Cut s t → (nat_le i most && i == s) ≡ (nat_le i (limit inside (most_reading * blocks)) && i == t)
capped_equation {s} {t} {most} inside blocks i e l h = rw e (go (nat_le i (limit inside (most_reading * blocks))) refl)
  where
    go : (b : Bool) → nat_le i (limit inside (most_reading * blocks)) ≡ b → (b && i == s) ≡ (b && i == t)
    go true q =
        cut_eqb i (omega (arith, leb-true i (limit inside (most_reading * blocks)) q, limit_le inside (most_reading * blocks))) h
    go false q = refl

-- the test of the capacities with a capped sum of kW
pub capped_total : {s t : ℕ} (inside : Bool) (k i n : ℕ) → Cut s t → agreed_sound inside k i n s ≡ agreed_sound inside k i n t
unfolding agreed_sound
capped_total {s} {t} inside k i n h = go (nat_le k (limit inside last_kind)) (nat_le i (limit inside most_capacity)) (nat_le n (limit inside most_capacity)) refl
  where
    go : (a b d : Bool) → nat_le i (limit inside most_capacity) ≡ b → (a && b && d && nat_le s (lower_capacity i n)) ≡ (a && b && d && nat_le t (lower_capacity i n))
    go true true true e = cut_leb (lower_capacity i n) (omega (arith, leb-true i (limit inside most_capacity) e, limit_le inside most_capacity)) h
    go false b d e = refl
    go true false d e = refl
    go true true false e = refl

-- The invariant of a loop that adds up the first k places, each capped: i places are passed, s is the sum so far.
pub record Adding (k : ℕ) (f : ℕ → ℕ) (i s : ℕ) : Type 0 where
  pub within : i ≤ k
  pub cut : Cut s (sum i f)
  pub small : s ≤ cap * i

pub add_start : {k : ℕ} {f : ℕ → ℕ} → Adding k f 0 0
unfolding sum
add_start {k} {f} = record { within = omega arith; cut = cut_same; small = omega arith }

pub add_step : {k : ℕ} {f : ℕ → ℕ} {i s v x : ℕ} → Adding k f i s → i < k → f i ≡ v → Clipped v x → Adding k f (i + 1) (s + x)
unfolding sum
add_step {k} {f} {i} {s} {v} {x} h l e w =
    record { within = omega arith; cut = rw (add-one, e) (clip_add h.cut w); small = omega (arith, h.small, w.small) }

pub add_done : {k : ℕ} {f : ℕ → ℕ} {i s : ℕ} → Adding k f i s → k ≤ i → Cut s (sum k f)
add_done {k} {f} {i} {s} h l = let q : i ≡ k = omega (arith, h.within) in subst (λ (m : ℕ). Cut s (sum m f)) q h.cut
