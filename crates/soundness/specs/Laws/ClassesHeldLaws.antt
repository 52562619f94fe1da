-- The test of the classes of hours in the record's bytes is that of its figures. Assumes nothing.
use Rattle.std.specs.Prelude.{ℕ, zero, suc, ◌+◌, ◌*◌, ◌<◌, ◌≡◌, refl, true, false, List, get_or}
use Rattle.std.proofs.Math.Path.{sym, ap, ap₂}
use Rattle.std.proofs.Common.{◌∙◌, arith}
use Rattle.std.proofs.Math.Bool.{Bool, ◌&&◌}
use Rattle.lists.specs.Sums.{sum}
use Rattle.lists.specs.Tests.{all}
use Rattle.lists.specs.Laws.TestsLaws.{and_assoc, all_same, all_plus}
use Rattle.lists.specs.Laws.PairsLaws.{place_in}
use Rattle.record.specs.Book.{by_hours}
use Rattle.record.specs.Hours.{hours_apply}
use Rattle.record.specs.Stored.{generator_at, consumer_at, figures}
use Rattle.record.specs.Sound.{switch_sound, classes_sound, bank_total, pending_total, open_total, generator_hours, consumer_hours}
use Rattle.record.specs.declared.Counts.{Counts}
use Rattle.record.specs.declared.Switch.{Switch}
use Rattle.sound_items.specs.Laws.SoundTests.{hours_test}
use Rattle.record_layout.specs.Laws.FigurePlaces as places
use Rattle.record_layout.specs.OnBytes.{record_in, book_in}
use Rattle.soundness.specs.Laws.ClassesHeld.{class_total, list_held, classes_held}
use Rattle.record_places.specs.RecordSize.{words_in}
use Rattle.record_places.specs.Laws.Places.{bank_at, pending_at, outstanding_at, switch_month_at, closings_at, off_peak_at, normal_at, peak_at}

-- two tests of each place
all_both : (n : ℕ) (p q : ℕ → Bool) → all n (λ i. p i && q i) ≡ all n p && all n q
unfolding all
all_both zero p q = refl
all_both (suc n) p q = rw (all_both n p q) (swap (all n p) (all n q) (p n) (q n))
  where
    swap : (a b c d : Bool) → (a && b) && (c && d) ≡ (a && c) && (b && d)
    swap false b c d = refl
    swap true true c d = refl
    swap true false true d = refl
    swap true false false d = refl

-- number j of each class, read at its place
pub class_held : (s : List ℕ) (hours : Bool) (j : ℕ) {whole x a b c : ℕ} → whole ≡ x →
    a ≡ get_or (words_in s) (off_peak_at + j) 0 → b ≡ get_or (words_in s) (normal_at + j) 0 → c ≡ get_or (words_in s) (peak_at + j) 0 →
    classes_sound hours whole (a + b + c) ≡ classes_sound hours x (class_total s j)
unfolding class_total
class_held s hours j e p q r = rw (e, p, q, r)

-- before the switch, where every sum has to be 0, in one go
pub none_held : (s : List ℕ) {b : Bool} → b ≡ all 32 (λ j. classes_sound false 0 (class_total s j)) → b ≡ classes_held false s
unfolding classes_held list_held classes_sound
none_held s e =
    let none : ℕ → Bool = λ j. classes_sound false 0 (class_total s j) in
    e ∙ all_plus 16 16 none ∙ ap (λ (t : Bool). t && all 16 (λ i. none (16 + i))) (all_plus 8 8 none ∙ ap (λ (t : Bool). t && all 8 (λ i. none (8 + i))) (all_same 8 none (λ i. none (0 + i)) (λ i l. ap none (omega arith))))

module _ (s : List ℕ) where
  abbrev at : ℕ → ℕ
  at k = get_or (words_in s) k 0

  -- what each class has at its number j, added up
  total : (f : ℕ → ℕ) (j : ℕ) → ((k : ℕ) → k < 3 → f k ≡ at (off_peak_at + k * 32 + j)) → sum 3 f ≡ class_total s j
  unfolding sum class_total
  total f j e = omega (arith, e 0 (omega arith), e 1 (omega arith), e 2 (omega arith))

  bank_total_lem : (g : ℕ) → g < 8 → bank_total (book_in s) g ≡ class_total s g
  unfolding bank_total figures
  bank_total_lem g h = total _ g (λ k l. places.class_bank_place (words_in s) k g l h)

  pending_total_lem : (g : ℕ) → g < 8 → pending_total (book_in s) g ≡ class_total s (8 + g)
  unfolding pending_total figures
  pending_total_lem g h = total _ (8 + g) (λ k l. places.class_pending_place (words_in s) k g l h ∙ ap at (omega arith))

  open_total_lem : (c : ℕ) → c < 16 → open_total (book_in s) c ≡ class_total s (16 + c)
  unfolding open_total figures
  open_total_lem c h = total _ (16 + c) (λ k l. places.class_open_place (words_in s) k c l h ∙ ap at (omega arith))

  bank_here : (g : ℕ) → g < 8 → ((book_in s).gen g).bank ≡ at (bank_at + g)
  unfolding figures generator_at
  bank_here g h = place_in 8 _ g h ∙ places.generator_bank_place (words_in s) g h ∙ ap at (omega arith)

  pending_here : (g : ℕ) → g < 8 → ((book_in s).gen g).pending ≡ at (pending_at + g)
  unfolding figures generator_at
  pending_here g h = place_in 8 _ g h ∙ places.generator_pending_place (words_in s) g h ∙ ap at (omega arith)

  open_here : (c : ℕ) → c < 16 → ((book_in s).con c).outstanding ≡ at (outstanding_at + c)
  unfolding figures consumer_at
  open_here c h = place_in 16 _ c h ∙ places.consumer_outstanding_place (words_in s) c h ∙ ap at (omega arith)

  generators_here : all 8 (generator_hours (book_in s)) ≡ list_held (by_hours (book_in s)) s bank_at 0 8 && list_held (by_hours (book_in s)) s pending_at 8 8
  unfolding generator_hours list_held
  generators_here =
      let h = by_hours (book_in s) in
      all_both 8 _ _ ∙
      ap₂ ◌&&◌
      (all_same 8 _ _ (λ g l. ap₂ (classes_sound h) (bank_here g l) (bank_total_lem g l ∙ ap (class_total s) (omega arith))))
      (all_same 8 _ _ (λ g l. ap₂ (classes_sound h) (pending_here g l) (pending_total_lem g l)))

  consumers_here : all 16 (consumer_hours (book_in s)) ≡ list_held (by_hours (book_in s)) s outstanding_at 16 16
  unfolding consumer_hours list_held
  consumers_here = all_same 16 _ _ (λ c l. ap₂ (classes_sound (by_hours (book_in s))) (open_here c l) (open_total_lem c l))

  -- the switch read at its place, whether it goes by hours, and the tests of the two
  pub hours_held : {switch : Switch} {counts : Counts} {hours a b : Bool} → counts ≡ (record_in s).counts →
      switch ≡ record { month = at switch_month_at; closings = at closings_at } → hours ≡ hours_apply switch.month switch.closings →
      a ≡ switch_sound hours switch.month switch.closings counts.gone counts.unitblocks counts.monthblocks → b ≡ classes_held hours s →
      (a && b) ≡ hours_test (book_in s)
  unfolding hours_test figures classes_held
  hours_held n w h p q =
      let f = book_in s in
      let switch : Bool = switch_sound (by_hours f) f.switch f.closings f.gone f.unitblocks f.monthblocks in
      rw (p, q, h, w ∙ sym (places.switch_places (words_in s)), n)
      (sym (and_assoc switch _ _) ∙ ap₂ (λ (x y : Bool). (switch && x) && y) (sym generators_here) (sym consumers_here))
