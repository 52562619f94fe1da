-- The test of the classes of hours of the record that bytes hold. A class has 32 numbers: 8 of bank, 8 of pending, 16 of open. Assumes nothing.
use Rattle.std.specs.Prelude.{ℕ, ◌+◌, Bool, ◌&&◌, List, get_or}
use Rattle.lists.specs.Tests.{all}
use Rattle.record.specs.Sound.{classes_sound}
use Rattle.record_places.specs.RecordSize.{words_in}
use Rattle.record_places.specs.Laws.Places.{bank_at, pending_at, outstanding_at, off_peak_at, normal_at, peak_at}

-- number j of each class, added up
unfoldable pub class_total : List ℕ → ℕ → ℕ
class_total s j = get_or (words_in s) (off_peak_at + j) 0 + get_or (words_in s) (normal_at + j) 0 + get_or (words_in s) (peak_at + j) 0

-- the n numbers of the record from place `at` on, against those of the classes from number `first` on
unfoldable pub list_held : (hours : Bool) → List ℕ → (at first n : ℕ) → Bool
list_held hours s at first n = all n (λ i. classes_sound hours (get_or (words_in s) (at + i) 0) (class_total s (first + i)))

unfoldable pub classes_held : (hours : Bool) → List ℕ → Bool
classes_held hours s = list_held hours s bank_at 0 8 && list_held hours s pending_at 8 8 && list_held hours s outstanding_at 16 16
