-- A list put into a slice at a place. Assumes nothing.
use Rattle.std.specs.Prelude.{ℕ, ◌≡◌, List, length}
use borrow.Rule.Slice.PartMut.{put_mid}

-- The slice, which was xs, has the k numbers of zs from place a on; what stands before and after them is as in xs.
pub record Put (a k : ℕ) (zs xs ys : List ℕ) : Type 0 where
  pub size : length zs ≡ k
  pub is : ys ≡ put_mid a k xs zs
