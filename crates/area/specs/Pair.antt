-- "`Vec2` and `Vec2b` with `[d]`: two-element arrays", read by the axis d, 0 for x and 1 for y.
use Rattle.std.specs.Prelude.{ℕ, Bool, false, List, slice_index_or}
use Rattle.std.specs.Prelude.{Float}
use Rattle.std.specs.Float.{nan}

abbrev pub num : List Float → ℕ → Float
num v d = slice_index_or v d nan

abbrev pub flag : List Bool → ℕ → Bool
flag v d = slice_index_or v d false
