-- Whether every number of a value is finite.
use Rattle.std.specs.Prelude.{Bool, true, false, ◌&&◌, List, [], ◌∷◌, Option, Some, None}
use Rattle.numbers.specs.Scalar.{is_finite}
use Rattle.numbers.specs.declared.shape.Pos2.{Pos2}
use Rattle.numbers.specs.declared.shape.Rect.{Rect}
use Rattle.numbers.specs.declared.range.Rangef.{Rangef}

-- an absent option holds no number
abbrev pub option_finite : {A : Type 0} → (A → Bool) → Option A → Bool
option_finite finite None = true
option_finite finite (Some a) = finite a

-- of a pair both
abbrev pub pair_finite : {A : Type 0} → (A → Bool) → List A → Bool
pair_finite finite [] = false
pair_finite finite (a ∷ []) = false
pair_finite finite (a ∷ b ∷ rest) = finite a && finite b

abbrev pub pos_finite : Pos2 → Bool
pos_finite p = is_finite p.x && is_finite p.y

abbrev pub rect_finite : Rect → Bool
rect_finite r = is_finite r.min.x && is_finite r.min.y && is_finite r.max.x && is_finite r.max.y

abbrev pub range_finite : Rangef → Bool
range_finite r = is_finite r.min && is_finite r.max
