-- Prepared::end, "inner size by direction and shrink, too-large flags", on one axis, and max_offset.
use Rattle.std.specs.Prelude.{ℕ, Bool, cond, ◌&&◌}
use Rattle.std.specs.Prelude.{Float}
use Rattle.std.specs.Float.Ieee.{lt}
use Rattle.numbers.specs.F32.{plus, minus}
use Rattle.numbers.specs.Scalar.{max_of, min_of}
use Rattle.numbers.specs.Convert.{ceil_of}
use Rattle.area.specs.Pair.{num, flag}
use Rattle.area.specs.Geometry.{pick_of}
use Rattle.area.specs.declared.fields.Frame.{Frame}
use Rattle.area.specs.declared.prepared.AxisSpace.{AxisSpace}
use Rattle.area.specs.declared.extent.AxisExtent.{AxisExtent}

-- "match (direction_enabled[d], auto_shrink[d])"
unfoldable pub inner_size_of : Bool → Bool → Float → Float → Float
inner_size_of direction_enabled auto_shrink inner_size content_size =
    cond direction_enabled
    (cond auto_shrink (min_of inner_size content_size) inner_size)
    (cond auto_shrink content_size (max_of inner_size content_size))

-- "let inner_rect", "let outer_rect", "let limit_rect", "let content_is_too_large", "let max_offset"; each size is the rectangle's, rounded again
unfoldable pub extent_by : Bool → Bool → Bool → AxisSpace → Float → AxisExtent
extent_by direction_enabled auto_shrink floating space content_size =
    let min = space.inner.min in
    let inner_size = inner_size_of direction_enabled auto_shrink (minus space.inner.max min) content_size in
    let max = plus min inner_size in
    let size = minus max min in
    let outer_max = plus min (plus size space.bar_use) in
    let limit = pick_of floating (minus outer_max min) size in
    record {
      content_size = content_size;
      inner = record { min = min; max = max };
      size = size;
      outer = record { min = min; max = outer_max };
      max_offset = minus content_size size;
      content_is_too_large = direction_enabled && lt (ceil_of limit) content_size;
    }

-- the extent of axis d
unfoldable pub extent_of : Frame → ℕ → AxisSpace → AxisExtent
extent_of f d space =
    extent_by (flag f.settings.direction_enabled d) (flag f.settings.auto_shrink d) f.style.floating space (num f.content.size d)
