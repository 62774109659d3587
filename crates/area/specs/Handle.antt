-- The bar loop from show_factor to calculate_handle_rect: where one axis's bar stands and where its handle is on it.
use Rattle.std.specs.Prelude.{Option, Some, None}
use Rattle.std.specs.Prelude.{ℕ, Bool, cond, ◌&&◌, ◌==◌}
use Rattle.std.specs.Prelude.{Float}
use Rattle.std.specs.Float.Ieee.{lt, le}
use Rattle.numbers.specs.F32.{plus, minus, times, zero}
use Rattle.numbers.specs.Scalar.{max_of}
use Rattle.numbers.specs.Blend.{lerp_of, remap_clamp_of}
use Rattle.numbers.specs.declared.range.Rangef.{Rangef}
use Rattle.numbers.specs.declared.shape.Rect.{Rect}
use Rattle.area.specs.Pair.{num}
use Rattle.numbers.specs.Shape.{along_of}
use Rattle.area.specs.Geometry.{pick_of}
use Rattle.area.specs.declared.fields.Frame.{Frame}
use Rattle.area.specs.declared.fields.Style.{Style}
use Rattle.area.specs.declared.handle.BarSpace.{BarSpace}
use Rattle.area.specs.declared.handle.Track.{Track}

-- show_bars_factor[d], after "Avoid frame delay; start showing scroll bar right away"
unfoldable pub show_factor_of : Bool → Float → Float → Float
show_factor_of show_scroll bar_factor opening_factor = pick_of (show_scroll && le bar_factor zero) opening_factor bar_factor

-- max_cross, after "Move the scrollbar so it is visible"
unfoldable pub max_cross_of : Float → Float → Float → Float
max_cross_of outer_max clip_max outer_margin =
    let max_cross = minus outer_max outer_margin in
    let clipped = minus clip_max outer_margin in
    cond (lt clipped max_cross) clipped max_cross

-- Rangef::new(max_cross - width, max_cross), where width = show_factor * lerp(floating_width..=full_width, is_hovering_bar_area_t)
abbrev pub floating_cross : Style → Float → Float → Float → Rangef
floating_cross style show_factor hover_factor max_cross = record {
  min = minus max_cross (times show_factor (lerp_of style.floating_width style.bar_width hover_factor));
  max = max_cross;
}

-- Rangef::new(inner_rect.max[1 - d] + inner_margin, max_cross)
abbrev pub solid_cross : Style → Float → Float → Float → Rangef
solid_cross style show_factor max_cross inner_max = record { min = plus inner_max (times show_factor style.bar_inner_margin); max = max_cross }

-- cross
unfoldable pub cross_of : Style → Float → Float → Float → Float → Rangef
cross_of style show_factor hover_factor max_cross inner_max =
    cond style.floating (floating_cross style show_factor hover_factor max_cross) (solid_cross style show_factor max_cross inner_max)

-- of scroll_bar_rect.unwrap_or(inner_rect): min[d]..=max[d]
unfoldable pub bar_range_of : Option Rect → Rangef → ℕ → Rangef
bar_range_of None inner d = inner
bar_range_of (Some rect) inner d = record { min = along_of rect.min d; max = along_of rect.max d }

-- what from_content and calculate_handle_rect hold of the lines above them; e is 1 - d
unfoldable pub track_of : Frame → ℕ → ℕ → BarSpace → Float → Track
track_of f d e space show_factor =
    let outer_margin = times show_factor f.style.bar_outer_margin in
    let max_cross = max_cross_of space.cross_outer_max (along_of f.host.clip.max e) outer_margin in
    record {
      bar = bar_range_of f.settings.scroll_bar_rect space.inner d;
      cross = cross_of f.style show_factor (num f.host.hover_factors d) max_cross space.cross_inner_max;
      content_size = space.content_size;
      inner_size = space.inner_size;
      max_offset = space.max_offset;
      handle_min_length = f.style.handle_min_length;
    }

-- from_content
unfoldable pub from_content : Track → Float → Float
from_content t content = remap_clamp_of content zero t.content_size t.bar.min t.bar.max

-- handle_size
unfoldable pub handle_size_of : Track → Float → Float
handle_size_of t offset = max_of (minus (from_content t (plus offset t.inner_size)) (from_content t offset)) t.handle_min_length

-- of calculate_handle_rect: handle_start_point, handle_start_point + handle_size
unfoldable pub handle_of : Track → Float → Rangef
handle_of t offset =
    let handle_size = handle_size_of t offset in
    let handle_start_point = remap_clamp_of offset zero t.max_offset t.bar.min (minus t.bar.max handle_size) in
    record { min = handle_start_point; max = plus handle_start_point handle_size }

-- if d == 0: Rect::from_min_max(pos2(handle_start_point, cross.min), ..)
abbrev pub along_x : Rangef → Rangef → Rect
along_x handle cross = record { min = record { x = handle.min; y = cross.min }; max = record { x = handle.max; y = cross.max } }

-- else: Rect::from_min_max(pos2(cross.min, handle_start_point), ..)
abbrev pub along_y : Rangef → Rangef → Rect
along_y handle cross = record { min = record { x = cross.min; y = handle.min }; max = record { x = cross.max; y = handle.max } }

-- calculate_handle_rect, in both dimensions
unfoldable pub handle_rect_of : Rangef → Rangef → ℕ → Rect
handle_rect_of handle cross d = cond (d == 0) (along_x handle cross) (along_y handle cross)
