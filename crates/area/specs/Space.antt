-- What `begin` takes of the available space, on one axis d; e is the other axis.
use Rattle.std.specs.Prelude.{ℕ, Bool, cond}
use Rattle.std.specs.Prelude.{Float}
use Rattle.numbers.specs.F32.{plus, minus, times}
use Rattle.numbers.specs.Scalar.{max_of, min_of, flag_of}
use Rattle.numbers.specs.declared.range.Rangef.{Rangef}
use Rattle.numbers.specs.declared.shape.Rect.{Rect}
use Rattle.area.specs.declared.fields.Frame.{Frame}
use Rattle.area.specs.declared.fields.Settings.{Settings}
use Rattle.area.specs.declared.prepared.AxisSpace.{AxisSpace}
use Rattle.area.specs.Pair.{num, flag}
use Rattle.numbers.specs.Range.{intersection_of}
use Rattle.numbers.specs.Shape.{along_of, from_x_y_ranges_of}
use Rattle.area.specs.Geometry.{shows_bar}

-- "show_bars.to_vec2().yx() * scroll_style.allocated_width()"
abbrev pub floating_bar_use : Float → Bool → Float
floating_bar_use allocated_width show_bar = times (flag_of show_bar) allocated_width

-- "show_bars_factor.yx() * scroll_style.allocated_width()"
abbrev pub solid_bar_use : Float → Float → Float
solid_bar_use allocated_width show_bar_factor = times show_bar_factor allocated_width

-- "let current_bar_use = if scroll_style.floating", of one bar
unfoldable pub bar_use_of : Bool → Float → Bool → Float → Float
bar_use_of floating allocated_width show_bar show_bar_factor =
    cond floating (floating_bar_use allocated_width show_bar) (solid_bar_use allocated_width show_bar_factor)

-- show_bars[e], where state.show_scroll[e] is was_shown
abbrev pub show_bars : Settings → Bool → ℕ → Bool
show_bars set was_shown e = shows_bar set.scroll_bar_visibility was_shown (flag set.direction_enabled e)

-- current_bar_use[d], the .yx(): what the bar of axis e takes
unfoldable pub current_bar_use_of : Frame → Bool → ℕ → Float
current_bar_use_of f was_shown e =
    bar_use_of f.style.floating f.style.allocated_width (show_bars f.settings was_shown e) (num f.host.bar_factors e)

-- a rectangle's min[d] and max[d]
unfoldable pub side_of : Rect → ℕ → Rangef
side_of r d = record { min = along_of r.min d; max = along_of r.max d }

-- "let outer_size = available_outer.size().at_most(max_size)"
abbrev pub outer_size : Rangef → Float → Float
outer_size available max_size = min_of (minus available.max available.min) max_size

-- "Don't go so far that we shrink to zero": "inner_size[d] = inner_size[d].max(min_scrolled_size[d])" if enabled
unfoldable pub inner_size_of : Bool → Float → Float → Float
inner_size_of direction_enabled size min_scrolled_size = cond direction_enabled (max_of size min_scrolled_size) size

-- "let inner_rect = Rect::from_min_size(available_outer.min, inner_size)"
abbrev pub inner_side : Rangef → Float → Rangef
inner_side available inner_size = record { min = available.min; max = plus available.min inner_size }

-- "Nice handling of forced resizing beyond the possible": "ui.clip_rect().max[d] - current_bar_use[d]"
abbrev pub clip_less_bar : Float → Rangef → Rangef
clip_less_bar bar_use clip = record { min = clip.min; max = minus clip.max bar_use }

-- content_clip_rect, "Clip the content, but only when we really need to"; "content_clip_rect = content_clip_rect.intersect(ui.clip_rect())"
unfoldable pub content_clip_of : Bool → Rangef → Float → Rangef → Rangef
content_clip_of direction_enabled inner bar_use clip =
    cond direction_enabled (intersection_of inner clip) (intersection_of (clip_less_bar bar_use clip) clip)

-- the space of one axis, by direction_enabled, max_size, min_scrolled_size, current_bar_use, available_outer and ui.clip_rect()
unfoldable pub space_by : Bool → Float → Float → Float → Rangef → Rangef → AxisSpace
space_by direction_enabled max_size min_scrolled_size bar_use available clip =
    let size = minus (outer_size available max_size) bar_use in
    let inner_size = inner_size_of direction_enabled size min_scrolled_size in
    let inner = inner_side available inner_size in
    record { bar_use = bar_use; inner_size = inner_size; inner = inner; clip = content_clip_of direction_enabled inner bar_use clip }

-- the space of axis d, where the other axis's bar was shown or not
unfoldable pub space_of : Frame → Bool → ℕ → ℕ → AxisSpace
space_of f was_shown d e =
    space_by
    (flag f.settings.direction_enabled d)
    (num f.settings.max_size d)
    (num f.settings.min_scrolled_size d)
    (current_bar_use_of f was_shown e)
    (side_of f.host.available d)
    (side_of f.host.clip d)

-- inner_rect, of both axes' spaces
unfoldable pub inner_rect : AxisSpace → AxisSpace → Rect
inner_rect x y = from_x_y_ranges_of x.inner y.inner
