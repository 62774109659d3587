-- What both halves of a frame ask of points, rectangles and options.
use Rattle.std.specs.Prelude.{Option, Some, None, is_some}
use Rattle.area.specs.declared.state.ScrollingToTarget.{ScrollingToTarget}
use Rattle.std.specs.Prelude.{Bool, false, cond}
use Rattle.std.specs.Prelude.{Float}
use Rattle.numbers.specs.Shape.{intersect_of, rect_contains_of}
use Rattle.numbers.specs.declared.shape.Pos2.{Pos2}
use Rattle.numbers.specs.declared.shape.Rect.{Rect}
use Rattle.area.specs.declared.fields.ScrollBarVisibility.{ScrollBarVisibility}

-- if test { a } else { b }
unfoldable pub pick_of : Bool → Float → Float → Float
pick_of test a b = cond test a b

-- show_bars, and show_scroll_this_frame
unfoldable pub shows_bar : ScrollBarVisibility → Bool → Bool → Bool
shows_bar ScrollBarVisibility.AlwaysHidden needed enabled = false
shows_bar ScrollBarVisibility.VisibleWhenNeeded needed enabled = needed
shows_bar ScrollBarVisibility.AlwaysVisible needed enabled = enabled

-- "A rectangle holds the pointer if its intersection with the clip does"
unfoldable pub rect_contains_pointer : Rect → Option Pos2 → Rect → Bool
rect_contains_pointer clip None rect = false
rect_contains_pointer clip (Some p) rect = rect_contains_of (intersect_of clip rect) p

-- interact_rect.is_some()
unfoldable pub is_rect_stored : Option Rect → Bool
is_rect_stored r = is_some r

-- offset_target[d].is_some()
unfoldable pub has_target : Option ScrollingToTarget → Bool
has_target t = is_some t
