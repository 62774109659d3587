-- ScrollArea::begin, as far as document 01 keeps it, under the table that its steps use.
use Rattle.std.specs.Prelude.{Option, Some, None}
use Rattle.std.specs.Prelude.{◌≡◌, ℕ, Bool, true, false, ◌&&◌, ◌||◌, [], ◌∷◌}
use Rattle.std.specs.Prelude.{refl, Float}
use Rattle.std.specs.Float.{binary32}
use Rattle.std.specs.Float.Ieee.{of_bits, round}
use Rattle.numbers.specs.Table.{Table}
use Rattle.numbers.specs.F32.{plus, zero}
use Rattle.numbers.specs.Scalar.{min_of}
use Rattle.numbers.specs.Shape.{from_min_size_of}
use Rattle.numbers.specs.declared.shape.Pos2.{Pos2}
use Rattle.numbers.specs.declared.shape.Rect.{Rect}
use Rattle.axis.specs.declared.physics.AxisPhysics.{AxisPhysics}
use Rattle.axis.specs.declared.wheel.WheelSource.{WheelSource}
use Rattle.area.specs.declared.fields.DragScroll.{DragScroll}
use Rattle.area.specs.declared.fields.Host.{Host}
use Rattle.area.specs.declared.fields.Frame.{Frame}
use Rattle.area.specs.declared.state.State.{State}
use Rattle.area.specs.declared.prepared.AxisSpace.{AxisSpace}
use Rattle.area.specs.declared.prepared.AxisMotion.{AxisMotion}
use Rattle.area.specs.declared.prepared.AxisBefore.{AxisBefore}
use Rattle.area.specs.declared.prepared.AxisBegun.{AxisBegun}
use Rattle.area.specs.declared.prepared.Prepared.{Prepared}
use Rattle.area.specs.declared.drive.AxisInput.{AxisInput}
use Rattle.area.specs.Pair.{num, flag}
use Rattle.area.specs.Geometry.{rect_contains_pointer, is_rect_stored}
use Rattle.area.specs.AxisPhysics.{physics_of}
use Rattle.area.specs.Space.{space_of, inner_rect}
use Rattle.area.specs.Drive.{opened_of, before_of, driven_of}
use Rattle.area.specs.Follow.{followed_of}

-- 0.1
abbrev pub tenth : Float
tenth = of_bits binary32 0x3dcc_cccd

-- the pattern is that of the number nearest to 0.1
tenth_is : tenth ≡ round binary32 false 1 10
unfolding of_bits round
tenth_is = refl

-- "dt is the smaller of `stable_dt` and 0.1": "ui.input(|i| i.stable_dt).at_most(0.1)"
unfoldable pub dt_of : Float → Float
dt_of stable_dt = min_of stable_dt tenth

-- DragScroll::enabled
unfoldable pub drag_enabled : DragScroll → Bool → Bool
drag_enabled DragScroll.Never touch = false
drag_enabled DragScroll.OnTouch touch = touch
drag_enabled DragScroll.Always touch = true

-- "state.content_is_too_large.any()"
abbrev pub is_any_too_large : State → Bool
is_any_too_large s = flag s.content_is_too_large 0 || flag s.content_is_too_large 1

-- "The background drag counts only if drag is enabled, the ui is enabled, some content is too large and `interact_rect` is stored."
unfoldable pub has_background_drag : Frame → State → Bool
has_background_drag f s =
    drag_enabled f.settings.drag f.host.touch
    && f.host.enabled
    && is_any_too_large s
    && is_rect_stored s.interact_rect

-- "i.scroll_source()) == Some(MouseWheelSource::Trackpad)"
unfoldable pub fingers_on_trackpad : Option WheelSource → Bool
fingers_on_trackpad None = false
fingers_on_trackpad (Some WheelSource.Unknown) = false
fingers_on_trackpad (Some WheelSource.Wheel) = false
fingers_on_trackpad (Some WheelSource.Trackpad) = true
fingers_on_trackpad (Some WheelSource.Momentum) = false

-- "let hold_overscroll = fingers_on_trackpad && ui.rect_contains_pointer(inner_rect)"
unfoldable pub hold_overscroll : Host → Rect → Bool
hold_overscroll host inner = fingers_on_trackpad host.source && rect_contains_pointer host.clip host.pointer inner

-- what drag and step read on axis d: "background_drag_response.as_ref().is_some_and(|response| response.dragged())", and so on
unfoldable pub input_of : Frame → ℕ → Bool → Bool → AxisInput
input_of f d background_drag hold = record {
  direction_enabled = flag f.settings.direction_enabled d;
  dragged = background_drag && f.host.dragged;
  drag_stopped = background_drag && f.host.drag_stopped;
  pointer_delta = num f.host.pointer_delta d;
  pointer_velocity = num f.host.pointer_velocity d;
  dt = dt_of f.host.stable_dt;
  hold_overscroll = hold;
}

-- axis_physics[d], by inner_size[d]: "Per axis. Bounds are from last frame."
unfoldable pub last_physics_of : Frame → ℕ → AxisBefore → Float → AxisPhysics
last_physics_of f d before inner_size =
    physics_of
    f.style.kinetic
    (flag f.settings.direction_enabled d)
    before.content_is_too_large
    before.max_offset
    inner_size

-- drag or step
abbrev pub driven_from : Table → Frame → ℕ → AxisBefore → AxisMotion → Float → Bool → Bool → AxisBegun
driven_from table f d before m inner_size background_drag hold = driven_of table m (last_physics_of f d before inner_size) (input_of f d background_drag hold)

-- one axis through `begin`, from the motion that it opens with: "A scroll target under way .. moves after drag or step"
unfoldable pub begun_from : Table → Frame → ℕ → AxisBefore → AxisMotion → Float → Bool → Bool → AxisBegun
begun_from table f d before m inner_size background_drag hold =
    followed_of (driven_from table f d before m inner_size background_drag hold) f.host.time (dt_of f.host.stable_dt)

-- the explicit offset first
abbrev pub axis_begun_of : Table → Frame → State → ℕ → Float → Bool → Bool → AxisBegun
axis_begun_of table f s d inner_size background_drag hold = begun_from table f d (before_of s d) (opened_of f.settings s d) inner_size background_drag hold

-- "let inner_rect", of a Prepared
unfoldable pub inner_rect_of : Prepared → Rect
inner_rect_of p = inner_rect p.x_space p.y_space

-- "Pos2::ZERO + state.offset", before drag or step
abbrev pub viewport_min : Frame → State → Pos2
viewport_min f s = record { x = plus zero (opened_of f.settings s 0).offset; y = plus zero (opened_of f.settings s 1).offset }

-- "let viewport = Rect::from_min_size(Pos2::ZERO + state.offset, inner_size)"
unfoldable pub viewport_of : Frame → State → Prepared → Rect
viewport_of f s p = from_min_size_of (viewport_min f s) (p.x_space.inner_size ∷ p.y_space.inner_size ∷ [])

-- both axes, from their spaces
unfoldable pub prepared_of : Table → Frame → State → AxisSpace → AxisSpace → Prepared
prepared_of table f s x y =
    let background_drag = has_background_drag f s in
    let hold = hold_overscroll f.host (inner_rect x y) in
    record {
      x_space = x;
      y_space = y;
      has_background_drag = background_drag;
      x = axis_begun_of table f s 0 x.inner_size background_drag hold;
      y = axis_begun_of table f s 1 y.inner_size background_drag hold;
    }

-- ScrollArea::begin
unfoldable pub begin_of : Table → Frame → State → Prepared
begin_of table f s = prepared_of table f s (space_of f (flag s.show_scroll 1) 0 1) (space_of f (flag s.show_scroll 0) 1 0)
