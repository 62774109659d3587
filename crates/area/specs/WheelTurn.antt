-- Prepared::end, "wheel": who hears it, and a turn of it on one axis.
use Rattle.std.specs.Prelude.{◌≡◌, ℕ, Bool, true, false, cond, not, ◌&&◌, ◌||◌, List}
use Rattle.std.specs.Bool.{beq}
use Rattle.std.specs.Prelude.{Float}
use Rattle.std.specs.Float.Ieee.{neg}
use Rattle.numbers.specs.F32.{plus, times}
use Rattle.numbers.specs.declared.shape.Rect.{Rect}
use Rattle.axis.specs.Physics.{is_rubber_banding}
use Rattle.axis.specs.Wheel.{wheel_of}
use Rattle.axis.specs.WheelLaw.{WheelHolds}
use Rattle.axis.specs.declared.physics.AxisPhysics.{AxisPhysics}
use Rattle.axis.specs.declared.wheel.WheelScroll.{WheelScroll}
use Rattle.axis.specs.declared.wheel.Wheeled.{Wheeled}
use Rattle.area.specs.Begin.{dt_of}
use Rattle.area.specs.Frame.{frame_of}
use Rattle.area.specs.Checks.{frame_refusal}
use Rattle.area.specs.Pair.{num, flag}
use Rattle.area.specs.State.{no_target}
use Rattle.area.specs.Geometry.{pick_of, rect_contains_pointer}
use Rattle.area.specs.AxisPhysics.{physics_of}
use Rattle.area.specs.declared.fields.Frame.{Frame}
use Rattle.area.specs.declared.prepared.AxisBefore.{AxisBefore}
use Rattle.area.specs.declared.prepared.AxisMotion.{AxisMotion}
use Rattle.area.specs.declared.prepared.AxisSpace.{AxisSpace}
use Rattle.area.specs.declared.extent.AxisExtent.{AxisExtent}
use Rattle.area.specs.declared.wheel_turn.Turned.{Turned}
use Rattle.area.specs.declared.wheel_turn.WheelHeard.{WheelHeard}

-- "if scroll_source.mouse_wheel && ui.is_enabled() && (ui.rect_contains_pointer(outer_rect) || is_dragging_background)"
abbrev pub is_heard : Frame → Rect → Bool → Bool
is_heard f outer_rect is_dragging_background =
    f.settings.mouse_wheel && f.host.enabled && (rect_contains_pointer f.host.clip f.host.pointer outer_rect || is_dragging_background)

-- "let always_scroll_enabled_direction"
abbrev pub always_scroll_enabled_direction : Frame → Bool
always_scroll_enabled_direction f =
    f.style.always_scroll_the_only_direction && not (beq (flag f.settings.direction_enabled 0) (flag f.settings.direction_enabled 1))

-- both, for the loop over d
unfoldable pub heard_of : Frame → Rect → Bool → WheelHeard
heard_of f outer_rect is_dragging_background = record {
  heard = is_heard f outer_rect is_dragging_background;
  always_scroll_enabled_direction = always_scroll_enabled_direction f;
}

-- "let scroll_delta", both
abbrev pub scroll_delta_of : Frame → ℕ → Bool → Float
scroll_delta_of f d always =
    times
    (pick_of always (plus (num f.host.smooth_scroll_delta 0) (num f.host.smooth_scroll_delta 1)) (num f.host.smooth_scroll_delta d))
    (num f.settings.wheel_scroll_multiplier d)

-- "WheelScroll { .. }"
unfoldable pub wheel_scroll_of : Frame → ℕ → Bool → WheelScroll
wheel_scroll_of f d always = record {
  delta = neg (scroll_delta_of f d always);
  source = f.host.source;
  can_chain_to_parent = f.host.scrolling_ancestor;
  dt = dt_of f.host.stable_dt;
}

-- "let physics": this frame's bounds, the rest of begin
unfoldable pub wheel_physics_of : Frame → ℕ → AxisBefore → AxisSpace → AxisExtent → AxisPhysics
wheel_physics_of f d before space extent =
    physics_of f.style.kinetic (flag f.settings.direction_enabled d) before.content_is_too_large extent.max_offset space.inner_size

-- "if consumed"
abbrev pub taken : AxisPhysics → Wheeled → Turned
taken physics r = record {
  motion = record { offset = r.offset; vel = r.vel; offset_target = no_target; scroll_stuck_to_end = false };
  rubber_banding = is_rubber_banding physics r.offset;
  bounced_this_momentum = r.bounced_this_momentum;
  consumed = true;
}

-- not consumed: what the wheel left of offset and velocity, and its bounce flag
abbrev pub untaken : AxisMotion → Bool → Wheeled → Turned
untaken m rubber_banding r = record {
  motion = record { offset = r.offset; vel = r.vel; offset_target = m.offset_target; scroll_stuck_to_end = m.scroll_stuck_to_end };
  rubber_banding = rubber_banding;
  bounced_this_momentum = r.bounced_this_momentum;
  consumed = false;
}

-- not heard: nothing changes
abbrev pub unheard : AxisMotion → Bool → Bool → Turned
unheard m rubber_banding bounced = record { motion = m; rubber_banding = rubber_banding; bounced_this_momentum = bounced; consumed = false }

-- "let consumed = physics.wheel(..)"
unfoldable pub turned_by : AxisPhysics → WheelScroll → AxisMotion → Bool → Bool → Turned
turned_by physics scroll m rubber_banding bounced =
    let r = wheel_of physics m.offset m.vel scroll bounced in
    cond r.consumed (taken physics r) (untaken m rubber_banding r)

-- the wheel on axis d: "if direction_enabled[d]"
unfoldable pub turned_of : Frame → ℕ → AxisBefore → AxisSpace → AxisExtent → WheelHeard → AxisMotion → Bool → Turned
turned_of f d before space extent wheel m rubber_banding =
    cond (wheel.heard && flag f.settings.direction_enabled d)
    (turned_by (wheel_physics_of f d before space extent) (wheel_scroll_of f d wheel.always_scroll_enabled_direction) m rubber_banding before.bounced_this_momentum)
    (unheard m rubber_banding before.bounced_this_momentum)

-- ---- what holds of it (proofs/WheelTurnLaws.antt)

-- a turn, as the wheel left it
abbrev pub left_of : Turned → Wheeled
left_of t = record {
  offset = t.motion.offset;
  vel = t.motion.vel;
  bounced_this_momentum = t.bounced_this_momentum;
  consumed = t.consumed;
}

-- in a frame that passes checks 1 to 5, where the axis is turned, document 02's law of which turns are taken (K6;
-- crates/axis/specs/WheelLaw.antt) holds of what it leaves
abbrev pub TurnHolds : List ℕ → ℕ → AxisBefore → AxisSpace → AxisExtent → WheelHeard → AxisMotion → Turned → Type 0
TurnHolds bytes d before space extent wheel m t =
    let f = frame_of bytes in
    frame_refusal bytes ≡ 0
    → (wheel.heard && flag f.settings.direction_enabled d) ≡ true
    → WheelHolds (wheel_physics_of f d before space extent) m.offset m.vel (wheel_scroll_of f d wheel.always_scroll_enabled_direction)
    before.bounced_this_momentum (left_of t)
