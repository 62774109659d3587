-- Prepared::end, "targets and deltas", on one axis: the delta that the content asks for, and what it does to the motion.
use Rattle.std.specs.Prelude.{Option, Some, None}
use Rattle.area.specs.declared.state.ScrollingToTarget.{ScrollingToTarget}
use Rattle.std.specs.Prelude.{ℕ, Bool, true, false, cond, not, ◌&&◌, List, slice_index_or}
use Rattle.std.specs.Prelude.{Float}
use Rattle.std.specs.Float.{binary64}
use Rattle.std.specs.Float.Ieee.{add, lt, ne, neg}
use Rattle.numbers.specs.F32.{plus, minus, times, over, zero, one}
use Rattle.numbers.specs.Scalar.{abs_of, min_of}
use Rattle.numbers.specs.Range.{clamp_of}
use Rattle.numbers.specs.Blend.{lerp_of, remap_of}
use Rattle.numbers.specs.Convert.{widen_of}
use Rattle.numbers.specs.Shape.{factor_of}
use Rattle.numbers.specs.declared.shape.Align.{Align}
use Rattle.numbers.specs.declared.range.Rangef.{Rangef}
use Rattle.area.specs.Pair.{num, flag}
use Rattle.area.specs.declared.fields.Frame.{Frame}
use Rattle.area.specs.declared.fields.ScrollAnimation.{ScrollAnimation}
use Rattle.area.specs.declared.fields.ScrollTarget.{ScrollTarget}
use Rattle.area.specs.declared.prepared.AxisMotion.{AxisMotion}
use Rattle.area.specs.declared.prepared.AxisSpace.{AxisSpace}
use Rattle.area.specs.declared.adjust.Adjusted.{Adjusted}
use Rattle.area.specs.declared.adjust.AskedDelta.{AskedDelta}
use Rattle.area.specs.declared.adjust.AxisView.{AxisView}

-- "a target option" that is off
abbrev pub no_request : Option ScrollTarget
no_request = None

-- scroll_target[d]
abbrev pub request_at : List (Option ScrollTarget) → ℕ → Option ScrollTarget
request_at v d = slice_index_or v d no_request

-- ---- the delta that a target asks for

-- "let min", "clip_start", "clip_end", "spacing"
unfoldable pub view_of : Frame → ℕ → AxisSpace → AxisView
view_of f d space = record {
  min = num f.content.min d;
  clip_start = space.clip.min;
  clip_end = space.clip.max;
  spacing = num f.style.item_spacing d;
}

-- "let visible_range = min..=min + clip_rect.size()[d]": its end
abbrev pub visible_end : AxisView → Float
visible_end view = plus view.min (minus view.clip_end view.clip_start)

-- lerp(range) - lerp(visible_range), "spacing *= remap(center_factor, 0.0..=1.0, -1.0..=1.0)", "offset + spacing - state.offset[d]"
unfoldable pub aligned_delta : Align → Rangef → AxisView → Float → Float
aligned_delta align range view state_offset =
    let center_factor = factor_of align in
    let offset = minus (lerp_of range.min range.max center_factor) (lerp_of view.min (visible_end view) center_factor) in
    let spacing = times view.spacing (remap_of center_factor zero one (neg one) one) in
    minus (plus offset spacing) state_offset

-- "-(clip_start - start + spacing).min(clip_end - end - spacing)", the negated minimum
abbrev pub delta_back : Rangef → AxisView → Float
delta_back range view =
    neg (min_of (plus (minus view.clip_start range.min) view.spacing) (minus (minus view.clip_end range.max) view.spacing))

-- "(end - clip_end + spacing).min(start - clip_start - spacing)"
abbrev pub delta_on : Rangef → AxisView → Float
delta_on range view =
    min_of (plus (minus range.max view.clip_end) view.spacing) (minus (minus range.min view.clip_start) view.spacing)

-- "else if start < clip_start && end < clip_end", "else if end > clip_end && start > clip_start", else "Ui is already in view"
unfoldable pub into_view_delta : Rangef → AxisView → Float
into_view_delta range view =
    cond (lt range.min view.clip_start && lt range.max view.clip_end) (delta_back range view)
    (cond (lt view.clip_end range.max && lt view.clip_start range.min) (delta_on range view)
    zero)

-- "if let Some(align) = align", and its else
abbrev pub delta_by : Option Align → Rangef → AxisView → Float → Float
delta_by (Some align) range view offset = aligned_delta align range view offset
delta_by None range view offset = into_view_delta range view

-- "let delta_update"
unfoldable pub delta_update : ScrollTarget → AxisView → Float → Float
delta_update target view offset = delta_by target.align target.range view offset

-- ---- the delta that the content asks for in all, and its animation

-- "let mut delta = -scroll_delta", "let mut animation = scroll_animation"
abbrev pub asked_by_delta : Float → ScrollAnimation → AskedDelta
asked_by_delta scroll_delta scroll_animation = record { delta = neg scroll_delta; animation = scroll_animation }

-- "animation = animation_update", "delta += delta_update"
abbrev pub asked_by_target : ScrollTarget → Float → AxisView → Float → AskedDelta
asked_by_target target scroll_delta view offset =
    record { delta = plus (neg scroll_delta) (delta_update target view offset); animation = target.animation }

-- "if let Some(target) = scroll_target"
abbrev pub asked_by : Option ScrollTarget → Float → ScrollAnimation → AxisView → Float → AskedDelta
asked_by None scroll_delta scroll_animation view offset = asked_by_delta scroll_delta scroll_animation
asked_by (Some target) scroll_delta scroll_animation view offset = asked_by_target target scroll_delta view offset

-- (delta, animation)
unfoldable pub asked_of : Option ScrollTarget → Float → ScrollAnimation → AxisView → Float → AskedDelta
asked_of request scroll_delta scroll_animation view offset = asked_by request scroll_delta scroll_animation view offset

-- the delta and animation on axis d, from where the offset is
unfoldable pub asked_at : Frame → ℕ → AxisSpace → Float → AskedDelta
asked_at f d space offset =
    asked_of (request_at f.content.targets d) (num f.content.scroll_delta d) f.content.animation (view_of f d space) offset

-- ---- what a delta does

-- "Some(ScrollingToTarget { .. })"
abbrev pub toward : Float → Float → Float → Option ScrollingToTarget
toward start end target_offset = (Some (record { start = start; end = end; target_offset = target_offset }))

-- "let animation_duration"
abbrev pub animation_duration : Float → ScrollAnimation → Float
animation_duration delta animation = clamp_of (over (abs_of delta) animation.points_per_second) animation.duration.min animation.duration.max

-- a target under way keeps its time span: "we don't want to reset the animation"; a new one runs from "now" to "now + animation_duration as f64"
abbrev pub retargeted : Option ScrollingToTarget → Float → Float → ScrollAnimation → Float → Option ScrollingToTarget
retargeted (Some to) target_offset delta animation now = toward to.start to.end target_offset
retargeted None target_offset delta animation now = toward now (add binary64 now (widen_of (animation_duration delta animation))) target_offset

-- "else if let Some(animation) = &mut state.offset_target[d]", and its else
unfoldable pub retarget_of : Option ScrollingToTarget → Float → Float → ScrollAnimation → Float → Option ScrollingToTarget
retarget_of offset_target target_offset delta animation now = retargeted offset_target target_offset delta animation now

-- "let target_offset = state.offset[d] + delta"
abbrev pub target_offset_of : AxisMotion → AskedDelta → Float
target_offset_of m asked = plus m.offset asked.delta

-- "state.offset[d] = target_offset"; a target under way stays
abbrev pub jumped : AxisMotion → AskedDelta → Adjusted
jumped m asked = record {
  motion = record { offset = target_offset_of m asked; vel = m.vel; offset_target = m.offset_target; scroll_stuck_to_end = m.scroll_stuck_to_end };
  had_explicit_scroll_adjustment = true;
}

-- a target is started or moved, and the offset stays
abbrev pub aimed : AxisMotion → AskedDelta → Float → Adjusted
aimed m asked now = record {
  motion = record {
    offset = m.offset;
    vel = m.vel;
    offset_target = retarget_of m.offset_target (target_offset_of m asked) asked.delta asked.animation now;
    scroll_stuck_to_end = m.scroll_stuck_to_end;
  };
  had_explicit_scroll_adjustment = true;
}

-- nothing is asked
abbrev pub unadjusted : AxisMotion → Adjusted
unadjusted m = record { motion = m; had_explicit_scroll_adjustment = false }

-- "if !animated"
unfoldable pub moved_by : AxisMotion → AskedDelta → Bool → Float → Adjusted
moved_by m asked animated now = cond (not animated) (jumped m asked) (aimed m asked now)

-- "if direction_enabled[d]", "if delta != 0.0"
unfoldable pub adjusted_by : AxisMotion → AskedDelta → Bool → Bool → Float → Adjusted
adjusted_by m asked direction_enabled animated now = cond (direction_enabled && ne asked.delta zero) (moved_by m asked animated now) (unadjusted m)

-- targets and deltas on axis d
unfoldable pub adjusted_of : Frame → ℕ → AxisSpace → AxisMotion → Adjusted
adjusted_of f d space m =
    adjusted_by m (asked_at f d space m.offset) (flag f.settings.direction_enabled d) f.settings.animated f.host.time
