-- One turn of the bar loop, after the sticking.
use Rattle.std.specs.Prelude.{Option, Some, None}
use Rattle.std.specs.Prelude.{ℕ, Bool, false, cond, ◌||◌, slice_index_or}
use Rattle.std.specs.Prelude.{Float}
use Rattle.std.specs.Float.Ieee.{eq, ne}
use Rattle.numbers.specs.F32.{zero}
use Rattle.area.specs.Pair.{num}
use Rattle.area.specs.State.{clamped_to}
use Rattle.area.specs.Geometry.{pick_of}
use Rattle.area.specs.Handle.{show_factor_of, track_of, handle_of, handle_rect_of}
use Rattle.area.specs.Press.{press_of}
use Rattle.area.specs.declared.bar.Barred.{Barred}
use Rattle.area.specs.declared.fields.BarResponse.{BarResponse}
use Rattle.area.specs.declared.fields.Frame.{Frame}
use Rattle.area.specs.declared.handle.BarSpace.{BarSpace}
use Rattle.area.specs.declared.handle.Track.{Track}
use Rattle.area.specs.declared.prepared.AxisMotion.{AxisMotion}

-- a response to nothing
abbrev pub no_response : BarResponse
no_response = record { hovered = false; dragged = false; press = None }

-- state.offset[d] = scroll_bounds(max_offset[d]).clamp(state.offset[d]); vel 0.0 if that is not unbounded_offset
abbrev pub bounded_motion : AxisMotion → Float → AxisMotion
bounded_motion m max_offset =
    let offset = clamped_to m.offset max_offset in
    record {
      offset = offset;
      vel = pick_of (ne offset m.offset) zero m.vel;
      offset_target = m.offset_target;
      scroll_stuck_to_end = m.scroll_stuck_to_end;
    }

-- if !rubber_banding[d]
unfoldable pub bound_motion_of : AxisMotion → Bool → Float → AxisMotion
bound_motion_of m rubber_banding max_offset = cond rubber_banding m (bounded_motion m max_offset)

-- the rest of the turn, to "Avoid frame-delay by calculating a new handle rect"; "the second calculation, also where the Rust finds
-- the bar invisible"
unfoldable pub shown_bar : AxisMotion → Track → Bool → Option Float → BarResponse → ℕ → Barred
shown_bar m t rubber_banding stored response d =
    let pressed = press_of m t (handle_of t m.offset) stored response.press d in
    let motion = bound_motion_of pressed.motion rubber_banding t.max_offset in
    record {
      motion = motion;
      press = pressed.press;
      scroll_bar_interaction = response.hovered || response.dragged;
      handle = (Some (handle_rect_of (handle_of t motion.offset) t.cross d));
      is_press_blocked = pressed.is_press_blocked;
    }

-- state.scroll_bar_interaction[d] = false; continue
abbrev pub hidden_bar : AxisMotion → Option Float → Barred
hidden_bar m stored = record {
  motion = m;
  press = stored;
  scroll_bar_interaction = false;
  handle = None;
  is_press_blocked = false;
}

-- if show_factor == 0.0
unfoldable pub turn_bar : AxisMotion → Track → Float → Bool → Option Float → BarResponse → ℕ → Barred
turn_bar m t show_factor rubber_banding stored response d =
    cond (eq show_factor zero) (hidden_bar m stored) (shown_bar m t rubber_banding stored response d)

-- for d in 0..2, after the sticking; e is 1 - d
unfoldable pub bar_of : Frame → ℕ → ℕ → BarSpace → Bool → Bool → Option Float → AxisMotion → Barred
bar_of f d e space show_scroll rubber_banding stored m =
    let show_factor = show_factor_of show_scroll (num f.host.bar_factors d) (num f.host.opening_factors d) in
    turn_bar m (track_of f d e space show_factor) show_factor rubber_banding stored (slice_index_or f.host.bars d no_response) d
