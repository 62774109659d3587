-- The bar loop's `if let Some(pointer_pos)`, and check 7. `handle` is handle_rect's side along the axis.
use Rattle.std.specs.Prelude.{Option, Some, None}
use Rattle.std.specs.Prelude.{ℕ, Bool, false, cond, not, ◌&&◌}
use Rattle.std.specs.Prelude.{Float}
use Rattle.std.specs.Float.Ieee.{le, eq}
use Rattle.numbers.specs.F32.{minus, times, zero, half}
use Rattle.numbers.specs.Range.{clamp_of}
use Rattle.numbers.specs.Blend.{remap_of}
use Rattle.numbers.specs.Shape.{rect_contains_of}
use Rattle.numbers.specs.declared.range.Rangef.{Rangef}
use Rattle.numbers.specs.declared.shape.Pos2.{Pos2}
use Rattle.area.specs.State.{no_target, no_press}
use Rattle.numbers.specs.Shape.{along_of}
use Rattle.area.specs.Handle.{handle_rect_of}
use Rattle.area.specs.declared.handle.Track.{Track}
use Rattle.area.specs.declared.prepared.AxisMotion.{AxisMotion}
use Rattle.area.specs.declared.press.Pressed.{Pressed}

-- handle_rect.contains(pointer_pos): "a press point is tested without the clip"
unfoldable pub is_on_handle : Track → Rangef → Pos2 → ℕ → Bool
is_on_handle t handle p d = rect_contains_of (handle_rect_of handle t.cross d) p

-- handle_rect.size()[d]
abbrev pub handle_length : Rangef → Float
handle_length handle = minus handle.max handle.min

-- scroll_bar_rect.max[d] - handle_rect.size()[d]
unfoldable pub handle_top_pos_at_bottom : Track → Rangef → Float
handle_top_pos_at_bottom t handle = minus t.bar.max (handle_length handle)

-- new_handle_top_pos: "centering the handle on the mouse"
abbrev pub new_handle_top_pos : Track → Rangef → Float → Float
new_handle_top_pos t handle pointer = clamp_of (minus pointer (times (handle_length handle) half)) t.bar.min (handle_top_pos_at_bottom t handle)

-- the closure of get_or_insert_with
unfoldable pub new_start_offset : Track → Rangef → Pos2 → ℕ → Float
new_start_offset t handle p d =
    let pointer = along_of p d in
    cond (is_on_handle t handle p d) (minus pointer handle.min) (minus pointer (new_handle_top_pos t handle pointer))

abbrev pub start_offset_in : Option Float → Track → Rangef → Pos2 → ℕ → Float
start_offset_in None t handle p d = new_start_offset t handle p d
start_offset_in (Some x) t handle p d = x

-- scroll_start_offset_from_top_left: what is stored, or else a new one
unfoldable pub start_offset_of : Option Float → Track → Rangef → Pos2 → ℕ → Float
start_offset_of stored t handle p d = start_offset_in stored t handle p d

abbrev pub is_blocked_in : Option Float → Track → Rangef → Pos2 → ℕ → Bool
is_blocked_in None t handle p d = not (is_on_handle t handle p d) && not (le t.bar.min (handle_top_pos_at_bottom t handle))
is_blocked_in (Some x) t handle p d = false

-- 7: "A new press (none stored ..) lies outside the handle and the bar's start is not at or below the bar's end minus the handle's
-- length (not-a-number included)"
unfoldable pub is_blocked : Option Float → Track → Rangef → Pos2 → ℕ → Bool
is_blocked stored t handle p d = is_blocked_in stored t handle p d

-- if handle_travel.start() == handle_travel.end() { 0.0 } else { remap(new_handle_top, handle_travel, 0.0..=max_offset[d]) }
unfoldable pub offset_of : Track → Rangef → Float → Float
offset_of t handle new_handle_top =
    let travel_end = handle_top_pos_at_bottom t handle in
    cond (eq t.bar.min travel_end) zero (remap_of new_handle_top t.bar.min travel_end zero t.max_offset)

-- a press: "some manual action taken, scroll not stuck"
unfoldable pub press_at : AxisMotion → Track → Rangef → Option Float → Pos2 → ℕ → Pressed
press_at m t handle stored p d =
    let start_offset = start_offset_of stored t handle p d in
    record {
      motion = record {
        offset = offset_of t handle (minus (along_of p d) start_offset);
        vel = m.vel;
        offset_target = no_target;
        scroll_stuck_to_end = false;
      };
      press = (Some start_offset);
      is_press_blocked = is_blocked stored t handle p d;
    }

-- none: state.scroll_start_offset_from_top_left[d] = None
abbrev pub unpressed : AxisMotion → Pressed
unpressed m = record { motion = m; press = no_press; is_press_blocked = false }

-- if let Some(pointer_pos) = response.interact_pointer_pos()
unfoldable pub press_of : AxisMotion → Track → Rangef → Option Float → Option Pos2 → ℕ → Pressed
press_of m t handle stored None d = unpressed m
press_of m t handle stored (Some p) d = press_at m t handle stored p d
