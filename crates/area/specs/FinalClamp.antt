-- After the bar loop: "final clamp, stuck flags". available_offset is content_size - inner_rect.size(), as max_offset is.
use Rattle.std.specs.Prelude.{Bool, not, ◌&&◌, ◌||◌}
use Rattle.std.specs.Prelude.{Float}
use Rattle.std.specs.Float.Ieee.{lt, eq}
use Rattle.numbers.specs.F32.{zero}
use Rattle.area.specs.State.{clamped_to}
use Rattle.area.specs.Geometry.{pick_of, has_target}
use Rattle.area.specs.declared.prepared.AxisMotion.{AxisMotion}
use Rattle.area.specs.declared.final_clamp.FinalClamp.{FinalClamp}

-- if !rubber_banding[d] { state.offset[d] = scroll_bounds(available_offset[d]).clamp(state.offset[d]) }
abbrev pub final_offset : AxisMotion → Bool → Float → Float
final_offset m rubber_banding max_offset = pick_of rubber_banding m.offset (clamped_to m.offset max_offset)

-- suppress_stuck_recompute: had_explicit_scroll_adjustment[d] && state.offset_target[d].is_some()
abbrev pub suppress_stuck_recompute : AxisMotion → Bool → Bool
suppress_stuck_recompute m had_explicit_scroll_adjustment = had_explicit_scroll_adjustment && has_target m.offset_target

-- (state.offset[d] == available_offset[d]) || (stick_to_end[d] && available_offset[d] < 0.0)
abbrev pub is_at_end : Float → Float → Bool → Bool
is_at_end offset max_offset stick_to_end = eq offset max_offset || (stick_to_end && lt max_offset zero)

-- state.offset and state.scroll_stuck_to_end as stored
unfoldable pub final_clamp_of : AxisMotion → Bool → Float → Bool → Bool → FinalClamp
final_clamp_of m rubber_banding max_offset stick_to_end had_explicit_scroll_adjustment = record {
  offset = final_offset m rubber_banding max_offset;
  scroll_stuck_to_end =
      not (suppress_stuck_recompute m had_explicit_scroll_adjustment)
      && is_at_end (final_offset m rubber_banding max_offset) max_offset stick_to_end;
}
