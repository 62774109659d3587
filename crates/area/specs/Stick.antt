-- The bar loop's first lines: "maybe force increase in offset to keep scroll stuck to end position, unless this axis had an
-- explicit scroll adjustment".
use Rattle.std.specs.Prelude.{Bool, cond, not, ◌&&◌}
use Rattle.std.specs.Prelude.{Float}
use Rattle.area.specs.declared.prepared.AxisMotion.{AxisMotion}

-- state.offset[d] = content_size[d] - inner_rect.size()[d], which is max_offset[d]
abbrev pub sent_to_end : AxisMotion → Float → AxisMotion
sent_to_end m max_offset = record {
  offset = max_offset;
  vel = m.vel;
  offset_target = m.offset_target;
  scroll_stuck_to_end = m.scroll_stuck_to_end;
}

-- stick_to_end[d] && state.scroll_stuck_to_end[d] && !had_explicit_scroll_adjustment[d]
unfoldable pub stick_of : AxisMotion → Bool → Bool → Float → AxisMotion
stick_of m stick_to_end had_explicit_scroll_adjustment max_offset =
    cond (stick_to_end && m.scroll_stuck_to_end && not had_explicit_scroll_adjustment) (sent_to_end m max_offset) m
