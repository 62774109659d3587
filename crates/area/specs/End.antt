-- Prepared::end: "targets and deltas, inner size by direction and shrink, too-large flags, wheel, bars, final clamp, stuck flags".
use Rattle.std.specs.Prelude.{ℕ, Bool, ◌&&◌, ◌||◌}
use Rattle.numbers.specs.declared.shape.Rect.{Rect}
use Rattle.area.specs.Pair.{flag}
use Rattle.area.specs.Geometry.{shows_bar}
use Rattle.area.specs.Drive.{before_of}
use Rattle.area.specs.Adjust.{adjusted_of}
use Rattle.area.specs.Extent.{extent_of}
use Rattle.area.specs.WheelTurn.{heard_of, turned_of}
use Rattle.area.specs.Stick.{stick_of}
use Rattle.area.specs.Bar.{bar_of}
use Rattle.area.specs.FinalClamp.{final_clamp_of}
use Rattle.area.specs.declared.state.State.{State}
use Rattle.area.specs.declared.fields.Frame.{Frame}
use Rattle.area.specs.declared.prepared.AxisSpace.{AxisSpace}
use Rattle.area.specs.declared.prepared.AxisMotion.{AxisMotion}
use Rattle.area.specs.declared.prepared.AxisBefore.{AxisBefore}
use Rattle.area.specs.declared.prepared.AxisBegun.{AxisBegun}
use Rattle.area.specs.declared.prepared.Prepared.{Prepared}
use Rattle.area.specs.declared.adjust.Adjusted.{Adjusted}
use Rattle.area.specs.declared.extent.AxisExtent.{AxisExtent}
use Rattle.area.specs.declared.wheel_turn.WheelHeard.{WheelHeard}
use Rattle.area.specs.declared.wheel_turn.Turned.{Turned}
use Rattle.area.specs.declared.handle.BarSpace.{BarSpace}
use Rattle.numbers.specs.Shape.{from_x_y_ranges_of}
use Rattle.area.specs.declared.bar.Barred.{Barred}
use Rattle.area.specs.declared.final_clamp.FinalClamp.{FinalClamp}
use Rattle.area.specs.declared.end.AxisEnded.{AxisEnded}
use Rattle.area.specs.declared.end.Extents.{Extents}
use Rattle.area.specs.declared.end.Ended.{Ended}

-- what the bar loop reads of this axis and of the other
unfoldable pub bar_space_of : Extents → BarSpace
bar_space_of x = record {
  content_size = x.this.content_size;
  inner = x.this.inner;
  inner_size = x.this.size;
  max_offset = x.this.max_offset;
  cross_inner_max = x.other.inner.max;
  cross_outer_max = x.other.outer.max;
}

-- ---- one axis, stage by stage, after targets, deltas and the wheel
module _ (f : Frame) (d e : ℕ) (before : AxisBefore) (x : Extents) (adjusted : Adjusted) (turned : Turned) where
  -- show_scroll_this_frame[d]
  abbrev pub show_stage : Bool
  show_stage = shows_bar f.settings.scroll_bar_visibility x.this.content_is_too_large (flag f.settings.direction_enabled d)

  abbrev pub stuck_stage : AxisMotion
  stuck_stage = stick_of turned.motion (flag f.settings.stick_to_end d) adjusted.had_explicit_scroll_adjustment x.this.max_offset

  abbrev pub barred_stage : Barred
  barred_stage = bar_of f d e (bar_space_of x) show_stage turned.rubber_banding before.press stuck_stage

  abbrev pub final_stage : FinalClamp
  final_stage =
      final_clamp_of barred_stage.motion turned.rubber_banding x.this.max_offset (flag f.settings.stick_to_end d) adjusted.had_explicit_scroll_adjustment

-- what the stages leave
unfoldable pub ended_by : Bool → Turned → Bool → Barred → FinalClamp → AxisEnded
ended_by explicit turned show barred last = record {
  offset = last.offset;
  vel = barred.motion.vel;
  offset_target = barred.motion.offset_target;
  scroll_stuck_to_end = last.scroll_stuck_to_end;
  bounced_this_momentum = turned.bounced_this_momentum;
  press = barred.press;
  scroll_bar_interaction = barred.scroll_bar_interaction;
  show_scroll = show;
  handle = barred.handle;
  is_press_blocked = barred.is_press_blocked;
  consumed = turned.consumed;
  had_explicit_scroll_adjustment = explicit;
}

-- sticking, bars, final clamp, stuck flags
unfoldable pub finished_of : Frame → ℕ → ℕ → AxisBefore → Extents → Adjusted → Turned → AxisEnded
finished_of f d e before x adjusted turned =
    ended_by adjusted.had_explicit_scroll_adjustment turned (show_stage f d e before x adjusted turned) (barred_stage f d e before x adjusted turned) (final_stage f d e before x adjusted turned)

-- the whole of one axis
unfoldable pub axis_ended_of : Frame → ℕ → ℕ → AxisBefore → AxisSpace → Extents → WheelHeard → AxisBegun → AxisEnded
axis_ended_of f d e before space x wheel b =
    let adjusted = adjusted_of f d space b.motion in
    let turned = turned_of f d before space x.this wheel adjusted.motion b.rubber_banding in
    finished_of f d e before x adjusted turned

-- inner_rect, "At this point this is the available size for the inner rect", as shrunk there
unfoldable pub shrunk_rect_of : AxisExtent → AxisExtent → Rect
shrunk_rect_of x y = from_x_y_ranges_of x.inner y.inner

-- outer_rect
unfoldable pub outer_rect_of : AxisExtent → AxisExtent → Rect
outer_rect_of x y = from_x_y_ranges_of x.outer y.outer

unfoldable pub end_of : Frame → State → Prepared → Ended
end_of f s p =
    let x = extent_of f 0 p.x_space in
    let y = extent_of f 1 p.y_space in
    let wheel = heard_of f (outer_rect_of x y) (p.has_background_drag && f.host.dragged) in
    record {
      x_extent = x;
      y_extent = y;
      wheel = wheel;
      x = axis_ended_of f 0 1 (before_of s 0) p.x_space (record { this = x; other = y }) wheel p.x;
      y = axis_ended_of f 1 0 (before_of s 1) p.y_space (record { this = y; other = x }) wheel p.y;
    }

-- 7: "A new press .. lies outside the handle and the bar's start is not at or below the bar's end minus the handle's length"; either axis
unfoldable pub is_press_blocked : Ended → Bool
is_press_blocked e = e.x.is_press_blocked || e.y.is_press_blocked
