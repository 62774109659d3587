-- The explicit offset, then the hand's drag or the axis's own step under a table, on one axis.
use Rattle.std.specs.Prelude.{Option, Some, None}
use Rattle.std.specs.Prelude.{ℕ, false, cond, slice_index_or}
use Rattle.std.specs.Prelude.{Float}
use Rattle.std.specs.Float.Ieee.{neg}
use Rattle.numbers.specs.Table.{Table}
use Rattle.numbers.specs.F32.{times}
use Rattle.numbers.specs.Scalar.{flag_of}
use Rattle.axis.specs.Physics.{drag_of, is_rubber_banding}
use Rattle.axis.specs.Step.{step_of}
use Rattle.axis.specs.declared.physics.AxisPhysics.{AxisPhysics}
use Rattle.axis.specs.declared.step.Stepped.{Stepped}
use Rattle.area.specs.declared.fields.Settings.{Settings}
use Rattle.area.specs.declared.state.State.{State}
use Rattle.area.specs.declared.prepared.AxisMotion.{AxisMotion}
use Rattle.area.specs.declared.prepared.AxisBefore.{AxisBefore}
use Rattle.area.specs.declared.prepared.AxisBegun.{AxisBegun}
use Rattle.area.specs.declared.drive.AxisInput.{AxisInput}
use Rattle.area.specs.Pair.{num, flag}
use Rattle.area.specs.State.{no_target, no_press}

-- Option::unwrap_or
abbrev pub unwrap_or : Option Float → Float → Float
unwrap_or None offset = offset
unwrap_or (Some given) offset = given

-- "offset_x.unwrap_or(state.offset.x)", and y
unfoldable pub given_offset_or : Option Float → Float → Float
given_offset_or given offset = unwrap_or given offset

-- what an index past the pair would read
abbrev pub no_given_offset : Option Float
no_given_offset = None

-- "state.offset.x = ..": what of the state moves on axis d, with the explicit offset in it
unfoldable pub opened_of : Settings → State → ℕ → AxisMotion
opened_of set s d = record {
  offset = given_offset_or (slice_index_or set.offset d no_given_offset) (num s.offset d);
  vel = num s.vel d;
  offset_target = slice_index_or s.offset_target d no_target;
  scroll_stuck_to_end = flag s.scroll_stuck_to_end d;
}

-- what else the last frame left on axis d
unfoldable pub before_of : State → ℕ → AxisBefore
before_of s d = record {
  max_offset = num s.max_offset d;
  content_is_too_large = flag s.content_is_too_large d;
  bounced_this_momentum = flag s.bounced_this_momentum d;
  press = slice_index_or s.scroll_start_offset_from_top_left d no_press;
}

-- "state.offset[d] = physics.drag(state.offset[d], -pointer_delta[d])"
abbrev pub dragged_offset : AxisMotion → AxisPhysics → AxisInput → Float
dragged_offset m physics i = drag_of physics m.offset (neg i.pointer_delta)

-- "response.dragged()", "if direction_enabled[d]"
abbrev pub dragged_to : AxisMotion → AxisPhysics → Float → AxisBegun
dragged_to m physics offset = record {
  motion = record { offset = offset; vel = m.vel; offset_target = no_target; scroll_stuck_to_end = false };
  rubber_banding = is_rubber_banding physics offset;
  repaint = false;
}

-- "response.dragged()", on an axis that is not enabled: "let mut rubber_banding = Vec2b::FALSE"
abbrev pub left_alone : AxisMotion → AxisBegun
left_alone m = record { motion = m; rubber_banding = false; repaint = false }

-- "if background_drag_response .. response.dragged()"
unfoldable pub dragged_of : AxisMotion → AxisPhysics → AxisInput → AxisBegun
dragged_of m physics i = cond i.direction_enabled (dragged_to m physics (dragged_offset m physics i)) (left_alone m)

-- "-(direction_enabled.to_vec2() * ui.input(|input| input.pointer.velocity()))"
abbrev pub release_velocity : AxisInput → Float
release_velocity i = neg (times (flag_of i.direction_enabled) i.pointer_velocity)

-- "Apply the cursor velocity to the scroll area when the user releases the drag."
unfoldable pub released_of : AxisInput → Float → Float
released_of i vel = cond i.drag_stopped (release_velocity i) vel

-- "if physics.step(..) { ctx.request_repaint(); }", "rubber_banding[d] = physics.is_rubber_banding(state.offset[d])"
abbrev pub stepped_to : AxisMotion → AxisPhysics → Stepped → AxisBegun
stepped_to m physics t = record {
  motion = record {
    offset = t.offset;
    vel = t.vel;
    offset_target = m.offset_target;
    scroll_stuck_to_end = m.scroll_stuck_to_end;
  };
  rubber_banding = is_rubber_banding physics t.offset;
  repaint = t.moving;
}

-- the else of "if background_drag_response .. response.dragged()"
unfoldable pub stepped_of : Table → AxisMotion → AxisPhysics → AxisInput → AxisBegun
stepped_of table m physics i = stepped_to m physics (step_of table physics m.offset (released_of i m.vel) i.dt i.hold_overscroll)

-- drag or step
unfoldable pub driven_of : Table → AxisMotion → AxisPhysics → AxisInput → AxisBegun
driven_of table m physics i = cond i.dragged (dragged_of m physics i) (stepped_of table m physics i)
