-- "A scroll target under way .. moves after drag or step and zeroes the velocity."
use Rattle.std.specs.Prelude.{Option, Some, None}
use Rattle.std.specs.Prelude.{Bool, true, cond}
use Rattle.std.specs.Prelude.{Float}
use Rattle.std.specs.Float.Ieee.{lt}
use Rattle.numbers.specs.F32.{minus, zero, one}
use Rattle.numbers.specs.Scalar.{abs_of}
use Rattle.numbers.specs.Blend.{lerp_of, interpolation_factor_of}
use Rattle.area.specs.declared.state.ScrollingToTarget.{ScrollingToTarget}
use Rattle.area.specs.declared.prepared.AxisBegun.{AxisBegun}
use Rattle.area.specs.State.{no_target}

-- "(state.offset[d] - scroll_target.target_offset).abs() < 1.0"
abbrev pub is_near : Float → ScrollingToTarget → Bool
is_near offset t = lt (abs_of (minus offset t.target_offset)) one

-- "Arrived", with "state.vel[d] = 0.0"
abbrev pub arrived : AxisBegun → ScrollingToTarget → AxisBegun
arrived b t = record {
  motion = record {
    offset = t.target_offset;
    vel = zero;
    offset_target = no_target;
    scroll_stuck_to_end = b.motion.scroll_stuck_to_end;
  };
  rubber_banding = b.rubber_banding;
  repaint = b.repaint;
}

-- "emath::lerp(state.offset[d]..=scroll_target.target_offset, t)", "ctx.request_repaint()", with "state.vel[d] = 0.0"
abbrev pub moved_by : AxisBegun → ScrollingToTarget → Float → AxisBegun
moved_by b t factor = record {
  motion = record {
    offset = lerp_of b.motion.offset t.target_offset factor;
    vel = zero;
    offset_target = (Some t);
    scroll_stuck_to_end = b.motion.scroll_stuck_to_end;
  };
  rubber_banding = b.rubber_banding;
  repaint = true;
}

-- "Move towards target", "if t < 1.0"
unfoldable pub moved_towards : AxisBegun → ScrollingToTarget → Float → AxisBegun
moved_towards b t factor = cond (lt factor one) (moved_by b t factor) (arrived b t)

-- "if let Some(scroll_target) = state.offset_target[d]"
unfoldable pub approach_of : AxisBegun → ScrollingToTarget → Float → Float → AxisBegun
approach_of b t time dt =
    cond (is_near b.motion.offset t)
    (arrived b t)
    (moved_towards b t (interpolation_factor_of t.start t.end time dt))

-- "A scroll target under way is kept as nothing, or as a start, an end and a goal"
abbrev pub followed_to : AxisBegun → Float → Float → Option ScrollingToTarget → AxisBegun
followed_to b time dt None = b
followed_to b time dt (Some t) = approach_of b t time dt

-- "Scroll with an animation if we have a target offset (that hasn't been cleared by the code above)."
unfoldable pub followed_of : AxisBegun → Float → Float → AxisBegun
followed_of b time dt = followed_to b time dt b.motion.offset_target
