-- axis_physics: "Per axis. Bounds are from last frame", or, for the wheel, "We know this frame's bounds now".
use Rattle.std.specs.Prelude.{Bool, ◌&&◌}
use Rattle.std.specs.Prelude.{Float}
use Rattle.axis.specs.Physics.{scroll_bounds_of}
use Rattle.axis.specs.declared.physics.AxisPhysics.{AxisPhysics}
use Rattle.axis.specs.declared.physics.KineticScrollStyle.{KineticScrollStyle}

unfoldable pub physics_of : KineticScrollStyle → Bool → Bool → Float → Float → AxisPhysics
physics_of kinetic direction_enabled content_is_too_large max_offset viewport_extent = record {
  bounds = scroll_bounds_of max_offset;
  viewport_extent = viewport_extent;
  style = record {
    decay_time = kinetic.decay_time;
    stop_distance = kinetic.stop_distance;
    rubber_band = kinetic.rubber_band && direction_enabled && content_is_too_large;
  };
}
