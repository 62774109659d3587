-- What words in a row stand for besides those of a frame: the style of motion, the axis and the wheel turn of a call on one axis, and a
-- target under way in a state's record.
use Rattle.std.specs.Prelude.{ℕ, ◌+◌, List}
use Rattle.axis.specs.declared.physics.AxisPhysics.{AxisPhysics}
use Rattle.axis.specs.declared.physics.KineticScrollStyle.{KineticScrollStyle}
use Rattle.axis.specs.declared.wheel.WheelScroll.{WheelScroll}
use Rattle.area.specs.declared.state.ScrollingToTarget.{ScrollingToTarget}
use Rattle.area.specs.Frame.{number_no, flag_no, time_no, rangef_no, source_no}

-- "decay_time, stop_distance, rubber_band"
unfoldable pub kinetic_no : List ℕ → ℕ → KineticScrollStyle
kinetic_no s n = record { decay_time = number_no s n; stop_distance = number_no s (n + 1); rubber_band = flag_no s (n + 2) }

-- "the axis words bounds min, bounds max, extent, decay_time, stop_distance, rubber_band"
unfoldable pub axis_no : List ℕ → ℕ → AxisPhysics
axis_no s n = record { bounds = rangef_no s n; viewport_extent = number_no s (n + 2); style = kinetic_no s (n + 3) }

-- "delta, source, can_chain_to_parent, dt"
unfoldable pub scroll_no : List ℕ → ℕ → WheelScroll
scroll_no s n = record {
  delta = number_no s n;
  source = source_no s (n + 1);
  can_chain_to_parent = flag_no s (n + 2);
  dt = number_no s (n + 3);
}

-- start, end, goal
unfoldable pub target_no : List ℕ → ℕ → ScrollingToTarget
target_no s n = record { start = time_no s n; end = time_no s (n + 2); target_offset = number_no s (n + 4) }
