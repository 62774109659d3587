-- Five statements that look like the law of specs/WheelLaw.antt, each false of the call that is named here: what it answers, by computation. The
-- statements themselves are the edits law_* of must-fail/, and the program replay_axis runs the five calls.
use Rattle.std.specs.Prelude.{◌≡◌, ℕ, Bool, true, false, Some}
use Rattle.std.specs.Prelude.{refl, Float}
use Rattle.std.specs.Float.Ieee.{of_bits, of_int, neg, add, sub, mul, div, lt, le, eq, ne}
use Rattle.numbers.specs.F32.{over, num, one}
use Rattle.numbers.specs.Scalar.{is_finite, abs_of, copysign_of, signum_of, max_of, min_of}
use Rattle.numbers.specs.Range.{clamp_of, contains_of}
use Rattle.axis.specs.RubberBand.{rubber_band_drag_of, move_freely_of, stretch_of, factor_of, fraction_of, crosses_edge}
use Rattle.axis.specs.Physics.{axis_clamp_of, overscroll_of, is_overscrolled}
use Rattle.axis.specs.Wheel.{wheel_of, wheeled, wheeled_finite, consume_of, momentum_of, bounce_start_of, bounce_velocity_of, speed_of}
use Rattle.axis.specs.Wheel.{trackpad_drag_of, can_scroll, can_rubber_band, is_momentum, is_trackpad}
use Rattle.axis.specs.Limits.{exceeds_limit, axis_exceeds_limit, is_reversed, is_decay_time_outside, is_style_outside}
use Rattle.refusals.specs.Refusal.{Answered}
use Rattle.axis.specs.Call.{lowest_of, put_out, wheel_call_of}
use Rattle.axis.specs.declared.physics.AxisPhysics.{AxisPhysics}
use Rattle.axis.specs.declared.wheel.WheelSource.{WheelSource}
use Rattle.axis.specs.declared.wheel.WheelSource.TheVariants.{Wheel, Trackpad, Momentum}
use Rattle.axis.specs.declared.wheel.Wheeled.{Wheeled}

-- bounds 0 to 300, extent 100
abbrev axis : Bool → AxisPhysics
axis rubber_band = record {
  bounds = record { min = num 0; max = num 300 };
  viewport_extent = num 100;
  style = record { decay_time = one; stop_distance = one; rubber_band = rubber_band };
}

-- a turn at velocity 5, in a frame of 1 / 60 s
abbrev called : Bool → ℕ → Float → WheelSource → Bool → Bool → Answered Wheeled
called rubber_band offset delta source parent bounced =
    wheel_call_of (axis rubber_band) (num offset) (num 5) (record { delta = delta; source = Some source; can_chain_to_parent = parent; dt = over one (num 60) }) bounced

-- an accepted call, and what it leaves
abbrev accepted : Float → Float → Bool → Bool → Answered Wheeled
accepted offset vel bounced consumed = record { refusal = 0; value = wheeled offset vel bounced consumed }

pub record WheelTried : Type 0 where
  -- `can` with ≤: the turn is not taken
  pub can_at_the_bounds : called false 0 (neg (num 8)) Wheel false false ≡ accepted (num 0) (num 5) false false
  -- `band` without the ground of no parent: the turn is taken
  pub band_with_a_parent_alone :
      ((called true 300 (num 8) Trackpad false false).refusal ≡ 0) × ((called true 300 (num 8) Trackpad false false).value.consumed ≡ true)
  -- false clears the velocity: it stays 5
  pub false_clears_velocity : called false 300 (num 20) Wheel false false ≡ accepted (num 300) (num 5) false false
  -- true leaves the offset strictly between the bounds: it stands on 300
  pub true_between_the_bounds : called false 290 (num 20) Wheel false false ≡ accepted (num 300) (num 5) false true
  -- the flag clear for Momentum too: it stays set
  pub flag_clear_for_momentum : called true 300 (num 8) Momentum true true ≡ accepted (num 300) (num 5) true true

pub wheel_tried : WheelTried
unfolding
    axis_clamp_of overscroll_of is_overscrolled
    rubber_band_drag_of move_freely_of stretch_of factor_of fraction_of crosses_edge
    wheel_of consume_of momentum_of bounce_start_of bounce_velocity_of speed_of
    trackpad_drag_of can_scroll can_rubber_band is_momentum is_trackpad
    wheel_call_of lowest_of put_out wheeled_finite exceeds_limit axis_exceeds_limit is_reversed is_decay_time_outside is_style_outside
    is_finite abs_of copysign_of signum_of max_of min_of clamp_of contains_of
    of_bits of_int neg add sub mul div lt le eq ne
wheel_tried = record {
  can_at_the_bounds = refl;
  band_with_a_parent_alone = (refl, refl);
  false_clears_velocity = refl;
  true_between_the_bounds = refl;
  flag_clear_for_momentum = refl;
}
