-- A scroll target under way moves the offset, and leaves the rubber band's flag and the stuck flag. Assumes nothing.
use Rattle.std.specs.Prelude.{Option, Some, None}
use Rattle.std.specs.Prelude.{◌≡◌}
use mathlib.Core.Path.{refl}
use lib.Ieee.{Float, lt}
use Rattle.numbers.specs.F32.{one}
use Rattle.numbers.specs.Blend.{interpolation_factor_of}
use Rattle.area.specs.Follow.{is_near, arrived, moved_by, moved_towards, approach_of, followed_to, followed_of}
use Rattle.area.specs.declared.state.ScrollingToTarget.{ScrollingToTarget}
use Rattle.area.specs.declared.prepared.AxisBegun.{AxisBegun}
use Rattle.numbers.proofs.TestLaws.{either}

pub record KeepsFlags (b after : AxisBegun) : Type 0 where
  pub rubber_banding : after.rubber_banding ≡ b.rubber_banding
  pub stuck : after.motion.scroll_stuck_to_end ≡ b.motion.scroll_stuck_to_end

towards_keeps : (b : AxisBegun) (t : ScrollingToTarget) (factor : Float) → KeepsFlags b (moved_towards b t factor)
unfolding moved_towards
towards_keeps b t factor =
    either (KeepsFlags b) (lt factor one) (moved_by b t factor) (arrived b t)
    (record { rubber_banding = refl; stuck = refl })
    (record { rubber_banding = refl; stuck = refl })

approach_keeps : (b : AxisBegun) (t : ScrollingToTarget) (time dt : Float) → KeepsFlags b (approach_of b t time dt)
unfolding approach_of
approach_keeps b t time dt =
    let factor = interpolation_factor_of t.start t.end time dt in
    either (KeepsFlags b) (is_near b.motion.offset t) (arrived b t) (moved_towards b t factor)
    (record { rubber_banding = refl; stuck = refl })
    (towards_keeps b t factor)

follow_keeps : (b : AxisBegun) (time dt : Float) (target : Option ScrollingToTarget) → KeepsFlags b (followed_to b time dt target)
follow_keeps b time dt None = record { rubber_banding = refl; stuck = refl }
follow_keeps b time dt (Some t) = approach_keeps b t time dt

pub followed_keeps : (b : AxisBegun) (time dt : Float) → KeepsFlags b (followed_of b time dt)
unfolding followed_of
followed_keeps b time dt = follow_keeps b time dt b.motion.offset_target
