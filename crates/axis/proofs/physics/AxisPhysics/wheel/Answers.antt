use Rattle.std.proofs.Common.{rules}
use Rattle.axis.specs.Wheel.{wheel_of}
use Rattle.axis.proofs.WheelLaws.{left_holds}
use Rattle.axis.proofs.physics.AxisPhysics.wheel.Goals as goal

pub returns-then-scroll-clause-holds : goal.returns-then-scroll-clause-holds
unfolding wheel_of
returns-then-scroll-clause-holds c = left_holds _ _ _ _ _ _ (search rules)

pub returns-then-not-rubber_band-can_scroll-clause-holds :
    goal.returns-then-not-rubber_band-can_scroll-clause-holds
unfolding wheel_of
returns-then-not-rubber_band-can_scroll-clause-holds c = left_holds _ _ _ _ _ _ (search rules)

pub returns-clause-holds : goal.returns-clause-holds
unfolding wheel_of
returns-clause-holds c = left_holds _ _ _ _ _ _ (search rules)
