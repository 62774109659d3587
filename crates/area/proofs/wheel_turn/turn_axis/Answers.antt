use Rattle.area.specs.WheelTurn.{turned_of, wheel_physics_of}
use Rattle.area.proofs.WheelTurnLaws.{turn_holds_of}
use Rattle.area.proofs.wheel_turn.turn_axis.Goals as goal

pub returns-then-wheel-enabled-clause-holds : goal.returns-then-wheel-enabled-clause-holds
unfolding turned_of wheel_physics_of
returns-then-wheel-enabled-clause-holds c = λ bytes seen.
    turn_holds_of bytes c.args.frame.now c.args.d c.args.before c.args.space c.args.extent c.args.wheel c.args.motion c.args.rubber_banding c.turn_by.result seen
    (rw (← c.direction_enabled-enabled.ensures, c.if-wheel-enabled.true, ← c.wheel_scroll-scroll.ensures, ← c.kinetic.ensures, ← c.physics_of-physics.ensures, ← c.turn_by.ensures))
