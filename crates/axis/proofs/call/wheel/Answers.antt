use Rattle.std.proofs.Common.{rules, false}
use Rattle.axis.specs.Call.{wheel_call_of}
use Rattle.axis.specs.Wheel.{wheeled}
use Rattle.axis.proofs.WheelLaws.{ok_holds}
use Rattle.axis.proofs.call.wheel.Goals as goal

pub returns-clause-holds : goal.returns-clause-holds
unfolding wheel_call_of
returns-clause-holds c = ok_holds _ _ _ _ _ (wheeled c.args.offset c.args.vel c.args.bounced_this_momentum false) _ (search rules)
