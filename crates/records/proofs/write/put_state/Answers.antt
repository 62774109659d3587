use Rattle.std.proofs.Common.{false, arith}
use Rattle.std.specs.Float.{nan}
use Rattle.area.specs.State.{no_target, no_press}
use Rattle.records.proofs.PartLaws.{done, next, next_two}
use Rattle.records.proofs.RecordLaws.{target_long, press_long, state_put}
use Rattle.records.proofs.write.put_state.Goals as goal

pub returns : goal.returns
returns c = state_put c.args.s {b = c.args.bytes.now} c.told-bytes
    (next (c.put_pair.ensures nan)
    (next (c.put_pair-2.ensures nan)
    (next_two (target_long _) (omega arith) (c.put_pair-3.ensures no_target)
    (next (c.put_pair-4.ensures false)
    (next (c.put_pair-5.ensures false)
    (next (c.put_pair-6.ensures false)
    (next (c.put_pair-7.ensures nan)
    (next_two (press_long _) (omega arith) (c.put_pair-8.ensures no_press)
    (next (c.put_pair-9.ensures false)
    (next c.put.ensures
    (next (c.put_pair-10.ensures false)
    (next c.put-2.ensures done))))))))))))
