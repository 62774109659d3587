use Rattle.std.proofs.Common.{arith}
use Rattle.std.specs.Float.{nan}
use Rattle.area.specs.Outcome.{no_handle}
use Rattle.area.specs.Outcome.{outcome_in}
use Rattle.records.proofs.PartLaws.{done, next, next_two}
use Rattle.records.proofs.RecordLaws.{rect_long, out_put}
use Rattle.records.proofs.write.put_outcome.Goals as goal

pub returns : goal.returns
returns c = out_put (outcome_in c.args.o) {b = c.args.bytes.now} c.told-bytes
    (next (c.put_pair.ensures nan)
    (next c.put.ensures
    (next c.put-2.ensures
    (next_two (rect_long _) (omega arith) (c.put_pair-2.ensures no_handle)
    (next (c.put_pair-3.ensures nan)
    (next (c.put_pair-4.ensures nan)
    (next c.put-3.ensures done)))))))
