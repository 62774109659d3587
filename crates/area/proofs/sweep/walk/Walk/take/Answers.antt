use Rattle.std.proofs.Common.{sym, ◌∙◌}
use Rattle.area.proofs.SweepLaws.{taking_is}
use Rattle.area.proofs.sweep.walk.Walk.take.Goals as goal

pub returns : goal.returns
returns g c = taking_is _ _ _ _ _ _ (c.walk.view_is ∙ c.sweep-walk.ensures) (c.words.ensures ∙ sym (g.met.F.Field.as_many c.args.n)) c.counted.ensures
