use Rattle.area.specs.Marks.{sweep_rows}
use Rattle.area.proofs.sweep.field.AnyField.sweep.Goals as goal

pub returns : goal.returns
unfolding sweep_rows
returns g c = c.check.ensures
