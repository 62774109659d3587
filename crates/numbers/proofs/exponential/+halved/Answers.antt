use Rattle.std.proofs.Common.{◌∙◌}
use Rattle.numbers.proofs.HalvedLaws.{halves, rests}
use Rattle.numbers.proofs.exponential.+halved.Goals as goal

pub returns-then-left-x : goal.returns-then-left-x
returns-then-left-x t c = c.powi2.ensures ∙ halves _ _ _ _ c.if-left-x.true c.halved.ensures

pub returns-else-left-x : goal.returns-else-left-x
returns-else-left-x t c = c.by_table.ensures ∙ rests _ _ _ c.if-left-x.false
