use Rattle.std.proofs.Common.{sym, ◌∙◌}
use Rattle.numbers.proofs.HalvedLaws.{from_80}
use Rattle.numbers.proofs.DecayLaws.{bounded}
use Rattle.numbers.proofs.exponential.exp_by.Goals as goal

pub returns-else-x-clause-bounded : goal.returns-else-x-clause-bounded
returns-else-x-clause-bounded c = bounded c.args.table.now c.args.x c.halved.result (c.halved.ensures ∙ sym (from_80 _ _ c.if-x.false))
