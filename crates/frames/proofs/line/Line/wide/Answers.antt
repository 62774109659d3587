use Rattle.frames.proofs.LineLaws.{wide_line_is}
use Rattle.frames.proofs.line.Line.wide.Goals as goal

pub returns : goal.returns
returns c = wide_line_is _ _ _ _ _ _ _ _ _ _ _ _ c.digit.ensures c.digit-2.ensures c.digits-a.ensures c.digits-b.ensures c.digits-c.ensures c.digits-d.ensures c.digit-3.ensures c.digit-4.ensures
