use Rattle.std.proofs.Common.{◌∙◌}
use Rattle.area.specs.Frame.{word_no}
use Rattle.area.proofs.sweep.walk.Walk.word.Goals as goal

pub returns : goal.returns
unfolding word_no
returns c = c.word_in.ensures ∙ rw (← c.self.view_is)
