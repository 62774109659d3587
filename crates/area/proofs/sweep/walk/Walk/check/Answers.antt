use Rattle.std.proofs.Common.{ap, ◌∙◌}
use Rattle.area.specs.Marks.{keeping}
use Rattle.area.proofs.SweepLaws.{word_shows}
use Rattle.area.proofs.sweep.walk.Walk.check.Goals as goal

pub returns : goal.returns
returns g c = c.keep.ensures ∙ ap (keeping c.args.self c.args.n) (word_shows _ _ _ _ _ (g.met.W.Word.alone) c.check.ensures c.word-word.ensures)
