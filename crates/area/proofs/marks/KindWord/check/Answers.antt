use Rattle.area.specs.Checks.{shows2, shows3, shows4, shows5}
use Rattle.area.specs.Marks.{shown_of}
use Rattle.area.proofs.marks.KindWord.check.Goals as goal

pub returns : goal.returns
unfolding shown_of shows2 shows3 shows4 shows5
returns g c = c.refuse.ensures
