use Rattle.area.specs.Checks.{shows2, shows3, shows4, shows5}
use Rattle.area.specs.Marks.{shown_of}
use Rattle.numbers.proofs.TestLaws.{or_false}
use Rattle.area.proofs.marks.SizeWord.check.Goals as goal

pub returns : goal.returns
unfolding shown_of shows2 shows3 shows4 shows5
returns c = simp or_false c.not_negative.ensures
