use Rattle.std.proofs.Common.{◌∙◌}
use Rattle.std.proofs.lemmas.Result.{err_from_is_err_and}
use Rattle.area.specs.Checks.{shows2, shows3, shows4, shows5}
use Rattle.area.specs.Marks.{shown_of}
use Rattle.area.proofs.marks.FactorWord.check.Goals as goal

pub returns-in_err-limited : goal.returns-in_err-limited
unfolding shown_of shows2 shows3 shows4 shows5
returns-in_err-limited c =
    let p = err_from_is_err_and c.from_residual.result c.from_residual.ensures.1 in
    rw (p.1, p.2, c.in_err-limited.ensures.0, c.in_err-limited.ensures.1)

pub returns : goal.returns
unfolding shown_of shows2 shows3 shows4 shows5
returns c = c.refuse.ensures ∙ rw (c.of_bits-x.ensures, c.in_ok-limited.ensures)
