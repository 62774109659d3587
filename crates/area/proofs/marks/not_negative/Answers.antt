use Rattle.std.proofs.Common.{◌∙◌}
use Rattle.std.proofs.lemmas.Result.{err_from_is_err_and}
use Rattle.area.proofs.MarkLaws.{fits_limit}
use Rattle.area.proofs.marks.not_negative.Goals as goal

pub returns-then-fits : goal.returns-then-fits
returns-then-fits c = let fits = fits_limit c.args.word c.if-fits.true-raw in rw (fits.0, fits.1)

pub returns-in_err-limited : goal.returns-in_err-limited
returns-in_err-limited c =
    let p = err_from_is_err_and c.from_residual.result c.from_residual.ensures.1 in
    rw (p.1, p.2, c.in_err-limited.ensures.0, c.in_err-limited.ensures.1)

pub returns : goal.returns
returns c = c.refuse.ensures ∙ rw (c.is_word_negative.ensures, c.in_ok-limited.ensures)
