use Rattle.std.proofs.Common.{sym, ◌∙◌, arith}
use Rattle.std.proofs.lemmas.Result.{err_from_is_err_and}
use borrow.Author.Tests.{eqb-true}
use Rattle.area.specs.Checks.{shows2, shows3, shows4, shows5}
use Rattle.area.specs.Marks.{shown_of}
use Rattle.area.proofs.MarkLaws.{finite, infinite_speed}
use Rattle.area.proofs.marks.PointsPerSecondWord.check.Goals as goal

pub returns-then-is_infinite : goal.returns-then-is_infinite
returns-then-is_infinite c = rw (eqb-true c.args.word 0x7f80_0000 (sym c.is_infinite.ensures ∙ c.if-is_infinite.true), infinite_speed)

pub returns-in_err-limited : goal.returns-in_err-limited
unfolding shown_of shows2 shows3 shows4 shows5
returns-in_err-limited c =
    let p = err_from_is_err_and c.from_residual.result c.from_residual.ensures.1 in
    let is_finite = finite c.args.word (omega arith) (sym c.is_infinite.ensures ∙ c.if-is_infinite.false) in
    rw (p.1, p.2, c.in_err-limited.ensures.0, c.in_err-limited.ensures.1, is_finite)

pub returns : goal.returns
unfolding shown_of shows2 shows3 shows4 shows5
returns c = c.refuse.ensures ∙ rw (c.of_bits-x.ensures, c.in_ok-limited.ensures)
