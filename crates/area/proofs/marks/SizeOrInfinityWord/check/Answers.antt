use Rattle.std.proofs.Common.{sym, ◌∙◌, arith}
use borrow.Author.Tests.{eqb-true}
use Rattle.area.proofs.MarkLaws.{infinite_size, finite_size}
use Rattle.area.proofs.marks.SizeOrInfinityWord.check.Goals as goal

pub returns-then-is_infinite : goal.returns-then-is_infinite
returns-then-is_infinite c = rw (eqb-true c.args.word 0x7f80_0000 (sym c.is_infinite.ensures ∙ c.if-is_infinite.true), infinite_size)

pub returns : goal.returns
returns c = c.check.ensures ∙ sym (finite_size c.args.word (omega arith) (sym c.is_infinite.ensures ∙ c.if-is_infinite.false))
