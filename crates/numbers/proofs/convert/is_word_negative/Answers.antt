use Rattle.std.proofs.Common.{arith}
use Rattle.numbers.proofs.NegativeLaws.{word_below_zero}
use Rattle.numbers.proofs.convert.is_word_negative.Goals as goal

pub returns : goal.returns
returns c = word_below_zero c.args.word (omega (arith, c))
