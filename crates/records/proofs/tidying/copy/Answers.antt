use mathlib.Core.Path.{sym, ◌∙◌}
use native.Mathlib.Omega.{arith}
use lib.ListN.{length}
use lib.Seq.{ext_get_or}
use Rattle.words.specs.Words.{word_at}
use Rattle.records.specs.Tidied.{words_from}
use Rattle.records.proofs.ClearedLaws.{from_length, from_get}
use Rattle.records.proofs.tidying.copy.Goals as goal

pub returns : goal.returns
returns c =
    let w = word_at c.args.s.now in
    let n = length c.args.words.now in
    ext_get_or 0 c.loop-i.words (words_from w c.args.at n) (c.loop-i.auto.words ∙ sym (from_length w c.args.at n)) (λ j below.
    c.loop-i.invariant j (omega arith) ∙ sym (from_get w c.args.at n j (omega arith)))
