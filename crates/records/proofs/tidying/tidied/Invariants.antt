use lib.ListN.{drop}
use Rattle.words.specs.Words.{word_at}
use Rattle.records.proofs.OptionLaws.{IsLeft}
use Rattle.records.proofs.tidying.tidied.Given as goal

abbrev pub invariant-loop-start : goal.invariant-loop-start
invariant-loop-start l = IsLeft (word_at l.s) l.at (drop l.start-index l.start-items) l.words
