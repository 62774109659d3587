-- The digits of the first n words are written, and line feeds stand after them.
use Rattle.std.proofs.Common.{◌≡◌, length}
use Rattle.sweep.proofs.LineLaws.{written}
use Rattle.sweep.proofs.line.line_of.Given as goal

abbrev pub invariant-loop-n : goal.invariant-loop-n
invariant-loop-n l = (length l.digit-items ≡ 104) × (l.digit-items ≡ written l.frame l.n)
