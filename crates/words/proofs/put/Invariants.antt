-- After i turns the first i words are written.
use Rattle.std.proofs.Common.{◌≡◌, take}
use Rattle.words.specs.Words.{put_at}
use Rattle.words.proofs.put.Given as goal

abbrev pub invariant-loop-i : goal.invariant-loop-i
invariant-loop-i l = l.bytes ≡ put_at l.at (take l.i l.words) l.fn.bytes
