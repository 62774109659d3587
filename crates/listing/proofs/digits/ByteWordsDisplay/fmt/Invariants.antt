-- The words so far are written.
use Rattle.std.proofs.Common.{take, map}
use Rattle.std.specs.Int.{w32, from_le_bytes}
use Rattle.std.specs.Fmt.{HasWritten, IsPlainFormatter}
use Rattle.listing.specs.Digits.{digits_of_words}
use Rattle.listing.proofs.digits.ByteWordsDisplay.fmt.Given as goal

abbrev pub invariant-loop-bytes : goal.invariant-loop-bytes
invariant-loop-bytes g l =
    IsPlainFormatter l.initial.f → HasWritten g.W.Write.write_str_gives l.initial.f (digits_of_words (map (from_le_bytes w32) (take l.bytes-index l.words))) l.f
