-- The words so far are read.
use Rattle.std.proofs.Common.{◌≡◌, length, take}
use Rattle.std.specs.Int.{w32, to_le_bytes}
use Rattle.std.specs.List.{flat_map}
use Rattle.std.specs.Io.KnownBytes.{Consumes}
use Rattle.streams.proofs.read.read_words.Given as goal

abbrev pub invariant-loop-word : goal.invariant-loop-word
invariant-loop-word g l =
    (length l.word-items ≡ length l.initial.word-items) × Consumes (g.R.Read.remaining l.initial.input) (g.R.Read.remaining l.input) (flat_map (to_le_bytes w32) (take l.word-index l.word-items))
