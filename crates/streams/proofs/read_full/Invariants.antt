-- `read_full` ends, since each turn reads some bytes, and what it filled is what it consumed.
use Rattle.std.proofs.Common.{◌≡◌, ◌-◌, ◌≤◌, length, take}
use Rattle.std.specs.Io.KnownBytes.{Consumes}
use Rattle.streams.proofs.read_full.Given as goal

abbrev pub invariant-loop-got : goal.invariant-loop-got
invariant-loop-got g l = (length l.buffer ≡ length l.initial.buffer) × (l.got ≤ length l.buffer) × Consumes (g.R.Read.remaining l.initial.input) (g.R.Read.remaining l.input) (take l.got l.buffer)

abbrev pub decreases-loop-got : goal.decreases-loop-got
decreases-loop-got g l = length l.buffer - l.got
