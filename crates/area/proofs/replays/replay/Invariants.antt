use Rattle.std.specs.Iterator.Adapters.{enumerate_source, enumerate_count}
use Rattle.area.specs.Replay.{calls_of}
use Rattle.area.proofs.ReplayLaws.{Upto}
-- `replay` meets its contract: the invariant is `Upto`, of the calls that the iterator has left.
use Rattle.area.proofs.replays.replay.Given as goal

abbrev pub invariant-loop-i : goal.invariant-loop-i
invariant-loop-i l =
    (goal.iterator-loop-i).can_next l.i-iterator × (goal.iterator-loop-i).is_finite l.i-iterator
    × Upto (calls_of l.fn.calls) l.initial.refusals l.state (calls_of (enumerate_source l.i-iterator).0.now) (enumerate_count l.i-iterator) l.refusals
