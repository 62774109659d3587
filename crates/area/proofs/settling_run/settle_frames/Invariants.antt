use Rattle.numbers.specs.Table.{table_of}
use Rattle.area.specs.SettlingRun.{settle_from}
use Rattle.area.proofs.SettlingRunLaws.{Upto}
-- The invariant of `settle_frames`: what is left of the run leads to the answer of the whole.
use Rattle.area.proofs.settling_run.settle_frames.Given as goal

abbrev pub invariant-loop-used : goal.invariant-loop-used
invariant-loop-used l = Upto (table_of l.table) l.increment l.limit (settle_from (table_of l.table) l.increment l.limit l.initial.state l.bytes) l.used l.state l.frame
