use Rattle.host.proofs.TableLaws.{Upto}
-- The invariant is `Upto`: what is left to write leads to the whole table.
use Rattle.host.proofs.table_calls.strakobud_table_t.Given as goal

abbrev pub invariant-loop-k : goal.invariant-loop-k
invariant-loop-k l = Upto l.initial.table l.entry l.k l.table
