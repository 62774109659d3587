use Rattle.std.proofs.Common.{◌≤◌, arith}
use borrow.Author.Rules.{rules}
use Rattle.host.proofs.TableLaws.{begins, entry_small, turns, finishes, so_serves}
use Rattle.host.proofs.table_calls.strakobud_table_t.Goals as goal

pub loop-k-init : goal.loop-k-init
loop-k-init c = begins _

pub overflow_mul-entry : goal.overflow_mul-entry
overflow_mul-entry c =
    let l = entry_small (omega arith) c.loop-k.invariant in
    search (rules, l)

pub loop-k-preserved : goal.loop-k-preserved
loop-k-preserved c = turns _ _ _ _ _ (rw (← c.long_words.ensures) c.put.ensures) (omega arith) c.loop-k.invariant

pub returns : goal.returns
returns c =
    let h : 1025 ≤ c.loop-k.k = omega arith in
    let (answers, serves) = so_serves _ (finishes _ _ _ _ c.told-table h c.loop-k.invariant) in
    record { answers = answers; serves = serves }
