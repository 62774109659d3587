use mathlib.Core.Path.{sym, subst}
use Rattle.numbers.specs.Table.{table_of}
use Rattle.area.specs.SettlingRun.{RunHolds}
use Rattle.area.proofs.RunLaws.{run_holds}
use Rattle.area.proofs.settling_run.settle_by.Goals as goal

pub returns-clause-holds : goal.returns-clause-holds
returns-clause-holds c =
    let a = c.args in
    subst (RunHolds (table_of a.table.now) a.state a.bytes.now a.increment a.limit) (sym c.run.ensures)
    (run_holds (table_of a.table.now) a.state a.bytes.now a.increment a.limit)
