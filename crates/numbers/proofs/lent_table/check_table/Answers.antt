use Rattle.std.proofs.Common.{◌≡◌, rules}
use Rattle.numbers.specs.Table.{load_of}
use Rattle.numbers.proofs.LoadLaws.{loads}
use Rattle.numbers.proofs.lent_table.check_table.Goals as goal

pub returns-then-not-is_ordered-clause-loads : goal.returns-then-not-is_ordered-clause-loads
unfolding load_of
returns-then-not-is_ordered-clause-loads c =
    let e : 11 ≡ load_of c.args.bytes.now = search rules in
    loads c.args.bytes.now 11 e

pub returns-clause-loads : goal.returns-clause-loads
unfolding load_of
returns-clause-loads c =
    let e : 0 ≡ load_of c.args.bytes.now = search rules in
    loads c.args.bytes.now 0 e
