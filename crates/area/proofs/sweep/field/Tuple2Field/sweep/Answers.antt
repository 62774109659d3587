use Rattle.area.proofs.SweepLaws.{keeping-append}
use Rattle.area.proofs.sweep.field.Tuple2Field.sweep.Goals as goal

pub returns : goal.returns
returns g c =
    let w = c.args.walk in
    let n = c.args.n in
    rw (c.sweep-2.ensures, c.sweep.ensures, c.words.ensures) (keeping-append w n _ (g.F.Field.rows n) _ (g.met.F.Field.as_many n))
