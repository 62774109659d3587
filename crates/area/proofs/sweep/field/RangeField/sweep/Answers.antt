use Rattle.std.proofs.Common.{◌+◌, refl, arith}
use Rattle.area.specs.Layout.{plain}
use Rattle.area.specs.Marks.{sweep_rows}
use Rattle.area.proofs.SweepLaws.{word_shows, end_shows}
use Rattle.area.proofs.sweep.field.RangeField.sweep.Goals as goal

pub returns : goal.returns
unfolding sweep_rows
returns c =
    let s = c.args.walk.bytes in
    let n = c.args.n in
    let start = word_shows plain s n _ _ (refl, refl, refl) c.check.ensures c.word-start.ensures in
    let end = end_shows s (n + 1) n _ _ _ (omega arith) c.check_end.ensures c.word-end.ensures c.word-start.ensures in
    rw (c.keep-2.ensures, c.keep.ensures, start, end)
