use Rattle.area.specs.Layout.{row_no, row_at, rows, layout}
use Rattle.area.specs.Marks.{sweep_from, sweep_rows, walk_from}
use Rattle.area.proofs.WalkLaws.{part}
use Rattle.area.proofs.sweep.content.Goals as goal

pub returns : goal.returns
unfolding walk_from sweep_from sweep_rows row_no row_at rows layout
returns c =
    let w = c.args.walk in
    let f2 = part w _ _ 82 2 2 c.take.ensures c.take-2.ensures in
    let f3 = part w _ _ 82 4 2 f2 c.take-3.ensures in
    let f4 = part w _ _ 82 6 3 f3 c.take-4.ensures in
    let f5 = part w _ _ 82 9 7 f4 c.take-5.ensures in
    part w _ _ 82 16 7 f5 c.take-6.ensures
