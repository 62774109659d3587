use Rattle.area.specs.Layout.{row_no, row_at, rows, layout}
use Rattle.area.specs.Marks.{sweep_from, sweep_rows, walk_from}
use Rattle.area.proofs.WalkLaws.{part}
use Rattle.area.proofs.sweep.style.Goals as goal

pub returns : goal.returns
unfolding walk_from sweep_from sweep_rows row_no row_at rows layout
returns c =
    let w = c.args.walk in
    let f2 = part w _ _ 27 1 2 c.take.ensures c.take-2.ensures in
    let f3 = part w _ _ 27 3 2 f2 c.take-3.ensures in
    let f4 = part w _ _ 27 5 2 f3 c.take-4.ensures in
    let f5 = part w _ _ 27 7 2 f4 c.take-5.ensures in
    let f6 = part w _ _ 27 9 1 f5 c.take-6.ensures in
    let f7 = part w _ _ 27 10 1 f6 c.take-7.ensures in
    let f8 = part w _ _ 27 11 1 f7 c.take-8.ensures in
    part w _ _ 27 12 1 f8 c.take-9.ensures
