use Rattle.area.specs.Layout.{row_no, row_at, rows, layout}
use Rattle.area.specs.Marks.{sweep_from, sweep_rows, walk_from}
use Rattle.area.proofs.WalkLaws.{part}
use Rattle.area.proofs.sweep.settings.Goals as goal

pub returns : goal.returns
unfolding walk_from sweep_from sweep_rows row_no row_at rows layout
returns c =
    let w = c.args.walk in
    let f2 = part w _ _ 1 2 2 c.take.ensures c.take-2.ensures in
    let f3 = part w _ _ 1 4 2 f2 c.take-3.ensures in
    let f4 = part w _ _ 1 6 2 f3 c.take-4.ensures in
    let f5 = part w _ _ 1 8 1 f4 c.take-5.ensures in
    let f6 = part w _ _ 1 9 5 f5 c.take-6.ensures in
    let f7 = part w _ _ 1 14 2 f6 c.take-7.ensures in
    let f8 = part w _ _ 1 16 2 f7 c.take-8.ensures in
    let f9 = part w _ _ 1 18 1 f8 c.take-9.ensures in
    let f10 = part w _ _ 1 19 1 f9 c.take-10.ensures in
    let f11 = part w _ _ 1 20 1 f10 c.take-11.ensures in
    let f12 = part w _ _ 1 21 2 f11 c.take-12.ensures in
    let f13 = part w _ _ 1 23 2 f12 c.take-13.ensures in
    part w _ _ 1 25 1 f13 c.take-14.ensures
