use Rattle.area.specs.Layout.{row_no, row_at, rows, layout}
use Rattle.area.specs.Marks.{sweep_from, sweep_rows, walk_from}
use Rattle.area.proofs.WalkLaws.{part}
use Rattle.area.proofs.sweep.host.Goals as goal

pub returns : goal.returns
unfolding walk_from sweep_from sweep_rows row_no row_at rows layout
returns c =
    let w = c.args.walk in
    let f2 = part w _ _ 40 4 4 c.take.ensures c.take-2.ensures in
    let f3 = part w _ _ 40 8 2 f2 c.take-3.ensures in
    let f4 = part w _ _ 40 10 1 f3 c.take-4.ensures in
    let f5 = part w _ _ 40 11 1 f4 c.take-5.ensures in
    let f6 = part w _ _ 40 12 2 f5 c.take-6.ensures in
    let f7 = part w _ _ 40 14 3 f6 c.take-7.ensures in
    let f8 = part w _ _ 40 17 2 f7 c.take-8.ensures in
    let f9 = part w _ _ 40 19 2 f8 c.take-9.ensures in
    let f10 = part w _ _ 40 21 2 f9 c.take-10.ensures in
    let f11 = part w _ _ 40 23 1 f10 c.take-11.ensures in
    let f12 = part w _ _ 40 24 2 f11 c.take-12.ensures in
    let f13 = part w _ _ 40 26 2 f12 c.take-13.ensures in
    let f14 = part w _ _ 40 28 2 f13 c.take-14.ensures in
    let f15 = part w _ _ 40 30 2 f14 c.take-15.ensures in
    let f16 = part w _ _ 40 32 5 f15 c.take-16.ensures in
    part w _ _ 40 37 5 f16 c.take-17.ensures
