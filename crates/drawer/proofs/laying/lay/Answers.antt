use mathlib.Core.Path.{◌≡◌}
use lib.ListN.{length}
use Rattle.drawer.specs.Calls.{lay_on}
use Rattle.drawer.proofs.AnswerLaws.{given}
use Rattle.drawer.proofs.SizeLaws.{whole_parts}
use Rattle.drawer.proofs.CaseLaws.{laid_whole}
use Rattle.drawer.proofs.ListLaws.{with_lists}
use Rattle.drawer.proofs.laying.lay.Goals as goal

pub fill-requires : goal.fill-requires
fill-requires c =
    let q = given c.count_of.result c.ok_or.result _ c.in_ok-count.count _ c.ok_or.ensures.value (c.in_ok-count.was) c.count_of.ensures.whole in
    rw q.0 (whole_parts 42 (length c.args.drawer.now) q.1)

pub returns : goal.returns
returns c =
    let s = c.args.drawer.now in
    let q = given c.count_of.result c.ok_or.result _ c.in_ok-count.count _ c.ok_or.ensures.value (c.in_ok-count.was) c.count_of.ensures.whole in
    let answers : record { refusal = 0; drawer = c.fill.new.drawer } ≡ lay_on s = rw (laid_whole s q.1, c.fill.ensures, q.0) in
    let left = with_lists s c.fill.new.drawer answers in
    record { answers = answers; kept = left.0; lists = left.1; order = left.2 }
