use Rattle.std.proofs.Common.{◌+◌, refl, arith}
use native.Mathlib.Nat.{add_assoc}
use Rattle.area.specs.Layout.{plain}
use Rattle.area.specs.Marks.{sweep_rows}
use Rattle.area.proofs.SweepLaws.{word_shows, end_shows}
use Rattle.area.proofs.sweep.field.RectField.sweep.Goals as goal

pub returns : goal.returns
unfolding sweep_rows
returns c =
    let s = c.args.walk.bytes in
    let n = c.args.n in
    let x = word_shows plain s n _ _ (refl, refl, refl) c.check.ensures c.word-x.ensures in
    let y = word_shows plain s (n + 1) _ _ (refl, refl, refl) c.check-2.ensures c.word-y.ensures in
    let end_x = end_shows s (n + 2) n _ _ _ (omega arith) c.check_end.ensures c.word-end_x.ensures c.word-x.ensures in
    let end_y = end_shows s (n + 3) (n + 1) _ _ _ (omega arith) c.check_end-2.ensures c.word-end_y.ensures c.word-y.ensures in
    rw (c.keep-4.ensures, c.keep-3.ensures, c.keep-2.ensures, c.keep.ensures, x, y, end_x, end_y) (simp add_assoc)
