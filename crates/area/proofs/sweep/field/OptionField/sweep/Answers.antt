use Rattle.std.proofs.Common.{◌+◌, refl, sym, ap, ◌∙◌, arith}
use borrow.Author.Tests.{eq-eqb, ne_eqb}
use Rattle.area.specs.Frame.{word_no}
use Rattle.area.specs.Layout.{flag}
use Rattle.area.specs.Marks.{with_mark}
use Rattle.area.proofs.SweepLaws.{word_shows, with_on, with_off, heeded_outside}
use Rattle.area.proofs.sweep.field.OptionField.sweep.Goals as goal

pub returns-then-is_on : goal.returns-then-is_on
returns-then-is_on g c =
    let w = c.args.walk in
    let n = c.args.n in
    let rows = g.F.Field.rows (n + 1) in
    let on = eq-eqb (word_no w.bytes n) 1 (sym c.word-flag.ensures ∙ c.if-is_on.true) in
    rw (c.sweep.ensures, c.keep-walk.ensures, word_shows flag w.bytes n _ _ (refl, refl, refl) c.check.ensures c.word-flag.ensures)
    (ap (with_mark w) (with_on w.bytes w.last n rows w.walk.mark on (heeded_outside w.bytes rows (g.met.F.Optional.outside (n + 1)))))

pub returns : goal.returns
returns g c =
    let w = c.args.walk in
    let n = c.args.n in
    let off = ne_eqb (word_no w.bytes n) 1 (λ e. c.if-is_on.false (c.word-flag.ensures ∙ e)) in
    rw (c.keep-walk.ensures, word_shows flag w.bytes n _ _ (refl, refl, refl) c.check.ensures c.word-flag.ensures)
    (ap (with_mark w) (with_off w.bytes w.last n (g.F.Field.rows (n + 1)) w.walk.mark (omega arith) off))
