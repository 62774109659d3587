use mathlib.Core.Path.{◌≡◌, ap, sym, ◌∙◌}
use mathlib.Core.Bool.{false}
use borrow.Author.Rules.{rules}
use Rattle.std.proofs.lemmas.Result.{err_from_is_err_and}
use Rattle.drawer.specs.declared.layout.Records.{Records}
use Rattle.drawer.specs.Drawer.{is_drawer}
use Rattle.drawer.specs.Calls.{width}
use Rattle.drawer.proofs.AnswerLaws.{missed, filtered}
use Rattle.drawer.proofs.check.Drawer.of.Goals as goal

pub returns-in_err-records-clause-refused : goal.returns-in_err-records-clause-refused
unfolding is_drawer
returns-in_err-records-clause-refused c =
    let s = c.args.bytes.now in
    let p = err_from_is_err_and c.from_residual.result c.from_residual.ensures.1 in
    let none = filtered c.of.result c.filter.result (is_drawer width s ≡ false) _ c.filter.ensures c.of.ensures.part (λ part. rw part) (λ x is told. rejected x (rw is at c.of.ensures.whole).0 (search rules)) in
    let m = missed c.filter.result c.ok_or.result _ c.in_err-records.field-0.0 _ c.ok_or.ensures.value c.in_err-records.was none in
    rw (p.1, p.2) m
  where
    rejected : (x : Records 42) → x.bytes.now ≡ c.args.bytes.now → false ≡ is_drawer width x.bytes.now → is_drawer width c.args.bytes.now ≡ false
    rejected x same off = ap (is_drawer width) (sym same) ∙ sym off
