use mathlib.Core.Path.{◌≡◌, ap, ◌∙◌}
use native.Mathlib.Omega.{arith}
use lib.ListN.{length}
use borrow.Author.Rules.{rules}
use Rattle.records.proofs.TidiedLaws.{tidied_length}
use Rattle.drawer.proofs.AnswerLaws.{given}
use Rattle.drawer.proofs.CaseLaws.{load_some, whole_put}
use Rattle.drawer.proofs.loading.load.Goals as goal

pub returns-clause-answers : goal.returns-clause-answers
returns-clause-answers c =
    let s = c.args.drawer.now in
    let held = c.in_ok-of.ensures.drawer in
    let found = rw held.0 at (given c.find.result c.ok_or.result _ c.in_ok-place.place _ c.ok_or.ensures.value c.in_ok-place.was c.find.ensures.found) in
    let ws = c.tidied-words.result in
    let long : length c.args.state.now ≡ 156 = search rules in
    let many : length ws ≡ 39 = ap length c.tidied-words.ensures.answers ∙ tidied_length _ _ in
    rw (
      load_some s c.args.id c.args.state.now held.1 (λ z. omega (arith, found.0, found.2)),
      c.put.ensures,
      whole_put ws c.args.state.now (omega (arith, long, many)),
      c.tidied-words.ensures.answers,
      found.0,
    )
