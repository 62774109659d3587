use mathlib.Core.Path.{◌≡◌}
use native.Mathlib.Omega.{arith}
use Rattle.drawer.specs.Calls.{forget_on}
use Rattle.drawer.proofs.AnswerLaws.{given}
use Rattle.drawer.proofs.CaseLaws.{forget_some}
use Rattle.drawer.proofs.StayLaws.{with_forgotten}
use Rattle.drawer.proofs.forgetting.forget.Goals as goal

pub returns : goal.returns
returns c =
    let s = c.args.drawer.now in
    let held = c.in_ok-of.ensures.drawer in
    let found = rw held.0 at (given c.find.result c.ok_or.result _ c.in_ok-place.place _ c.ok_or.ensures.value c.in_ok-place.was c.find.ensures.found) in
    let answers : record { refusal = 0; drawer = c.free_record.new.drawer } ≡ forget_on s c.args.id =
    rw (forget_some s c.args.id held.1 (λ z. omega (arith, found.0, found.2)), c.free_record.ensures, found.0, found.1) in
    record { answers = answers; kept = with_forgotten s c.free_record.new.drawer c.args.id answers }
