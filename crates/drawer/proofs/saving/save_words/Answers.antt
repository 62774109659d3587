use mathlib.Core.Path.{◌≡◌}
use Prim.Native.Nat.{ℕ, ◌<◌}
use native.Mathlib.Omega.{arith}
use lib.ListN.{length, get_or}
use borrow.Author.Rules.{rules}
use Rattle.drawer.specs.Calls.{put_on}
use Rattle.drawer.proofs.AnswerLaws.{given}
use Rattle.drawer.proofs.CaseLaws.{put_new, put_over}
use Rattle.drawer.proofs.StayLaws.{with_put}
use Rattle.drawer.proofs.saving.save_words.Goals as goal

pub returns-in-Some : goal.returns-in-Some
returns-in-Some c =
    let s = c.args.drawer.now in
    let ws = c.args.words.now in
    let held = c.in_ok-held.ensures.drawer in
    let found = rw held.0 at c.in-Some.ensures.found in
    let answers : record { refusal = 0; drawer = c.put.new.bytes } ≡ put_on s c.args.id ws =
    rw (put_over s c.args.id ws held.1 (λ z. omega (arith, found.0, found.2)), c.put.ensures, found.0) in
    let long : length ws ≡ 39 = search rules in
    let small : (i : ℕ) → get_or ws i 0 < 4294967296 = λ i. search rules in
    record { answers = answers; kept = with_put s c.put.new.bytes c.args.id ws (omega arith) long small c.requires answers }

pub returns : goal.returns
returns c =
    let s = c.args.drawer.now in
    let ws = c.args.words.now in
    let held = c.in_ok-held.ensures.drawer in
    let absent = rw held.0 at c.in_default.ensures.absent in
    let found = rw held.0 at (given c.vacancy.result c.ok_or.result _ c.in_ok-place.place _ c.ok_or.ensures.value c.in_ok-place.was c.vacancy.ensures.found) in
    let answers : record { refusal = 0; drawer = c.put_new.new.drawer } ≡ put_on s c.args.id ws =
    rw (put_new s c.args.id ws held.1 absent (λ z. omega (arith, found.0, found.2)), c.put_new.ensures, found.0, found.1) in
    let long : length ws ≡ 39 = search rules in
    let small : (i : ℕ) → get_or ws i 0 < 4294967296 = λ i. search rules in
    record { answers = answers; kept = with_put s c.put_new.new.drawer c.args.id ws (omega arith) long small c.requires answers }
