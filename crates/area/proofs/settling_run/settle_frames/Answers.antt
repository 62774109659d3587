use Rattle.std.specs.Prelude.{◌≡◌, ◌<◌, refl}
use native.Mathlib.Omega.{arith}
use borrow.Author.Tests.{not-true, not-false}
use Rattle.refusals.proofs.Refused.{not_0}
use Rattle.area.specs.Outcome.{refused_of}
use Rattle.area.proofs.SettlingRunLaws.{refused, rests, turns, finishes_at_limit}
-- `settle_frames` meets its contract.
use Rattle.area.proofs.settling_run.settle_frames.Goals as goal

pub returns-in-Err : goal.returns-in-Err
unfolding refused_of
returns-in-Err c =
    let loop = c.loop-used in
    let h : loop.used < c.args.limit = omega arith in
    refused _ _ _ _ _ _ _ _ c.in-Err.ensures h loop.invariant (not_0 c.in-Err.refusal)

pub returns-then-not-accepted : goal.returns-then-not-accepted
returns-then-not-accepted c =
    let loop = c.loop-used in
    let h : loop.used < c.args.limit = omega arith in
    rests _ _ _ _ _ _ _ _ c.in-Ok.ensures h loop.invariant refl (not-true _ c.if-not-accepted.true)

pub loop-used-preserved : goal.loop-used-preserved
loop-used-preserved c =
    let loop = c.loop-used in
    let h : loop.used < c.args.limit = omega arith in
    turns _ _ _ _ _ _ _ _ c.in-Ok.ensures h loop.invariant refl (not-false _ c.if-not-accepted.false) _ c.advance.ensures

pub returns : goal.returns
returns c =
    let loop = c.loop-used in
    let e : loop.used ≡ c.args.limit = omega arith in
    finishes_at_limit _ _ _ _ _ _ _ e loop.invariant
