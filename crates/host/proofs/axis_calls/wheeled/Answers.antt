use Rattle.std.proofs.Common.{ℕ, ◌<◌, get_or, arith, refl, ◌∙◌}
use Rattle.host.proofs.TypedLaws.{wheeled_is_held}
use Rattle.host.proofs.WheelLaws.{flag_byte, word_small, on_holds}
use Rattle.host.proofs.axis_calls.wheeled.Goals as goal

pub returns-clause-holds : goal.returns-clause-holds
returns-clause-holds c =
    let call = c.args.call.now in
    let bytes : (i : ℕ) → get_or call i 0 < 256 = λ i. omega (arith, c.fits-call i) in
    let w = c.in_ok-wheeled.wheeled in
    let typed = rw c.in_ok-wheeled.was at c.wheel.type_inv in
    let held = wheeled_is_held w _ typed.1.1.1.1.0 in
    let same = rw (c.at.ensures, c.at-2.ensures, c.at-3.ensures, c.at-4.ensures, c.at-5.ensures) at c.in_ok-wheeled.ensures.answers in
    rw (c.bits.ensures, c.bits-2.ensures, c.from.ensures ∙ flag_byte w.bounced_this_momentum, c.from-2.ensures ∙ flag_byte w.consumed)
    (on_holds call (record { refusal = 0; value = w }) same refl held.0 held.1 (word_small call bytes 7) (word_small call bytes 8))
