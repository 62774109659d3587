use Rattle.std.specs.Prelude.{◌≡◌, ℕ, ◌<◌, List, ◌∷◌, length, take, drop}
use native.Mathlib.Omega.{arith}
use mathlib.Core.Path.{sym, ap, ◌∙◌}
use Rattle.std.proofs.lemmas.List.{take_min, drop_min}
use Rattle.area.specs.Replay.{call_in, calls_of}
use Rattle.area.proofs.ReplayLaws.{first_call, no_calls}
-- `Calls::next` meets its contract.
use Rattle.area.proofs.replays.CallsIterator.next.Goals as goal

pub returns-in_err-by-clause-steps : goal.returns-in_err-by-clause-steps
returns-in_err-by-clause-steps c =
    let none = no_calls c.args.self.now.0.now c.in_err-by.ensures.cases in
    rw c.from_residual.ensures (none, none)

pub returns-clause-steps : goal.returns-clause-steps
returns-clause-steps c =
    let after : List ℕ = c.in_ok-by.after.now in
    let frame : c.split_at.result.0.now ≡ take 416 after =
    c.split_at.ensures.front ∙ ap (λ (n : ℕ). take n after) c.min.ensures ∙ take_min 416 after in
    let rest : c.split_at.result.1.now ≡ drop 416 after =
    c.split_at.ensures.back ∙ ap (λ (n : ℕ). drop n after) c.min.ensures ∙ drop_min 416 after in
    ap calls_of c.in_ok-by.ensures.cases.0 ∙ first_call c.in_ok-by.by.now after
    ∙ (λ i. call_in (sym c.from.ensures i) (sym frame i) ∷ calls_of (sym rest i))

pub returns-clause-goes : goal.returns-clause-goes
returns-clause-goes c =
    let fewer : length (calls_of c.split_at.result.1.now) < length (calls_of c.args.self.now.0.now) =
    omega (arith, ap length (returns-clause-steps c)) in
    record { on = λ _. (tt, tt, fewer); keeps = tt; rests = λ _. tt }
