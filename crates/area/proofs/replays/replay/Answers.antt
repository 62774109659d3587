use Rattle.std.proofs.Common.{rules}
use Rattle.std.specs.Prelude.{◌≡◌, ℕ, ◌<◌, ◌+◌, ◌^◌, List, length, set}
use native.Mathlib.Omega.{arith}
use mathlib.Core.Path.{ap, ◌∙◌}
use mathlib.Core.Logic.{inl}
use Rattle.std.specs.declared.iter.Enumerate.{Enumerate}
use Rattle.std.specs.Iterator.Adapters.{enumerate_source, enumerate_count}
use Rattle.std.proofs.lemmas.List.{set_past}
use Rattle.refusals.specs.Refusal.{number_in}
use Rattle.numbers.specs.Table.{table_of}
use Rattle.area.specs.Replay.{calls_of}
use Rattle.area.proofs.ReplayLaws.{few_calls, begins, turns, finishes}
use Rattle.area.specs.declared.replays.Calls.{Calls}
-- `replay` meets its contract: the invariant is `Upto`, of the calls that the iterator has left.
use Rattle.area.proofs.replays.replay.Goals as goal

pub loop-i-init : goal.loop-i-init
loop-i-init c =
    let calls : List ℕ = c.args.calls.now in
    let it = c.into_iter-i-iterator.ensures.into_iter_gives in
    let none = ap enumerate_count it ∙ c.enumerate-i-items.ensures.count in
    let all = ap (λ (s : Enumerate Calls). calls_of (enumerate_source s).0.now) it ∙ ap (λ (s : Calls). calls_of s.0.now) c.enumerate-i-items.ensures.source in
    let fits : enumerate_count c.into_iter-i-iterator.result + length (calls_of (enumerate_source c.into_iter-i-iterator.result).0.now) < 2 ^ 64 =
    omega (arith, none, ap length all, few_calls calls) in
    ((tt, tt, inl fits), tt, begins (calls_of calls) _ _ _ _ c.default-state.ensures.starts all none)

pub loop-i-preserved : goal.loop-i-preserved
unfolding table_of
loop-i-preserved c =
    let it = c.in-Some.ensures.steps in
    let goes = c.in-Some.ensures.goes.on tt in
    let now : List ℕ = c.loop-i.refusals in
    let told : ℕ = number_in c.call_by-answer.result in
    let wrote : c.if-i-refusals.refusals ≡ set now c.in-Some.i told = search (rules, set_past) in (
      goes.0,
      goes.1,
      turns _ _ _ c.in-Some.form c.in-Some.frame.now _ _ _ _ c.call_by-answer.result _ _ _ it.0 c.call_by-answer.ensures c.state_after-state.ensures
          (wrote ∙ ap (λ (k : ℕ). set now k told) it.1) it.2 c.loop-i.invariant.2,
    )

pub returns : goal.returns
returns c = finishes _ _ _ _ _ _ c.in-None.ensures.steps.0.0 c.loop-i.invariant.2
