-- The premises of `Run`'s constructors are the contracts of the four frame calls, of the two runs and of the two resets, as `rattle check` makes
-- them from the source: a contract that says anything else is refused here, and so is one that asks anything of its caller.
-- Assumes nothing.
use Rattle.std.specs.Prelude.{◌≡◌}
use mathlib.Core.Path.{refl}
use seplogic.Ra.Ura.{Ura}
use base.Logic.{SProp, sep, emp}
use contract.Lifetimes.{Lfts}
use contract.Monad.{Fun, fact}
use prog.Memory.{Memory}
use prog.Routine.{Routine}
use types.Logic.{Logic}
use denote.Triple.Entry.{Args}
use denote.Triple.Clauses.{AtExit}
use Rattle.numbers.specs.Table.{table_at, table_of}
use Rattle.area.specs.declared.state.State.{State}
use Rattle.std.specs.Prelude.{Result}
use Rattle.refusals.specs.declared.Refusal.{Refusal}
use Rattle.area.specs.declared.outcome.Accepted.{Accepted}
use Rattle.area.specs.declared.outcome.Outputs.{Outputs}
use Rattle.area.specs.declared.settling_run.SettlingRun.{SettlingRun}
use Rattle.area.specs.Outcome.{answer_in, lent_outcome_in}
use Rattle.area.specs.SettlingRun.{RunHolds, settled_in}
use Rattle.area.specs.Lists.{FrameSays, LentSays, SettleSays, ResetSays}
use Rattle.area.specs.contracts.call.frame_call as value
use Rattle.area.specs.contracts.call.frame_by as value_by
use Rattle.area.specs.contracts.lent.frame_lent as lent
use Rattle.area.specs.contracts.lent.frame_lent_by as lent_by
use Rattle.area.specs.contracts.settling_run.settle as settle
use Rattle.area.specs.contracts.settling_run.settle_by as settle_by
use Rattle.area.specs.contracts.clock.reset as reset
use Rattle.area.specs.contracts.clock.reset_lent as reset_lent

module _ {M : Type 1} {𝓤 : Ura M} (𝓛 : Logic 𝓤) (mem : Memory → SProp 𝓤) (run : Routine → Fun 𝓤) where
  -- `frame_call`, on the state a .0 and the slice a .1 .0
  pub value_says : (κs : Lfts 1) (a : Args value.signature κs) (r : Result Accepted Refusal) (e : AtExit value.ended κs)
      → (value.clauses 𝓛 mem run κs a).ensures tt r e ≡ fact 𝓤 (FrameSays table_at a.0 a.1.0.now (answer_in a.0 r))
  value_says κs a r e = refl

  pub value_asks : (κs : Lfts 1) (a : Args value.signature κs) → (value.clauses 𝓛 mem run κs a).requires tt ≡ emp 𝓤
  value_asks κs a = refl

  -- `frame_lent`, on the reference a .0 and the slice a .1 .0; the reference at exit is e.0
  pub lent_says : (κs : Lfts 2) (a : Args lent.signature κs) (r : Result Outputs Refusal) (e : AtExit lent.ended κs)
      → (lent.clauses 𝓛 mem run κs a).ensures tt r e ≡ fact 𝓤 (LentSays table_at a.0.now a.1.0.now (lent_outcome_in a.0.now r) e.0.now)
  lent_says κs a r e = refl

  pub lent_asks : (κs : Lfts 2) (a : Args lent.signature κs) → (lent.clauses 𝓛 mem run κs a).requires tt ≡ emp 𝓤
  lent_asks κs a = refl

  -- `frame_by`, on the state a .0, the slice a .1 .0 and the table a .1 .1 .0
  pub value_by_says : (κs : Lfts 2) (a : Args value_by.signature κs) (r : Result Accepted Refusal) (e : AtExit value_by.ended κs)
      → (value_by.clauses 𝓛 mem run κs a).ensures tt r e ≡ fact 𝓤 (FrameSays (table_of a.1.1.0.now) a.0 a.1.0.now (answer_in a.0 r))
  value_by_says κs a r e = refl

  pub value_by_asks : (κs : Lfts 2) (a : Args value_by.signature κs) → (value_by.clauses 𝓛 mem run κs a).requires tt ≡ emp 𝓤
  value_by_asks κs a = refl

  -- `frame_lent_by`, on the reference a .0, the slice a .1 .0 and the table a .1 .1 .0; the reference at exit is e.0
  pub lent_by_says : (κs : Lfts 3) (a : Args lent_by.signature κs) (r : Result Outputs Refusal) (e : AtExit lent_by.ended κs)
      → (lent_by.clauses 𝓛 mem run κs a).ensures tt r e
      ≡ fact 𝓤 (LentSays (table_of a.1.1.0.now) a.0.now a.1.0.now (lent_outcome_in a.0.now r) e.0.now)
  lent_by_says κs a r e = refl

  pub lent_by_asks : (κs : Lfts 3) (a : Args lent_by.signature κs) → (lent_by.clauses 𝓛 mem run κs a).requires tt ≡ emp 𝓤
  lent_by_asks κs a = refl

  -- `settle`, on the state a .0, the slice a .1 .0, the increment a .1 .1 .0 and the limit a .1 .1 .1 .0; with what holds of every run
  pub settle_says : (κs : Lfts 1) (a : Args settle.signature κs) (r : SettlingRun) (e : AtExit settle.ended κs)
      → (settle.clauses 𝓛 mem run κs a).ensures tt r e
      ≡ sep 𝓤 (fact 𝓤 (SettleSays table_at a.0 a.1.0.now a.1.1.0 a.1.1.1.0 (settled_in r)))
      (fact 𝓤 (RunHolds table_at a.0 a.1.0.now a.1.1.0 a.1.1.1.0 (settled_in r)))
  settle_says κs a r e = refl

  pub settle_asks : (κs : Lfts 1) (a : Args settle.signature κs) → (settle.clauses 𝓛 mem run κs a).requires tt ≡ emp 𝓤
  settle_asks κs a = refl

  -- `settle_by`, whose table is a.1.1.1.1.0
  pub settle_by_says : (κs : Lfts 2) (a : Args settle_by.signature κs) (r : SettlingRun) (e : AtExit settle_by.ended κs)
      → (settle_by.clauses 𝓛 mem run κs a).ensures tt r e
      ≡ sep 𝓤 (fact 𝓤 (SettleSays (table_of a.1.1.1.1.0.now) a.0 a.1.0.now a.1.1.0 a.1.1.1.0 (settled_in r)))
      (fact 𝓤 (RunHolds (table_of a.1.1.1.1.0.now) a.0 a.1.0.now a.1.1.0 a.1.1.1.0 (settled_in r)))
  settle_by_says κs a r e = refl

  pub settle_by_asks : (κs : Lfts 2) (a : Args settle_by.signature κs) → (settle_by.clauses 𝓛 mem run κs a).requires tt ≡ emp 𝓤
  settle_by_asks κs a = refl

  -- `reset`, on the state a .0
  pub reset_says : (κs : Lfts 0) (a : Args reset.signature κs) (r : State) (e : AtExit reset.ended κs)
      → (reset.clauses 𝓛 mem run κs a).ensures tt r e ≡ fact 𝓤 (ResetSays a.0 r)
  reset_says κs a r e = refl

  pub reset_asks : (κs : Lfts 0) (a : Args reset.signature κs) → (reset.clauses 𝓛 mem run κs a).requires tt ≡ emp 𝓤
  reset_asks κs a = refl

  -- `reset_lent`, on the reference a .0, which at exit is e.0
  pub reset_lent_says : (κs : Lfts 1) (a : Args reset_lent.signature κs) (r : Unit {0}) (e : AtExit reset_lent.ended κs)
      → (reset_lent.clauses 𝓛 mem run κs a).ensures tt r e ≡ fact 𝓤 (ResetSays a.0.now e.0.now)
  reset_lent_says κs a r e = refl

  pub reset_lent_asks : (κs : Lfts 1) (a : Args reset_lent.signature κs) → (reset_lent.clauses 𝓛 mem run κs a).requires tt ≡ emp 𝓤
  reset_lent_asks κs a = refl
