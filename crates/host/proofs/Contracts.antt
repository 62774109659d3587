-- The premises of `RecordRun`'s constructors are the contracts of strakobud_frame, strakobud_settle, the same under a table, and strakobud_reset,
-- as `rattle check` makes them from the source, and what the type of a frame and of a table says of each byte: a contract that says anything
-- else is refused here.
-- Assumes nothing.
use mathlib.Core.Path.{◌≡◌, refl}
use Rattle.std.specs.Prelude.{Result}
use mathlib.Core.List.{List, [], ◌∷◌}
use Prim.Native.Nat.{ℕ, ◌<◌}
use lib.ListN.{length}
use seplogic.Ra.Ura.{Ura}
use base.Logic.{SProp, sep, emp}
use contract.Lifetimes.{Lfts}
use contract.Monad.{Fun, fact}
use mir.Syntax.{w8}
use mir.Val.{Val, vint}
use prog.Memory.{Memory}
use prog.Routine.{Routine}
use types.Logic.{Logic}
use denote.Laws.{Is}
use denote.Builtin.{u8}
use denote.Array.{Array}
use denote.Triple.Entry.{Args}
use denote.Triple.Clauses.{AtExit}
use Rattle.refusals.specs.Refusal.{number_in}
use Rattle.refusals.specs.declared.Refusal.{Refusal}
use Rattle.area.specs.Clock.{reset_of}
use Rattle.records.specs.Record.{state_of}
use Rattle.host.specs.Lists.{FrameOnSays, SettleOnSays, ResetOnSays}
use Rattle.numbers.specs.Table.{table_of}
use Rattle.host.specs.contracts.area_calls.strakobud_frame as frame
use Rattle.host.specs.contracts.area_calls.strakobud_frame_by as frame_by
use Rattle.host.specs.contracts.area_calls.strakobud_reset as reset
use Rattle.host.specs.contracts.settle_calls.strakobud_settle as settle
use Rattle.host.specs.contracts.settle_calls.strakobud_settle_by as settle_by

module _ {M : Type 1} {𝓤 : Ura M} (𝓛 : Logic 𝓤) (mem : Memory → SProp 𝓤) (run : Routine → Fun 𝓤) where
  -- `strakobud_frame`, on the references a .0 (the record), a.1.0 (the frame) and a.1.1.0 (out); at exit they are e.0, e.1.0 and
  -- e.1.1.0; it has no table, and no bytes stand for T
  pub frame_says : (κs : Lfts 3) (a : Args frame.signature κs) (r : Result (Unit {0}) Refusal) (e : AtExit frame.ended κs)
      → (frame.clauses 𝓛 mem run κs a).ensures tt r e
      ≡ fact 𝓤 (FrameOnSays [] a.0.now a.1.0.now a.1.1.0.now (record { refusal = number_in r; state = e.0.now; out = e.1.1.0.now }))
  unfolding table_of
  frame_says κs a r e = refl

  -- it asks nothing
  pub frame_asks : (κs : Lfts 3) (a : Args frame.signature κs) → (frame.clauses 𝓛 mem run κs a).requires tt ≡ emp 𝓤
  frame_asks κs a = refl

  -- `strakobud_frame_by`, whose table is a.1.1.0 and out a .1 .1 .1 .0
  pub frame_by_says : (κs : Lfts 4) (a : Args frame_by.signature κs) (r : Result (Unit {0}) Refusal) (e : AtExit frame_by.ended κs)
      → (frame_by.clauses 𝓛 mem run κs a).ensures tt r e
      ≡ fact 𝓤 (FrameOnSays a.1.1.0.now a.0.now a.1.0.now a.1.1.1.0.now
      (record { refusal = number_in r; state = e.0.now; out = e.1.1.1.0.now }))
  frame_by_says κs a r e = refl

  pub frame_by_asks : (κs : Lfts 4) (a : Args frame_by.signature κs) → (frame_by.clauses 𝓛 mem run κs a).requires tt ≡ emp 𝓤
  frame_by_asks κs a = refl

  -- `strakobud_settle`, on the references a .0 (the record), a.1.0 (the frame), a.1.1.0 (the run) and a.1.1.1.0 (used); it has no table
  pub settle_says : (κs : Lfts 4) (a : Args settle.signature κs) (r : Result (Unit {0}) Refusal) (e : AtExit settle.ended κs)
      → (settle.clauses 𝓛 mem run κs a).ensures tt r e
      ≡ fact 𝓤 (SettleOnSays [] a.0.now a.1.0.now a.1.1.0.now a.1.1.1.0.now
      (record { refusal = number_in r; state = e.0.now; used = e.1.1.1.0.now }))
  unfolding table_of
  settle_says κs a r e = refl

  pub settle_asks : (κs : Lfts 4) (a : Args settle.signature κs) → (settle.clauses 𝓛 mem run κs a).requires tt ≡ emp 𝓤
  settle_asks κs a = refl

  -- `strakobud_settle_by`, whose table is a.1.1.0, run a .1 .1 .1 .0 and used a .1 .1 .1 .1 .0
  pub settle_by_says : (κs : Lfts 5) (a : Args settle_by.signature κs) (r : Result (Unit {0}) Refusal) (e : AtExit settle_by.ended κs)
      → (settle_by.clauses 𝓛 mem run κs a).ensures tt r e
      ≡ fact 𝓤 (SettleOnSays a.1.1.0.now a.0.now a.1.0.now a.1.1.1.0.now a.1.1.1.1.0.now
      (record { refusal = number_in r; state = e.0.now; used = e.1.1.1.1.0.now }))
  settle_by_says κs a r e = refl

  pub settle_by_asks : (κs : Lfts 5) (a : Args settle_by.signature κs) → (settle_by.clauses 𝓛 mem run κs a).requires tt ≡ emp 𝓤
  settle_by_asks κs a = refl

  -- `strakobud_reset`, on the reference a .0 (the record), which at exit is e.0; with the state that it stands for
  pub reset_says : (κs : Lfts 1) (a : Args reset.signature κs) (r : Unit {0}) (e : AtExit reset.ended κs)
      → (reset.clauses 𝓛 mem run κs a).ensures tt r e
      ≡ sep 𝓤 (fact 𝓤 (ResetOnSays a.0.now e.0.now)) (fact 𝓤 (state_of e.0.now ≡ reset_of (state_of a.0.now)))
  reset_says κs a r e = refl

  pub reset_asks : (κs : Lfts 1) (a : Args reset.signature κs) → (reset.clauses 𝓛 mem run κs a).requires tt ≡ emp 𝓤
  reset_asks κs a = refl

-- a byte b of the frame or of a table, at the machine values vs
pub byte_says : (b : ℕ) (vs : List Val) → Is u8 b vs ≡ ((vs ≡ vint w8 b ∷ []) × (b < 256))
byte_says b vs = refl

-- a table, a `&[u8; 8200]`: it has that many bytes
pub table_says : (table : List ℕ) (vs : List Val) → Is (Array u8 8200) table vs → length table ≡ 8200
table_says table vs p = p.1.0.1
