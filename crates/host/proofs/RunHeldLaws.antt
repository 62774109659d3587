-- The state that a settling run reaches is one that the code can hold, frame after frame.
-- Assumes nothing.
use mathlib.Core.Path.{◌≡◌, sym, subst}
use mathlib.Core.Logic.{∥∥₁_prop, ∥∥₁_elim}
use mathlib.Core.List.{List, [], ◌∷◌, ◌++◌}
use Prim.Native.Nat.{ℕ, zero, suc, ◌/◌, ◌%◌, ◌<◌}
use native.Mathlib.Omega.{arith}
use lib.Ieee.{Float}
use lib.ListN.{length, take, drop}
use Rattle.words.specs.Words.{bytes_of, put_at}
use Rattle.numbers.specs.Table.{table_of}
use Rattle.area.specs.Frame.{time_words}
use Rattle.area.specs.Steps.{Fed, step_at}
use Rattle.area.specs.SettlingRun.{advanced}
use Rattle.area.specs.declared.state.State.{State}
use Rattle.area.specs.Outcome.{Answer}
use Rattle.area.specs.SettlingRun.{Settled}
use Rattle.area.proofs.CallLaws.{step_is_call}
use Rattle.area.proofs.AdvancedLaws.{advanced_whole}
use Rattle.area.proofs.RunLaws.{Goes, ends, refused, rests, on}
use Rattle.records.specs.Held.{IsHeld}
use Rattle.host.specs.Lists.{AreBytes, AreTable}
use Rattle.host.proofs.CalledLaws.{call_is_held}

-- ---- a frame whose time has moved on is a frame in bytes

-- what words are written as are bytes
pub words_are : (words : List ℕ) → AreBytes (bytes_of words)
unfolding bytes_of
words_are [] = tt
words_are (w ∷ words) = (low w, (low (w / 256), (low (w / 65536), (low (w / 16777216), words_are words))))
  where
    low : (n : ℕ) → n % 256 < 256
    low n = omega arith

both_are : (a b : List ℕ) → AreBytes a → AreBytes b → AreBytes (a ++ b)
both_are [] b are too = too
both_are (x ∷ a) b are too = (are.0, both_are a b are.1 too)

first_are : (n : ℕ) (a : List ℕ) → AreBytes a → AreBytes (take n a)
first_are zero a are = tt
first_are (suc n) [] are = tt
first_are (suc n) (x ∷ a) are = (are.0, first_are n a are.1)

rest_are : (n : ℕ) (a : List ℕ) → AreBytes a → AreBytes (drop n a)
rest_are zero a are = are
rest_are (suc n) [] are = tt
rest_are (suc n) (x ∷ a) are = rest_are n a are.1

pub advanced_are : (increment : Float) (frame : List ℕ) → AreBytes frame → AreBytes (advanced increment frame)
unfolding advanced put_at
advanced_are increment frame are =
    both_are (take 204 frame) _ (first_are 204 frame are)
    (both_are (bytes_of (time_words _)) (drop 8 (drop 204 frame)) (words_are (time_words _)) (rest_are 8 (drop 204 frame) (rest_are 204 frame are)))

-- ---- the state after a run's frames
module _ (table : List ℕ) (lent : AreTable table) (increment : Float) where
  held_next : (S : State) → IsHeld S → (frame : List ℕ) → AreBytes frame → length frame ≡ 416 → ∥ IsHeld (step_at (table_of table) S frame).state ∥₁
  held_next S held frame are whole =
      subst (λ (a : Answer). ∥ IsHeld a.state ∥₁) (sym (step_is_call (table_of table) S frame)) (call_is_held S held frame table are lent whole)

  pub run_is_held : {n : ℕ} {S : State} {frame : List ℕ} {r : Settled} {frames : List Fed} → Goes (table_of table) increment n S frame r frames
      → IsHeld S → AreBytes frame → length frame ≡ 416 → ∥ IsHeld r.state ∥₁
  run_is_held ends held are whole = ∣ held ∣₁
  run_is_held (refused a) held are whole = ∣ held ∣₁
  run_is_held (rests a) held are whole = held_next _ held _ are whole
  run_is_held (on a run) held are whole =
      ∥∥₁_elim (held_next _ held _ are whole) ∥∥₁_prop (λ next. run_is_held run next (advanced_are increment _ are) (advanced_whole increment _ whole))
