-- Demand 3: "one claim about the whole list, not one for each call", in which each call has the table that it uses, and settling runs and
-- resets stand among the frames.
use Rattle.std.specs.Prelude.{◌≡◌, ℕ, ◌+◌, Bool, true, false, cond, List, [], ◌∷◌, ◌++◌, ◌==◌}
use Rattle.std.specs.Prelude.{Float}
use Rattle.std.specs.Float.Ieee.{lt, le, eq}
use Rattle.numbers.specs.Table.{Table}
use Rattle.numbers.specs.F32.{zero}
use Rattle.numbers.specs.Scalar.{max_of}
use Rattle.area.specs.Pair.{num}
use Rattle.area.specs.State.{no_time, clamped_offset}
use Rattle.area.specs.Layout as At
use Rattle.area.specs.Frame.{word_no, time_no}
use Rattle.area.specs.Clock.{reset_of}
use Rattle.area.specs.Checks.{frame_refusal}
use Rattle.area.specs.Call.{call_under}
use Rattle.area.specs.Steps.{Fed, fed_frame, fed_reset, ended_at, step_at, state_from, is_accepted, accepted_from}
use Rattle.area.specs.Moved.{extent_on, is_moved, is_moved_by_words}
use Rattle.area.specs.SettlingRun.{settle_under, frames_of, settled_by}
use Rattle.area.specs.Listing.{ListingShown}
use Rattle.area.specs.declared.state.State.{State}
use Rattle.area.specs.Outcome.{Outcome}
use Rattle.area.specs.Outcome.{Answer}
use Rattle.area.specs.SettlingRun.{Settled}

-- ---- what the calls promise, under the table that each uses: their `ensures`, as they stand

-- by value
abbrev pub FrameSays : Table → State → List ℕ → Answer → Type 0
FrameSays table given bytes r = r ≡ call_under table given bytes

-- lent: "the frame is changed into it there"
pub record LentSays (table : Table) (given : State) (bytes : List ℕ) (outcome : Outcome) (left : State) : Type 0 where
  pub answers : outcome ≡ (call_under table given bytes).outcome
  pub leaves : left ≡ (call_under table given bytes).state

-- a settling run: the equation, beside which its contract has what follows of every run
abbrev pub SettleSays : Table → State → List ℕ → Float → ℕ → Settled → Type 0
SettleSays table given bytes increment limit r = r ≡ settle_under table given bytes increment limit

-- a reset, by value or lent: the state that it returns or leaves
abbrev pub ResetSays : State → State → Type 0
ResetSays given r = r ≡ reset_of given

-- ---- a list of calls, in any mix of the forms and of tables: "for each call the loaded table that it uses"; "Lists may then hold resets"
pub data Call : Type 0 where
  by_value : Table → List ℕ → Call
  lent : Table → List ℕ → Call
  settle : Table → List ℕ → Float → ℕ → Call
  reset : Call

-- what a call answers
pub data Told : Type 0 where
  of_frame : Answer → Told
  of_run : Settled → Told
  of_reset : State → Told

-- Run s calls answers t: from the state s the calls gave these answers and left t. Each call keeps its own promise and is given what
-- the call before it returned or left.
pub data Run : State → List Call → List Told → State → Type 0 where
  ends : {s : State} → Run s [] [] s
  returned : {table : Table} {s : State} {bytes : List ℕ} {r : Answer} {calls : List Call} {answers : List Told} {t : State}
      → FrameSays table s bytes r → Run r.state calls answers t → Run s (by_value table bytes ∷ calls) (of_frame r ∷ answers) t
  left : {table : Table} {s : State} {bytes : List ℕ} {o : Outcome} {u : State} {calls : List Call} {answers : List Told} {t : State}
      → LentSays table s bytes o u → Run u calls answers t
      → Run s (lent table bytes ∷ calls) (of_frame (record { state = u; outcome = o }) ∷ answers) t
  settled : {table : Table} {s : State} {bytes : List ℕ} {increment : Float} {limit : ℕ} {r : Settled} {calls : List Call} {answers : List Told}
      {t : State} → SettleSays table s bytes increment limit r → Run r.state calls answers t
      → Run s (settle table bytes increment limit ∷ calls) (of_run r ∷ answers) t
  cleared : {s u : State} {calls : List Call} {answers : List Told} {t : State} → ResetSays s u → Run u calls answers t
      → Run s (reset ∷ calls) (of_reset u ∷ answers) t

-- ---- the steps on a list of calls

-- what they take of a call on the state S: its frame, a run's frames in its place, or the reset
abbrev pub fed_by : State → Call → List Fed
fed_by S (by_value table bytes) = fed_frame table bytes ∷ []
fed_by S (lent table bytes) = fed_frame table bytes ∷ []
fed_by S (settle table bytes increment limit) = frames_of table S bytes increment limit
fed_by S reset = fed_reset ∷ []

abbrev pub feed_from : State → List Call → List Fed
feed_from S [] = []
feed_from S (call ∷ calls) = fed_by S call ++ feed_from (state_from S (fed_by S call)) calls

-- what they answer
abbrev pub told_by : State → Call → Told
told_by S (by_value table bytes) = of_frame (step_at table S bytes)
told_by S (lent table bytes) = of_frame (step_at table S bytes)
told_by S (settle table bytes increment limit) = of_run (settled_by table S bytes increment limit)
told_by S reset = of_reset (reset_of S)

abbrev pub told_from : State → List Call → List Told
told_from S [] = []
told_from S (call ∷ calls) = told_by S call ∷ told_from (state_from S (fed_by S call)) calls

-- ---- the distances, which "hold under every table that loads, by an argument that never looks at its entries": here under every table

-- "A frame's maximum offset is that of `end`"
unfoldable pub maximum_offset : Table → State → List ℕ → ℕ → Float
maximum_offset table S bytes d = (extent_on (ended_at table S bytes) d).max_offset

-- "the list's end is the larger of 0 and it"
abbrev pub list_end : Table → State → List ℕ → ℕ → Float
list_end table S bytes d = max_of (maximum_offset table S bytes d) zero

-- "The distance to a range is zero exactly where it contains the offset": the offset stored after the frame lies in 0 to the list's end
abbrev pub IsInRange : Table → State → List ℕ → State → ℕ → Type 0
IsInRange table S bytes after d = (le zero (num after.offset d) ≡ true) × (le (num after.offset d) (list_end table S bytes d) ≡ true)

-- "to the end where the two compare equal": the offset shown after the frame is the list's end
abbrev pub IsOnEnd : Table → State → List ℕ → State → ℕ → Type 0
IsOnEnd table S bytes after d = eq (num (clamped_offset after) d) (list_end table S bytes d) ≡ true

-- ---- along the steps on a list of frames and resets

-- after each accepted frame with word 39 equal to 0 the stored offset is in its range, on both axes
abbrev pub RangeAlong : State → List Fed → Type 0
RangeAlong S [] = Unit {0}
RangeAlong S (fed_frame table bytes ∷ rest) =
    let r = step_at table S bytes in
    (is_accepted r ≡ true → word_no bytes At.kinetic_rubber_band ≡ 0 → IsInRange table S bytes r.state 0 × IsInRange table S bytes r.state 1)
    × RangeAlong r.state rest
RangeAlong S (fed_reset ∷ rest) = RangeAlong (reset_of S) rest

-- as long as every accepted frame sticks to the end on axis d and does not move it, the list shows its end after each of them; a reset
-- is no move
abbrev pub EndAlong : (Table → State → List ℕ → ℕ → Bool) → ℕ → State → List Fed → Type 0
EndAlong moved d S [] = Unit {0}
EndAlong moved d S (fed_frame table bytes ∷ rest) =
    let r = step_at table S bytes in
    (is_accepted r ≡ true → word_no bytes (At.stick_to_end + d) ≡ 1 → moved table S bytes d ≡ false
    → IsOnEnd table S bytes r.state d × EndAlong moved d r.state rest)
    × (is_accepted r ≡ false → EndAlong moved d r.state rest)
EndAlong moved d S (fed_reset ∷ rest) = EndAlong moved d (reset_of S) rest

-- the distances that are zero
pub record DistancesAlong (S : State) (feed : List Fed) : Type 0 where
  -- "with rubber band off the stored offset lies in the range"
  pub in_range : RangeAlong S feed
  -- "a sticking axis that nobody moves shows the list's end": in the narrowest reading of a move, and in the one by words
  pub on_end : EndAlong is_moved 0 S feed × EndAlong is_moved 1 S feed
  pub on_end_by_words : EndAlong (λ _ _. is_moved_by_words) 0 S feed × EndAlong (λ _ _. is_moved_by_words) 1 S feed

-- ---- the clock, along the steps

-- "The state shall remember the time of its last accepted frame": t is that time, or 0 where there is none since the start or a reset
abbrev pub RemembersAlong : Float → State → List Fed → Type 0
RemembersAlong t S [] = S.remembered_time ≡ t
RemembersAlong t S (fed_frame table bytes ∷ rest) =
    let r = step_at table S bytes in
    (S.remembered_time ≡ t) × RemembersAlong (cond (is_accepted r) (time_no bytes At.time) t) r.state rest
RemembersAlong t S (fed_reset ∷ rest) = (S.remembered_time ≡ t) × RemembersAlong no_time (reset_of S) rest

-- between resets the remembered time never falls: no frame leaves one that is less than the one it was given
abbrev pub NeverFallsAlong : State → List Fed → Type 0
NeverFallsAlong S [] = Unit {0}
NeverFallsAlong S (fed_frame table bytes ∷ rest) =
    let after = (step_at table S bytes).state in
    (le S.remembered_time after.remembered_time ≡ true) × NeverFallsAlong after rest
NeverFallsAlong S (fed_reset ∷ rest) = NeverFallsAlong (reset_of S) rest

-- up to the next reset no frame that passes 1 to 5 has a time that is less than t
abbrev pub NoneLess : Float → List Fed → Type 0
NoneLess t [] = Unit {0}
NoneLess t (fed_frame table bytes ∷ rest) = (frame_refusal bytes ≡ 0 → lt (time_no bytes At.time) t ≡ false) × NoneLess t rest
NoneLess t (fed_reset ∷ rest) = Unit {0}

-- the times do not fall, from reset to reset: of the frames that pass 1 to 5, none has a time less than that of one before it
abbrev pub TimesDoNotFall : List Fed → Type 0
TimesDoNotFall [] = Unit {0}
TimesDoNotFall (fed_frame table bytes ∷ rest) = (frame_refusal bytes ≡ 0 → NoneLess (time_no bytes At.time) rest) × TimesDoNotFall rest
TimesDoNotFall (fed_reset ∷ rest) = TimesDoNotFall rest

-- no frame is refused with 12
abbrev pub None12 : State → List Fed → Type 0
None12 S [] = Unit {0}
None12 S (fed_frame table bytes ∷ rest) =
    let r = step_at table S bytes in
    ((r.outcome.refusal == 12) ≡ false) × None12 r.state rest
None12 S (fed_reset ∷ rest) = None12 (reset_of S) rest

pub record ClockAlong (S : State) (feed : List Fed) : Type 0 where
  pub remembers : RemembersAlong no_time S feed
  pub never_falls : NeverFallsAlong S feed
  -- where the times do not fall, from reset to reset, no frame is refused with 12; a list without resets is one case
  pub never_12 : TimesDoNotFall feed → None12 S feed

-- ---- the claim

-- what holds of a list of calls from the state s, with their answers and the state t after them
pub record Whole (s : State) (calls : List Call) (answers : List Told) (t : State) : Type 0 where
  -- "answers and state equal document 01's steps"
  pub same_answers : answers ≡ told_from s calls
  pub same_state : t ≡ state_from s (feed_from s calls)
  -- "the accepted frames alone reach the same state": with the resets in their places among them
  pub accepted_alone : state_from s (accepted_from s (feed_from s calls)) ≡ t
  -- the range and the end, after every frame, those inside a run too
  pub distances : DistancesAlong s (feed_from s calls)
  -- the clock
  pub clock : ClockAlong s (feed_from s calls)

-- of every list of calls that begins at s, whichever table each of them uses; each list has such a run, and the document's own frame meets
-- what the laws ask
pub record AllLists (s : State) : Type 0 where
  pub whole : (calls : List Call) (answers : List Told) (t : State) → Run s calls answers t → Whole s calls answers t
  pub has_run : (calls : List Call) → Run s calls (told_from s calls) (state_from s (feed_from s calls))
  pub listing_shown : (table : Table) → ListingShown table s
