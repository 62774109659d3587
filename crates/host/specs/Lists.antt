-- Demand 3 of the calls that a panel makes: "one claim about the whole list, not one for each call", on records.
use Rattle.std.specs.Prelude.{ℕ, ◌≤◌, ◌<◌, ◌≡◌, List, [], ◌∷◌, map, length}
use Rattle.numbers.specs.Table.{Table, table_of}
use Rattle.area.specs.Steps.{Fed, state_from, accepted_from}
use Rattle.area.specs.SettlingRun.{settle_refusal}
use Rattle.area.specs.Listing.{listing, ListingShown}
use Rattle.area.specs.Lists.{Call, by_value, Told, feed_from, told_from, DistancesAlong, ClockAlong}
use Rattle.area.specs.Lists as area
use Rattle.area.specs.declared.state.State.{State}
use Rattle.area.specs.Outcome.{Answer}
use Rattle.area.specs.SettlingRun.{Settled}
use Rattle.records.specs.Record.{record_of, state_of}
use Rattle.host.specs.Calls.{FrameLeft, left_by, frame_under, reset_on}
use Rattle.host.specs.SettlingRun.{RunLeft, increment_of, limit_of, ran_by, settle_under}

-- ---- what the calls promise under the bytes of the table that each has, none where it has no table: their `ensures`, as they stand

-- strakobud_frame_by, and strakobud_frame
abbrev pub FrameOnSays : List ℕ → List ℕ → List ℕ → List ℕ → FrameLeft → Type 0
FrameOnSays table state frame out left = left ≡ frame_under (table_of table) state frame out

-- strakobud_settle_by, and strakobud_settle
abbrev pub SettleOnSays : List ℕ → List ℕ → List ℕ → List ℕ → List ℕ → RunLeft → Type 0
SettleOnSays table state frame run used left = left ≡ settle_under (table_of table) state frame run used

-- strakobud_reset
abbrev pub ResetOnSays : List ℕ → List ℕ → Type 0
ResetOnSays state left = left ≡ reset_on state

-- what the type of a frame says of it
abbrev pub AreBytes : List ℕ → Type 0
AreBytes [] = Unit {0}
AreBytes (b ∷ bytes) = (b < 256) × AreBytes bytes

-- and of a table, which has 8,200 bytes, or none where the call has no table
abbrev pub AreTable : List ℕ → Type 0
AreTable table = (length table ≤ 8200) × AreBytes table

-- ---- a list of calls: each call's frame, of any length, the bytes of the table that it uses, none for T, a run's increment and limit, and
-- what its second buffer holds before it; or a reset. "The steps of demand 3 take for each call the loaded table that it uses".
pub data RecordCall : Type 0 where
  on_frame : (frame table out : List ℕ) → RecordCall
  on_run : (frame table run used : List ℕ) → RecordCall
  on_reset : RecordCall

-- what a call answers: a refusal with the two buffers as the call left them; of a reset, the record that it left
pub data RecordTold : Type 0 where
  of_frame : FrameLeft → RecordTold
  of_run : RunLeft → RecordTold
  of_reset : List ℕ → RecordTold

-- the call on a state that it stands for
abbrev pub call_of : RecordCall → Call
call_of (on_frame frame table out) = by_value (table_of table) frame
call_of (on_run frame table run used) = area.settle (table_of table) frame (increment_of run) (limit_of run)
call_of on_reset = area.reset

abbrev pub AreCall : RecordCall → Type 0
AreCall (on_frame frame table out) = AreBytes frame × AreTable table
AreCall (on_run frame table run used) = AreBytes frame × AreTable table
AreCall on_reset = Unit {0}

abbrev pub AreCalls : List RecordCall → Type 0
AreCalls [] = Unit {0}
AreCalls (call ∷ calls) = AreCall call × AreCalls calls

-- frame calls and resets, and no runs
abbrev pub HaveNoRuns : List RecordCall → Type 0
HaveNoRuns [] = Unit {0}
HaveNoRuns (on_frame frame table out ∷ calls) = HaveNoRuns calls
HaveNoRuns (on_run frame table run used ∷ calls) = ⊥
HaveNoRuns (on_reset ∷ calls) = HaveNoRuns calls

-- RecordRun s calls answers t: on the record s the calls gave these answers, and t is the record after them. Each call keeps its own promise
-- and is given the record that the call before it left.
pub data RecordRun : List ℕ → List RecordCall → List RecordTold → List ℕ → Type 0 where
  ends : {s : List ℕ} → RecordRun s [] [] s
  framed : {s frame table out : List ℕ} {r : FrameLeft} {calls : List RecordCall} {answers : List RecordTold} {t : List ℕ}
      → AreBytes frame → AreTable table → FrameOnSays table s frame out r → RecordRun r.state calls answers t
      → RecordRun s (on_frame frame table out ∷ calls) (of_frame r ∷ answers) t
  settled : {s frame table run used : List ℕ} {r : RunLeft} {calls : List RecordCall} {answers : List RecordTold} {t : List ℕ}
      → AreBytes frame → AreTable table → SettleOnSays table s frame run used r → RecordRun r.state calls answers t
      → RecordRun s (on_run frame table run used ∷ calls) (of_run r ∷ answers) t
  cleared : {s r : List ℕ} {calls : List RecordCall} {answers : List RecordTold} {t : List ℕ} → ResetOnSays s r → RecordRun r calls answers t
      → RecordRun s (on_reset ∷ calls) (of_reset r ∷ answers) t

-- ---- along the answers

-- each call's answer is the steps': its refusal; and the record of its state and the words of what it puts out or of the frames used, or what
-- the buffers held (`left_by`, `ran_by`); of a reset, the record before it with its time cleared (`reset_on`). And the record left stands for the
-- steps' state.
pub data AnswersAlong : List ℕ → List RecordCall → List Told → List RecordTold → Type 0 where
  no_more : {s : List ℕ} → AnswersAlong s [] [] []
  frame_too : {s frame table out : List ℕ} {a : Answer} {r : FrameLeft} {calls : List RecordCall} {steps : List Told} {answers : List RecordTold}
      → r ≡ left_by a s out → state_of r.state ≡ a.state → AnswersAlong r.state calls steps answers
      → AnswersAlong s (on_frame frame table out ∷ calls) (Told.of_frame a ∷ steps) (of_frame r ∷ answers)
  run_too : {s frame table run used : List ℕ} {a : Settled} {r : RunLeft} {calls : List RecordCall} {steps : List Told} {answers : List RecordTold}
      → r ≡ ran_by (settle_refusal (state_of s) frame (increment_of run) (limit_of run)) a s used → state_of r.state ≡ a.state
      → AnswersAlong r.state calls steps answers
      → AnswersAlong s (on_run frame table run used ∷ calls) (Told.of_run a ∷ steps) (of_run r ∷ answers)
  reset_too : {s r : List ℕ} {a : State} {calls : List RecordCall} {steps : List Told} {answers : List RecordTold}
      → r ≡ reset_on s → state_of r ≡ a → AnswersAlong r calls steps answers
      → AnswersAlong s (on_reset ∷ calls) (Told.of_reset a ∷ steps) (of_reset r ∷ answers)

-- ---- the claim

-- what the steps are fed of the calls on the record s
abbrev pub feed_on : List ℕ → List RecordCall → List Fed
feed_on s calls = feed_from (state_of s) (map call_of calls)

-- what holds of a list of calls on the record s, with their answers and the record t after them
pub record RecordWhole (s : List ℕ) (calls : List RecordCall) (answers : List RecordTold) (t : List ℕ) : Type 0 where
  -- "answers and state equal document 01's steps"
  pub same_answers : AnswersAlong s calls (told_from (state_of s) (map call_of calls)) answers
  pub same_state : state_of t ≡ state_from (state_of s) (feed_on s calls)
  pub same_record : t ≡ record_of (state_from (state_of s) (feed_on s calls))
  -- "the accepted frames alone reach the same state": frame calls on these frames with the resets in their places, and no other calls, end on
  -- the same record
  pub accepted_alone : (alone : List RecordCall) × (others : List RecordTold) × RecordRun s alone others t × HaveNoRuns alone
      × (feed_on s alone ≡ accepted_from (state_of s) (feed_on s calls))
  -- the range and the end, by area's own law, along the steps, for whose states after each call the records left stand
  pub distances : DistancesAlong (state_of s) (feed_on s calls)
  -- the clock likewise
  pub clock : ClockAlong (state_of s) (feed_on s calls)

-- of every list of calls that begins on the record s, in any mix of tables; each list of calls on frames and tables in bytes goes so, and the
-- document's own frame is one in bytes and meets what the laws ask
pub record AllRecordLists (s : List ℕ) : Type 0 where
  pub whole : (calls : List RecordCall) (answers : List RecordTold) (t : List ℕ) → RecordRun s calls answers t → RecordWhole s calls answers t
  pub has_run : (calls : List RecordCall) → AreCalls calls → (answers : List RecordTold) × (t : List ℕ) × RecordRun s calls answers t
  pub listing_shown : AreBytes listing × ((table : Table) → ListingShown table (state_of s))
