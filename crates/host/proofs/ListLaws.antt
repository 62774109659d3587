-- Demand 3 on records: from a record that stands for a state the calls go as the steps go from that state, and each record left stands
-- for the state that the step reaches.
-- Assumes nothing.
use mathlib.Core.Path.{◌≡◌, refl, sym, ap, subst, ◌∙◌}
use mathlib.Core.Bool.{Bool, true, false, cond, ◌&&◌}
use mathlib.Core.List.{List, [], ◌∷◌, ◌++◌, map}
use Prim.Native.Nat.{ℕ, zero, suc, ◌≤◌}
use native.Mathlib.Omega.{arith}
use borrow.Author.Tests.{ltb-false}
use lib.Dec.{eqb, ltb}
use lib.Ieee.{Float, binary32, binary64}
use lib.Ieee.Bits.{of_bits-fits}
use Rattle.words.specs.Words.{word_at, bytes_of}
use Rattle.numbers.specs.F32 as F32
use Rattle.numbers.specs.Table.{Table, table_of}
use Rattle.area.specs.State.{default}
use Rattle.area.specs.Clock.{reset_of}
use Rattle.area.specs.Steps.{Fed, fed_frame, fed_reset, step_at, state_from, is_accepted, accepted_from}
use Rattle.area.specs.SettlingRun.{settle_refusal, advanced, ended_with, settle_from, frames_from, frames_of, settled_by}
use Rattle.area.specs.SettlingRun as area
use Rattle.area.specs.Listing.{listing_words, listing, ListingShown}
use Rattle.area.specs.Lists.{fed_by, feed_from, told_from, AllLists}
use Rattle.area.specs.declared.state.State.{State}
use Rattle.area.specs.Outcome.{Answer}
use Rattle.area.specs.SettlingRun.{Settled}
use Rattle.numbers.proofs.TestLaws.{either}
use Rattle.area.proofs.CallLaws.{step_is_call, refusal_keeps, whole_if_passed, accepted}
use Rattle.area.proofs.SettlingRunLaws.{whole_of_run}
use Rattle.area.proofs.RunLaws.{goes, none_used, run_holds}
use Rattle.area.proofs.ListLaws.{state_append}
use Rattle.records.specs.Record.{record_of, out_words, state_of, is_damaged}
use Rattle.records.specs.Held.{ArePair, IsHeld}
use Rattle.host.specs.Calls.{FrameLeft, left_by, frame_under, fresh_bytes, reset_on}
use Rattle.host.specs.SettlingRun.{RunLeft, increment_of, limit_of, up_front_on, ran_under, ran_by, settle_under}
use Rattle.host.specs.Lists.{FrameOnSays, SettleOnSays, AreBytes, AreTable, RecordCall, on_frame, on_run, on_reset}
use Rattle.host.specs.Lists.{RecordTold, of_frame, of_run, of_reset}
use Rattle.host.specs.Lists.{call_of, AreCall, AreCalls, HaveNoRuns, RecordRun, ends, framed, settled, cleared}
use Rattle.host.specs.Lists.{AnswersAlong, no_more, frame_too, run_too, reset_too, feed_on, RecordWhole, AllRecordLists}
use Rattle.records.proofs.BackLaws.{written_is_read, written_is_undamaged}
use Rattle.records.proofs.HeldLaws.{read_is_held}
use Rattle.host.proofs.ResetLaws.{reset_of_lem}
use Rattle.host.proofs.CalledLaws.{call_is_held, held_is_read_back}
use Rattle.host.proofs.RunHeldLaws.{words_are, advanced_are, run_is_held}

-- ---- a record: the bytes that are written of the state that they stand for
abbrev IsRecord : List ℕ → Type 0
IsRecord s = s ≡ record_of (state_of s)

-- ---- one call

-- a call on a record is the frame call on its state
frame_is_step : (table : Table) (s frame out : List ℕ) → IsRecord s → frame_under table s frame out ≡ left_by (step_at table (state_of s) frame) s out
unfolding frame_under
frame_is_step table s frame out is = rw (ap (λ (b : List ℕ). is_damaged (word_at b) 0) is ∙ written_is_undamaged (state_of s), step_is_call table (state_of s) frame)

-- what an accepted frame reaches is read back as it is written
accepted_is_read_back : (s frame table : List ℕ) → AreBytes frame → AreTable table → is_accepted (step_at (table_of table) (state_of s) frame) ≡ true
    → state_of (record_of (step_at (table_of table) (state_of s) frame).state) ≡ (step_at (table_of table) (state_of s) frame).state
accepted_is_read_back s frame table are lent a =
    let S = state_of s in
    let count = whole_if_passed S frame (accepted (table_of table) S frame a).unrefused in
    subst (λ (t : Answer). state_of (record_of t.state) ≡ t.state) (sym (step_is_call (table_of table) S frame))
    (held_is_read_back _ (call_is_held S (read_is_held s) frame table are lent count))

-- with whether the record is written
written_stands : (test : Bool) (S : State) (s : List ℕ) → (test ≡ true → state_of (record_of S) ≡ S) → (test ≡ false → S ≡ state_of s) → IsRecord s
    → let left : List ℕ = cond test (record_of S) s in
    (state_of left ≡ S) × IsRecord left
written_stands true S s read kept is = (read refl, ap record_of (sym (read refl)))
written_stands false S s read kept is = (sym (kept refl), is)

left_state : (test : Bool) (a : Answer) (s out : List ℕ)
    → let left : FrameLeft = cond test
    (record { refusal = 0; state = record_of a.state; out = bytes_of (out_words a.outcome) })
    (record { refusal = a.outcome.refusal; state = s; out = out }) in
    left.state ≡ cond test (record_of a.state) s
left_state true a s out = refl
left_state false a s out = refl

-- a frame on a record
record One (s frame table out : List ℕ) (r : FrameLeft) : Type 0 where
  pub answers : r ≡ left_by (step_at (table_of table) (state_of s) frame) s out
  pub stands : state_of r.state ≡ (step_at (table_of table) (state_of s) frame).state
  pub is_record_lem : IsRecord r.state

one : (s frame table out : List ℕ) (r : FrameLeft) → IsRecord s → AreBytes frame → AreTable table → FrameOnSays table s frame out r → One s frame table out r
one s frame table out r is are lent says =
    let a = step_at (table_of table) (state_of s) frame in
    let same : r ≡ left_by a s out = says ∙ frame_is_step (table_of table) s frame out is in
    let left =
    written_stands (is_accepted a) a.state s (accepted_is_read_back s frame table are lent) (refusal_keeps (table_of table) (state_of s) frame) is in
    let written = ap (λ (l : FrameLeft). l.state) same ∙ left_state (is_accepted a) a s out in
    record { answers = same; stands = ap state_of written ∙ left.0; is_record_lem = subst IsRecord (sym written) left.1 }

-- ---- one run

module _ (s frame table run used : List ℕ) where
  abbrev S : State
  S = state_of s

  abbrev up_front : ℕ
  up_front = settle_refusal S frame (increment_of run) (limit_of run)

  -- what the steps answer, and what the run's frames come to
  abbrev told : Settled
  told = settled_by (table_of table) S frame (increment_of run) (limit_of run)

  abbrev ran : Settled
  ran = settle_from (table_of table) (increment_of run) (limit_of run) S frame

  record OneRun (r : RunLeft) : Type 0 where
    pub answers : r ≡ ran_by up_front told s used
    pub stands : state_of r.state ≡ told.state
    pub is_record_lem : IsRecord r.state

  -- a run on a record is a run on its state
  run_is_run : IsRecord s → settle_under (table_of table) s frame run used ≡ ran_by up_front ran s used
  unfolding settle_under up_front_on ran_under
  run_is_run is = rw (ap (λ (b : List ℕ). is_damaged (word_at b) 0) is ∙ written_is_undamaged S)

  told_is : told ≡ area.settle_under (table_of table) S frame (increment_of run) (limit_of run)
  told_is = sym (run_holds (table_of table) S frame (increment_of run) (limit_of run)).by_steps

  told_is_ran : eqb up_front 0 ≡ true → told ≡ ran
  unfolding area.settle_under
  told_is_ran h = told_is ∙ rw h

  told_is_given : eqb up_front 0 ≡ false → told ≡ ended_with up_front S
  unfolding area.settle_under
  told_is_given h = told_is ∙ rw h

  ran_stands : IsRecord s → AreBytes frame → AreTable table → (t : Bool) → eqb up_front 0 ≡ t → OneRun (ran_by up_front ran s used)
  ran_stands is are lent true h =
      let whole = whole_of_run S frame (increment_of run) (limit_of run) up_front refl h in
      let course = goes (table_of table) (increment_of run) (limit_of run) S frame in
      let held = run_is_held table lent (increment_of run) course (read_is_held s) are whole in
      let left =
      written_stands (ltb 0 ran.used) ran.state s (λ _. held_is_read_back _ held)
      (λ none. none_used (table_of table) (increment_of run) course (le_zero (ltb-false 0 ran.used none))) is in
      record {
        answers = ap (λ (z : Settled). ran_by up_front z s used) (sym (told_is_ran h));
        stands = rw h (left.0 ∙ ap (λ (z : Settled). z.state) (sym (told_is_ran h)));
        is_record_lem = rw h left.1;
      }
    where
      le_zero : {n : ℕ} → n ≤ 0 → n ≡ 0
      le_zero h = omega arith
  ran_stands is are lent false h = record { answers = rw h; stands = rw h (ap (λ (z : Settled). z.state) (sym (told_is_given h))); is_record_lem = rw h is }

  one_run : (r : RunLeft) → IsRecord s → AreBytes frame → AreTable table → SettleOnSays table s frame run used r → OneRun r
  one_run r is are lent says = subst OneRun (sym (says ∙ run_is_run is)) (ran_stands is are lent _ refl)

-- ---- a list of calls

record Same (s : List ℕ) (calls : List RecordCall) (answers : List RecordTold) (t : List ℕ) : Type 0 where
  pub answers_same : AnswersAlong s calls (told_from (state_of s) (map call_of calls)) answers
  pub state_same : state_of t ≡ state_from (state_of s) (feed_on s calls)
  pub is_record_lem : IsRecord t

-- on the state that the first call reaches
abbrev AlongOn : State → List ℕ → List RecordCall → List RecordTold → Type 0
AlongOn S s calls answers = AnswersAlong s calls (told_from S (map call_of calls)) answers

abbrev ReachedOn : State → List RecordCall → List ℕ → Type 0
ReachedOn S calls t = state_of t ≡ state_from S (feed_from S (map call_of calls))

same : {s : List ℕ} {calls : List RecordCall} {answers : List RecordTold} {t : List ℕ} → RecordRun s calls answers t → IsRecord s → Same s calls answers t
unfolding settled_by
same ends is = record { answers_same = no_more; state_same = refl; is_record_lem = is }
same (framed {s} {frame} {table} {out} {r} {calls} {answers} {t} are lent says run) is =
    let o = one s frame table out r is are lent says in
    let rest = same run o.is_record_lem in
    record {
      answers_same = frame_too o.answers o.stands (subst (λ (S : State). AlongOn S r.state calls answers) o.stands rest.answers_same);
      state_same = subst (λ (S : State). ReachedOn S calls t) o.stands rest.state_same;
      is_record_lem = rest.is_record_lem;
    }
same (settled {s} {frame} {table} {run} {used} {r} {calls} {answers} {t} are lent says more) is =
    let o = one_run s frame table run used r is are lent says in
    let rest = same more o.is_record_lem in
    let frames = frames_of (table_of table) (state_of s) frame (increment_of run) (limit_of run) in
    record {
      answers_same = run_too o.answers o.stands (subst (λ (S : State). AlongOn S r.state calls answers) o.stands rest.answers_same);
      state_same = subst (λ (S : State). ReachedOn S calls t) o.stands rest.state_same ∙ sym (state_append (state_of s) frames _);
      is_record_lem = rest.is_record_lem;
    }
same (cleared {s} {r} {calls} {answers} {t} says run) is =
    let o = reset_of_lem s is in
    let stands = ap state_of says ∙ o.stands in
    let rest = same run (says ∙ o.written ∙ ap record_of (sym stands)) in
    record {
      answers_same = reset_too says stands (subst (λ (S : State). AlongOn S r calls answers) stands rest.answers_same);
      state_same = subst (λ (S : State). ReachedOn S calls t) stands rest.state_same;
      is_record_lem = rest.is_record_lem;
    }

-- each list has a run
pub run_of : (s : List ℕ) (calls : List RecordCall) → AreCalls calls → (answers : List RecordTold) × (t : List ℕ) × RecordRun s calls answers t
run_of s [] are = ([], s, ends)
run_of s (on_frame frame table out ∷ calls) are =
    let r = frame_under (table_of table) s frame out in
    let rest = run_of r.state calls are.1 in
    (of_frame r ∷ rest.0, rest.1, framed are.0.0 are.0.1 refl rest.2)
run_of s (on_run frame table run used ∷ calls) are =
    let r = settle_under (table_of table) s frame run used in
    let rest = run_of r.state calls are.1 in
    (of_run r ∷ rest.0, rest.1, settled are.0.0 are.0.1 refl rest.2)
run_of s (on_reset ∷ calls) are =
    let rest = run_of (reset_on s) calls are.1 in
    (of_reset (reset_on s) ∷ rest.0, rest.1, cleared refl rest.2)

-- ---- the accepted frames alone: every frame that the steps are fed is one that a call can be made on
record IsLent (under : Table) (bytes : List ℕ) : Type 0 where
  pub table : List ℕ
  pub are : AreBytes bytes
  pub lent : AreTable table
  pub same : table_of table ≡ under

abbrev AllLent : List Fed → Type 0
AllLent [] = Unit {0}
AllLent (fed_frame under bytes ∷ frames) = IsLent under bytes × AllLent frames
AllLent (fed_reset ∷ frames) = AllLent frames

both_lent : (frames others : List Fed) → AllLent frames → AllLent others → AllLent (frames ++ others)
both_lent [] others all too = too
both_lent (fed_frame under bytes ∷ frames) others all too = (all.0, both_lent frames others all.1 too)
both_lent (fed_reset ∷ frames) others all too = both_lent frames others all too

accepted_lent : (S : State) (frames : List Fed) → AllLent frames → AllLent (accepted_from S frames)
accepted_lent S [] all = tt
accepted_lent S (fed_frame under bytes ∷ rest) all =
    let after = (step_at under S bytes).state in
    let others = accepted_lent after rest all.1 in
    either AllLent (is_accepted (step_at under S bytes)) (fed_frame under bytes ∷ accepted_from after rest) (accepted_from after rest) (all.0, others) others
accepted_lent S (fed_reset ∷ rest) all = accepted_lent (reset_of S) rest all

module _ (table : List ℕ) (lent : AreTable table) (increment : Float) where
  run_lent : (n : ℕ) (u : State) (frame : List ℕ) → AreBytes frame → AllLent (frames_from (table_of table) increment n u frame)
  run_lent zero u frame are = tt
  run_lent (suc n) u frame are =
      let r = step_at (table_of table) u frame in
      let rest = run_lent n (step_at (table_of table) u frame).state (advanced increment frame) (advanced_are increment frame are) in (
        record { table = table; are = are; lent = lent; same = refl },
        either AllLent (is_accepted r && r.outcome.repaint) (frames_from (table_of table) increment n r.state (advanced increment frame)) [] rest tt,
      )

call_lent : (S : State) (call : RecordCall) → AreCall call → AllLent (fed_by S (call_of call))
unfolding frames_of
call_lent S (on_frame frame table out) are = (record { table = table; are = are.0; lent = are.1; same = refl }, tt)
call_lent S (on_run frame table run used) are =
    either AllLent (eqb (settle_refusal S frame (increment_of run) (limit_of run)) 0) (frames_from (table_of table) (increment_of run) (limit_of run) S frame) []
    (run_lent table are.1 (increment_of run) (limit_of run) S frame are.0) tt
call_lent S on_reset are = tt

feed_lent : (S : State) (calls : List RecordCall) → AreCalls calls → AllLent (feed_from S (map call_of calls))
feed_lent S [] are = tt
feed_lent S (call ∷ calls) are = both_lent (fed_by S (call_of call)) _ (call_lent S call are.0) (feed_lent (state_from S (fed_by S (call_of call))) calls are.1)

calls_are : {s : List ℕ} {calls : List RecordCall} {answers : List RecordTold} {t : List ℕ} → RecordRun s calls answers t → AreCalls calls
calls_are ends = tt
calls_are (framed are lent says run) = ((are, lent), calls_are run)
calls_are (settled are lent says run) = ((are, lent), calls_are run)
calls_are (cleared says run) = (tt, calls_are run)

-- calls on given frames with resets in their places, and no others
record CallsOn (frames : List Fed) : Type 0 where
  pub calls : List RecordCall
  pub are : AreCalls calls
  pub no_runs : HaveNoRuns calls
  pub feeds : (S : State) → feed_from S (map call_of calls) ≡ frames

calls_on : (frames : List Fed) → AllLent frames → CallsOn frames
calls_on [] all = record { calls = []; are = tt; no_runs = tt; feeds = λ S. refl }
calls_on (fed_frame under bytes ∷ frames) all =
    let rest = calls_on frames all.1 in
    let one = all.0 in
    record {
      calls = on_frame bytes one.table [] ∷ rest.calls;
      are = ((one.are, one.lent), rest.are);
      no_runs = rest.no_runs;
      feeds = λ S i. fed_frame (one.same i) bytes ∷ rest.feeds (step_at (table_of one.table) S bytes).state i;
    }
calls_on (fed_reset ∷ frames) all =
    let rest = calls_on frames all in
    record {
      calls = on_reset ∷ rest.calls;
      are = (tt, rest.are);
      no_runs = rest.no_runs;
      feeds = λ S. ap (λ (feed : List Fed). fed_reset ∷ feed) (rest.feeds (reset_of S));
    }

-- ---- the claim, of a record from whose state every list of calls goes as demand 3 says
whole_from : (s : List ℕ) → IsRecord s → AllLists (state_of s) → (calls : List RecordCall) (answers : List RecordTold) (t : List ℕ)
    → RecordRun s calls answers t → RecordWhole s calls answers t
whole_from s is all calls answers t run =
    let S = state_of s in
    let steps = all.whole (map call_of calls) _ _ (all.has_run (map call_of calls)) in
    let goes = same run is in
    let recorded : t ≡ record_of (state_from S (feed_on s calls)) = goes.is_record_lem ∙ ap record_of goes.state_same in
    let alone = calls_on (accepted_from S (feed_on s calls)) (accepted_lent S (feed_on s calls) (feed_lent S calls (calls_are run))) in
    let ran = run_of s alone.calls alone.are in
    let goes_alone = same ran.2 is in
    let ends_there : ran.1 ≡ t =
    goes_alone.is_record_lem ∙ ap record_of (goes_alone.state_same ∙ ap (state_from S) (alone.feeds S) ∙ steps.accepted_alone) ∙ sym recorded in
    record {
      same_answers = goes.answers_same;
      same_state = goes.state_same;
      same_record = recorded;
      accepted_alone = (alone.calls, ran.0, subst (RecordRun s alone.calls ran.0) ends_there ran.2, alone.no_runs, alone.feeds S);
      distances = steps.distances;
      clock = steps.clock;
    }

-- ---- of the record that strakobud_fresh writes
zeros : ArePair (F32.zero ∷ F32.zero ∷ [])
zeros = (of_bits-fits binary32 0, of_bits-fits binary32 0)

fresh_is_held : IsHeld default
unfolding default
fresh_is_held = record {
  offset = zeros;
  max_offset = zeros;
  offset_target = (tt, tt);
  show_scroll = tt;
  content_is_too_large = tt;
  scroll_bar_interaction = tt;
  vel = zeros;
  scroll_start_offset_from_top_left = (tt, tt);
  scroll_stuck_to_end = tt;
  interact_rect = tt;
  bounced_this_momentum = tt;
  remembered_time = of_bits-fits binary64 0;
}

fresh_stands : state_of fresh_bytes ≡ default
unfolding fresh_bytes
fresh_stands = written_is_read default fresh_is_held

fresh_is_record : IsRecord fresh_bytes
unfolding fresh_bytes
fresh_is_record = ap record_of (sym fresh_stands)

listing_are : AreBytes listing
unfolding listing
listing_are = words_are listing_words

pub all_lists : AllLists default → AllRecordLists fresh_bytes
all_lists all = record {
  whole = whole_from fresh_bytes fresh_is_record (subst AllLists (sym fresh_stands) all);
  has_run = run_of fresh_bytes;
  listing_shown = (listing_are, λ table. subst (ListingShown table) (sym fresh_stands) (all.listing_shown table));
}
