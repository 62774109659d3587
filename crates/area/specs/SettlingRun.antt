-- Document 02, K1: the settling run, a fold of the frame call; and the list of frames that it is.
use Rattle.std.specs.Prelude.{◌≡◌, ℕ, zero, suc, ◌+◌, ◌-◌, ◌≤◌, Bool, true, false, cond, not, ◌&&◌, ◌||◌, List, [], ◌∷◌, length, pos, ◌==◌, ◌≢◌, nat_eq, nat_lt}
use Rattle.std.specs.Prelude.{refl, Float}
use Rattle.std.specs.Float.{binary64}
use Rattle.std.specs.Float.Ieee.{of_bits, of_int, add, le}
use Rattle.words.specs.Words.{put_at}
use Rattle.numbers.specs.Table.{Table}
use Rattle.area.specs.State.{no_time}
use Rattle.area.specs.Layout as At
use Rattle.area.specs.Frame.{time_no, time_words}
use Rattle.area.specs.Clock.{is_back}
use Rattle.area.specs.Checks.{is_time_outside, refusal_of}
use Rattle.area.specs.Call.{call_under}
use Rattle.area.specs.Steps.{Fed, fed_frame, fed_reset, step_at, answers_from, state_from, is_accepted, accepted_from}
use Rattle.area.specs.Moved.{is_moved_by_words}
use Rattle.area.specs.declared.state.State.{State}
use Rattle.area.specs.Outcome.{Answer}
use Rattle.area.specs.declared.settling_run.SettlingRun.{SettlingRun}
use Rattle.refusals.specs.Refusal.{number_in}

-- the refusal or 0, the frames used, and the state after them
pub record Settled : Type 0 where
  pub refusal : ℕ
  pub used : ℕ
  pub state : State

-- what the code answers, in these words
abbrev pub settled_in : SettlingRun → Settled
settled_in r = record { refusal = number_in r.ended; used = r.used; state = r.state }

-- ---- what is turned back up front

-- "a limit of 0 or above 10,000"
abbrev pub is_no_limit : ℕ → Bool
is_no_limit limit = limit == 0 || nat_lt 10_000 limit

-- "an increment that is not from 0 to 1", in f64
abbrev one_second : Float
one_second = of_bits binary64 0x3ff0_0000_0000_0000

one_second_is : one_second ≡ of_int binary64 (pos 1)
unfolding of_bits of_int
one_second_is = refl

abbrev pub is_no_increment : Float → Bool
is_no_increment increment = not (le no_time increment && le increment one_second)

-- 9: these, "or a frame that by its words, heeded or not, moves an axis by hand or program"
unfoldable pub run_refusal : List ℕ → Float → ℕ → ℕ
run_refusal bytes increment limit =
    cond (is_no_limit limit || is_no_increment increment || is_moved_by_words bytes 0 || is_moved_by_words bytes 1) 9 0

-- "as 9 and after 6": the frame as given goes through 1 to 5, the state through 6; 12 comes after 9, at the first frame
unfoldable pub settle_refusal : State → List ℕ → Float → ℕ → ℕ
settle_refusal state bytes increment limit =
    cond (refusal_of bytes state == 0) (run_refusal bytes increment limit) (refusal_of bytes state)

-- ---- the frames

-- "advances the time by the increment after each frame": words 52 and 53 are replaced by the sum, rounded once
unfoldable pub advanced : Float → List ℕ → List ℕ
advanced increment bytes = put_at (At.time - 1) (time_words (add binary64 (time_no bytes At.time) increment)) bytes

-- a run that ends ahead of any frame; one frame more
abbrev pub ended_with : ℕ → State → Settled
ended_with refusal state = record { refusal = refusal; used = 0; state = state }

abbrev pub counted : Settled → Settled
counted r = record { refusal = r.refusal; used = r.used + 1; state = r.state }

-- at most n frames: "ends at the first frame that wants no repaint, or at the limit"; "a frame refused inside the run ends it with that
-- number and the state and frames before it"
unfoldable pub settle_from : Table → Float → ℕ → State → List ℕ → Settled
settle_from table increment zero state bytes = ended_with 0 state
settle_from table increment (suc n) state bytes =
    let r = call_under table state bytes in
    cond (is_accepted r)
    (counted (cond r.outcome.repaint (settle_from table increment n r.state (advanced increment bytes)) (ended_with 0 r.state)))
    (ended_with r.outcome.refusal state)

-- ---- the run
unfoldable pub settle_under : Table → State → List ℕ → Float → ℕ → Settled
settle_under table state bytes increment limit =
    let refusal = settle_refusal state bytes increment limit in
    cond (refusal == 0) (settle_from table increment limit state bytes) (ended_with refusal state)

-- ---- a run is a list of frames in demand 3's sense

-- those that it tries, at most n, one that ends it by a refusal included
abbrev pub frames_from : Table → Float → ℕ → State → List ℕ → List Fed
frames_from table increment zero S bytes = []
frames_from table increment (suc n) S bytes =
    let r = step_at table S bytes in
    fed_frame table bytes
    ∷ cond (is_accepted r && r.outcome.repaint) (frames_from table increment n r.state (advanced increment bytes)) []

-- none where it is turned back up front
unfoldable pub frames_of : Table → State → List ℕ → Float → ℕ → List Fed
frames_of table S bytes increment limit = cond (settle_refusal S bytes increment limit == 0) (frames_from table increment limit S bytes) []

-- the last answer's refusal, or 0
abbrev pub last_refusal : List Answer → ℕ
last_refusal [] = 0
last_refusal (r ∷ []) = r.outcome.refusal
last_refusal (r ∷ q ∷ answers) = last_refusal (q ∷ answers)

-- what the steps on its frames come to: the number that ended it, as many frames as were accepted, and the state that they reached
unfoldable pub settled_by : Table → State → List ℕ → Float → ℕ → Settled
settled_by table S bytes increment limit =
    let refusal = settle_refusal S bytes increment limit in
    let frames = frames_of table S bytes increment limit in
    record {
      refusal = cond (refusal == 0) (last_refusal (answers_from S frames)) refusal;
      used = length (accepted_from S frames);
      state = state_from S frames;
    }

-- ---- what holds of every run

-- the number that a frame inside can be refused with, or 0
abbrev pub is_inside : ℕ → Bool
is_inside refusal = refusal == 0 || refusal == 3 || refusal == 8 || refusal == 12

-- of a frame inside, on the state S that those before it reached
pub record FrameInside (table : Table) (S : State) (bytes : List ℕ) : Type 0 where
  -- no word of it names a move, as in the frame given
  pub unmoved : (is_moved_by_words bytes 0 ≡ false) × (is_moved_by_words bytes 1 ≡ false)
  pub refused : is_inside (step_at table S bytes).outcome.refusal ≡ true
  -- with 3 exactly where its time is not from 0 to 2^32
  pub late : nat_eq (step_at table S bytes).outcome.refusal 3 ≡ is_time_outside (time_no bytes At.time)
  -- with 12 exactly where it is, and less than the remembered one
  pub back : nat_eq (step_at table S bytes).outcome.refusal 12 ≡ (not (is_time_outside (time_no bytes At.time)) && is_back bytes S)

-- it has frames alone
abbrev pub FramesInside : State → List Fed → Type 0
FramesInside S [] = Unit {0}
FramesInside S (fed_frame table bytes ∷ frames) = FrameInside table S bytes × FramesInside (step_at table S bytes).state frames
FramesInside S (fed_reset ∷ frames) = ⊥

pub record RunHolds (table : Table) (S : State) (bytes : List ℕ) (increment : Float) (limit : ℕ) (r : Settled) : Type 0 where
  -- "counted frames in the settling run's result, bounded by the given limit"; and one at least where none is refused
  pub at_most : r.used ≤ limit
  pub at_least : r.refusal ≡ 0 → 1 ≤ r.used
  -- a refusal up front leaves everything as given
  pub up_front : (settle_refusal S bytes increment limit ≢ 0) → r ≡ ended_with (settle_refusal S bytes increment limit) S
  -- inside, 3, 8 and 12 alone can end it by a refusal, 3 not at its first frame
  pub inside : settle_refusal S bytes increment limit ≡ 0 → is_inside r.refusal ≡ true
  pub not_first : settle_refusal S bytes increment limit ≡ 0 → r.refusal ≡ 3 → 1 ≤ r.used
  -- and 12 at its first frame alone, exactly where that frame's time is less than the remembered one: after it the times do not fall
  pub back : settle_refusal S bytes increment limit ≡ 0 → (r.refusal == 12) ≡ is_back bytes S
  pub only_first : settle_refusal S bytes increment limit ≡ 0 → r.refusal ≡ 12 → r ≡ ended_with 12 S
  pub frames_inside : FramesInside S (frames_of table S bytes increment limit)
  -- it is its frames' steps; so a refusal inside hands back its number with the frames and the state before it
  pub by_steps : r ≡ settled_by table S bytes increment limit
