-- Document 01, "Beginning a frame": the corners of a target under way, for every axis and every number, a not-a-number included.
use Rattle.std.specs.Prelude.{Some}
use Rattle.std.specs.Prelude.{◌≡◌, ℕ, true, false, T, List}
use Rattle.std.specs.Prelude.{Float}
use Rattle.std.specs.Float.{binary32, binary64}
use Rattle.std.specs.Float.Ieee.{lt, le, eq, fits}
use Rattle.numbers.specs.F32.{zero}
use Rattle.numbers.specs.Scalar.{is_finite}
use Rattle.numbers.specs.Corners.{since_of, IsBeforeStart}
use Rattle.area.specs.declared.state.State.{State}
use Rattle.area.specs.declared.state.ScrollingToTarget.{ScrollingToTarget}
use Rattle.area.specs.declared.prepared.AxisBegun.{AxisBegun}
use Rattle.area.specs.Frame.{frame_of}
use Rattle.area.specs.Checks.{refusal_of}
use Rattle.area.specs.Follow.{is_near, arrived, moved_by, approach_of, followed_of}
use Rattle.area.specs.Begin.{dt_of}

-- "A scroll target under way is kept as nothing, or as a start, an end and a goal": what follows is of the second
pub under_way : (b : AxisBegun) (t : ScrollingToTarget) (time dt : Float) →
    b.motion.offset_target ≡ Some t →
    followed_of b time dt ≡ approach_of b t time dt
unfolding followed_of
under_way b t time dt h = rw h

-- "Less than 1 from the goal it snaps there, at any time."
pub near_snaps : (b : AxisBegun) (t : ScrollingToTarget) (time dt : Float) →
    is_near b.motion.offset t ≡ true →
    approach_of b t time dt ≡ arrived b t
unfolding approach_of
near_snaps b t time dt h = rw h

-- "a zero-length span from its start on gives factor 1": near or not, it arrives (proofs/TargetLaws.antt, as the next two)
abbrev pub ZeroLengthArrives : Type 0
ZeroLengthArrives = (b : AxisBegun) (t : ScrollingToTarget) (time dt : Float) →
    since_of t.start t.end ≡ zero → lt (since_of t.start time) zero ≡ false →
    approach_of b t time dt ≡ arrived b t

-- "Otherwise .. time before the start gives factor 0"
abbrev pub BeforeStartMovesBy0 : Type 0
BeforeStartMovesBy0 = (b : AxisBegun) (t : ScrollingToTarget) (time dt : Float) →
    is_near b.motion.offset t ≡ false → IsBeforeStart t.start t.end time dt →
    approach_of b t time dt ≡ moved_by b t zero

-- which leaves an offset that is a finite f32 where it is, if the goal is finite
abbrev pub MovedBy0Stays : Type 0
MovedBy0Stays = (b : AxisBegun) (t : ScrollingToTarget) →
    T (fits binary32 b.motion.offset) → is_finite b.motion.offset ≡ true → is_finite t.target_offset ≡ true →
    eq (moved_by b t zero).motion.offset b.motion.offset ≡ true

-- what IsBeforeStart asks of time and dt holds in every frame that passes checks 1 to 6 (proofs/PassedLaws.antt)
abbrev pub FrameTimesHold : Type 0
FrameTimesHold = (S : State) (bytes : List ℕ) → refusal_of bytes S ≡ 0 →
    T (fits binary64 (frame_of bytes).host.time) × (le zero (dt_of (frame_of bytes).host.stable_dt) ≡ true)
