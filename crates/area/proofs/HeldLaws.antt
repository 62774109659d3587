-- The numbers that a frame stores are ones that their formats hold, if those of the state that it began with are: what is passed on is held,
-- and what is computed is rounded. Assumes nothing.
use Rattle.std.specs.Prelude.{Option, Some, None}
use Rattle.std.specs.Prelude.{Float}
use mathlib.Core.Bool.{Bool, not}
use mathlib.Core.List.{List, [], ◌∷◌}
use Prim.Native.Nat.{ℕ, zero, suc}
use lib.Dec.{T}
use lib.Ieee.{Float, binary32, binary64, fits, eq}
use lib.Ieee.Fits.{add-fits, sub-fits, mul-fits, neg-fits}
use lib.Ieee.Bits.{of_bits-fits}
use Rattle.numbers.specs.F32.{plus, minus, times, over, one}
use Rattle.numbers.specs.F32 as F32
use Rattle.numbers.specs.Table.{Table}
use Rattle.numbers.specs.declared.range.Rangef.{Rangef}
use Rattle.numbers.specs.declared.shape.Pos2.{Pos2}
use Rattle.axis.specs.declared.physics.AxisPhysics.{AxisPhysics}
use Rattle.axis.specs.declared.physics.KineticScrollStyle.{KineticScrollStyle}
use Rattle.axis.specs.declared.wheel.WheelScroll.{WheelScroll}
use Rattle.axis.specs.Wheel.{wheel_of}
use Rattle.numbers.proofs.TestLaws.{either}
use Rattle.axis.proofs.FitsLaws.{zero_held, clamp_held, lerp_held, remap_held, AreBounds, bounds_held, drag_held, step_held, wheel_held, Is32}
use Rattle.area.specs.Pair.{num, flag}
use Rattle.numbers.specs.Shape.{along_of}
use Rattle.area.specs.Geometry.{pick_of}
use Rattle.area.specs.Layout as At
use Rattle.area.specs.Frame.{frame_of, settings_of, host_of, maybe_number_no, number_no, flag_no, time_no, rect_no, pos2_no, option_no}
use Rattle.area.specs.State.{no_target, clamped_to}
use Rattle.area.specs.AxisPhysics.{physics_of}
use Rattle.area.specs.Drive.{given_offset_or, no_given_offset, opened_of, before_of, dragged_of, dragged_to, left_alone, released_of, stepped_of, driven_of}
use Rattle.area.specs.Follow.{approach_of, moved_towards, moved_by, arrived, is_near, followed_of}
use Rattle.area.specs.Adjust as Adjust
use Rattle.area.specs.Space.{space_by, space_of, side_of}
use Rattle.area.specs.Begin.{begin_of, prepared_of, begun_from, driven_from, last_physics_of, input_of}
use Rattle.area.specs.Extent.{extent_by, extent_of}
use Rattle.area.specs.WheelTurn.{turned_by, turned_of, wheel_physics_of}
use Rattle.area.specs.Stick.{stick_of}
use Rattle.area.specs.Press.{press_of, press_at, start_offset_of, new_start_offset, offset_of, is_on_handle, handle_top_pos_at_bottom}
use Rattle.area.specs.Bar.{bound_motion_of, shown_bar, turn_bar, bar_of}
use Rattle.area.specs.Handle.{handle_of, track_of}
use Rattle.area.specs.FinalClamp.{final_clamp_of}
use Rattle.area.specs.End.{bar_space_of, stuck_stage, barred_stage, ended_by, finished_of, axis_ended_of, end_of}
use Rattle.area.specs.PutOut.{next_state, answer_of}
use Rattle.area.specs.Outcome.{refused_of}
use Rattle.area.specs.Call.{run_of, call_under}
use Rattle.area.specs.declared.state.State.{State}
use Rattle.area.specs.declared.state.ScrollingToTarget.{ScrollingToTarget}
use Rattle.area.specs.declared.fields.Frame.{Frame}
use Rattle.area.specs.declared.fields.ScrollAnimation.{ScrollAnimation}
use Rattle.area.specs.declared.fields.BarResponse.{BarResponse}
use Rattle.area.specs.declared.prepared.AxisMotion.{AxisMotion}
use Rattle.area.specs.declared.prepared.AxisBefore.{AxisBefore}
use Rattle.area.specs.declared.prepared.AxisBegun.{AxisBegun}
use Rattle.area.specs.declared.prepared.AxisSpace.{AxisSpace}
use Rattle.area.specs.declared.drive.AxisInput.{AxisInput}
use Rattle.area.specs.declared.adjust.AskedDelta.{AskedDelta}
use Rattle.area.specs.declared.adjust.Adjusted.{Adjusted}
use Rattle.area.specs.declared.extent.AxisExtent.{AxisExtent}
use Rattle.area.specs.declared.wheel_turn.WheelHeard.{WheelHeard}
use Rattle.area.specs.declared.wheel_turn.Turned.{Turned}
use Rattle.area.specs.declared.handle.Track.{Track}
use Rattle.area.specs.declared.press.Pressed.{Pressed}
use Rattle.area.specs.declared.bar.Barred.{Barred}
use Rattle.area.specs.declared.end.Extents.{Extents}
use Rattle.area.specs.declared.end.AxisEnded.{AxisEnded}
use Rattle.area.specs.declared.end.Ended.{Ended}
use Rattle.area.specs.Outcome.{Answer}

abbrev pub Is64 : Float → Type 0
Is64 x = T (fits binary64 x)

abbrev pub IsTarget : Option ScrollingToTarget → Type 0
IsTarget None = Unit {0}
IsTarget (Some t) = Is64 t.start × Is64 t.end × Is32 t.target_offset

abbrev pub IsPress : Option Float → Type 0
IsPress None = Unit {0}
IsPress (Some x) = Is32 x

-- what of the state moves on an axis
pub record IsMotion (m : AxisMotion) : Type 0 where
  pub offset : Is32 m.offset
  pub vel : Is32 m.vel
  pub target : IsTarget m.offset_target

-- ---- the frame's own numbers
number_held : (s : List ℕ) (n : ℕ) → Is32 (number_no s n)
unfolding number_no
number_held s n = of_bits-fits binary32 _

time_held : (s : List ℕ) (n : ℕ) → Is64 (time_no s n)
unfolding time_no
time_held s n = of_bits-fits binary64 _

abbrev IsGiven : Option Float → Type 0
IsGiven None = Unit {0}
IsGiven (Some x) = Is32 x

given_held : (s : List ℕ) (n : ℕ) → IsGiven (maybe_number_no s n)
unfolding option_no
given_held s n = either IsGiven (flag_no s n) _ _ (number_held s _) tt

given_or_held : (g : Option Float) (offset : Float) → IsGiven g → Is32 offset → Is32 (given_offset_or g offset)
unfolding given_offset_or
given_or_held g offset is h = of g is
  where
    of : (m : Option Float) → IsGiven m → Is32 (Rattle.area.specs.Drive.unwrap_or m offset)
    of None is = h
    of (Some x) is = is

along_held : (s : List ℕ) (n d : ℕ) → Is32 (along_of (pos2_no s n) d)
unfolding along_of pos2_no
along_held s n d = either Is32 _ _ _ (number_held s n) (number_held s _)

-- ---- begin
no_target_held : IsTarget no_target
no_target_held = tt

dragged_held : (m : AxisMotion) (p : AxisPhysics) (i : AxisInput) → AreBounds p.bounds → IsMotion m → IsMotion (dragged_of m p i).motion
unfolding dragged_of
dragged_held m p i are is =
    either (λ (b : AxisBegun). IsMotion b.motion) i.direction_enabled _ _
    (record { offset = drag_held p m.offset _ are is.offset; vel = is.vel; target = tt }) is

released_held : (i : AxisInput) (vel : Float) → Is32 vel → Is32 (released_of i vel)
unfolding released_of
released_held i vel h = either Is32 i.drag_stopped _ _ (neg-fits binary32 _ (mul-fits binary32 _ _)) h

stepped_held : (table : Table) (m : AxisMotion) (p : AxisPhysics) (i : AxisInput) → AreBounds p.bounds → IsMotion m → IsMotion (stepped_of table m p i).motion
unfolding stepped_of
stepped_held table m p i are is =
    let r = step_held table p m.offset (released_of i m.vel) i.dt i.hold_overscroll are is.offset (released_held i m.vel is.vel) in
    record { offset = r.0; vel = r.1; target = is.target }

driven_held : (table : Table) (m : AxisMotion) (p : AxisPhysics) (i : AxisInput) → AreBounds p.bounds → IsMotion m → IsMotion (driven_of table m p i).motion
unfolding driven_of
driven_held table m p i are is =
    either (λ (b : AxisBegun). IsMotion b.motion) i.dragged _ _ (dragged_held m p i are is) (stepped_held table m p i are is)

approach_held : (b : AxisBegun) (t : ScrollingToTarget) (time dt : Float) → IsTarget (Some t) → IsMotion (approach_of b t time dt).motion
unfolding approach_of moved_towards
approach_held b t time dt is =
    let P : AxisBegun → Type 0 = λ (a : AxisBegun). IsMotion a.motion in
    let there : IsMotion (arrived b t).motion = record { offset = is.2; vel = zero_held; target = tt } in
    either P (is_near b.motion.offset t) _ _ there
    (either P _ _ _ (record { offset = lerp_held _ _ _; vel = zero_held; target = is }) there)

followed_held : (b : AxisBegun) (time dt : Float) → IsMotion b.motion → IsMotion (followed_of b time dt).motion
unfolding followed_of
followed_held b time dt is = of b.motion.offset_target is.target
  where
    of : (t : Option ScrollingToTarget) → IsTarget t → IsMotion (Rattle.area.specs.Follow.followed_to b time dt t).motion
    of None h = is
    of (Some t) h = approach_held b t time dt h

physics_held : (k : KineticScrollStyle) (enabled large : Bool) (max_offset extent : Float) → Is32 max_offset
    → AreBounds (physics_of k enabled large max_offset extent).bounds
unfolding physics_of
physics_held k enabled large max_offset extent h = bounds_held max_offset h

begun_held : (table : Table) (f : Frame) (d : ℕ) (before : AxisBefore) (m : AxisMotion) (inner : Float) (drag hold : Bool) → Is32 before.max_offset
    → IsMotion m → IsMotion (begun_from table f d before m inner drag hold).motion
unfolding begun_from last_physics_of
begun_held table f d before m inner drag hold h is =
    followed_held (driven_from table f d before m inner drag hold) f.host.time _
    (driven_held table m (last_physics_of f d before inner) (input_of f d drag hold) (physics_held _ _ _ before.max_offset inner h) is)

-- ---- end
retarget_held : (o : Option ScrollingToTarget) (goal delta : Float) (animation : ScrollAnimation) (now : Float) → IsTarget o → Is32 goal → Is64 now
    → IsTarget (Adjust.retarget_of o goal delta animation now)
unfolding Adjust.retarget_of
retarget_held o goal delta animation now is g n = of o is
  where
    of : (t : Option ScrollingToTarget) → IsTarget t → IsTarget (Adjust.retargeted t goal delta animation now)
    of None h = (n, add-fits binary64 _ _, g)
    of (Some t) h = (h.0, h.1, g)

adjusted_held : (m : AxisMotion) (asked : AskedDelta) (enabled animated : Bool) (now : Float) → Is64 now → IsMotion m
    → IsMotion (Adjust.adjusted_by m asked enabled animated now).motion
unfolding Adjust.adjusted_by Adjust.moved_by
adjusted_held m asked enabled animated now n is =
    let P : Adjusted → Type 0 = λ (a : Adjusted). IsMotion a.motion in
    let goal : Is32 (Adjust.target_offset_of m asked) = add-fits binary32 _ _ in
    either P _ _ _
    (either P (not animated) _ _ (record { offset = goal; vel = is.vel; target = is.target })
    (record { offset = is.offset; vel = is.vel; target = retarget_held m.offset_target _ asked.delta asked.animation now is.target goal n }))
    is

turned_held : (p : AxisPhysics) (scroll : WheelScroll) (m : AxisMotion) (rubber_banding bounced : Bool) → AreBounds p.bounds → IsMotion m
    → IsMotion (turned_by p scroll m rubber_banding bounced).motion
unfolding turned_by
turned_held p scroll m rubber_banding bounced are is =
    let r = wheel_held p m.offset m.vel scroll bounced are is.offset is.vel in
    either (λ (t : Turned). IsMotion t.motion) (wheel_of p m.offset m.vel scroll bounced).consumed _ _
    (record { offset = r.0; vel = r.1; target = tt }) (record { offset = r.0; vel = r.1; target = is.target })

wheel_turned_held : (f : Frame) (d : ℕ) (before : AxisBefore) (space : AxisSpace) (x : AxisExtent) (wheel : WheelHeard) (m : AxisMotion) (rubber_banding : Bool)
    → Is32 x.max_offset → IsMotion m → IsMotion (turned_of f d before space x wheel m rubber_banding).motion
unfolding turned_of wheel_physics_of
wheel_turned_held f d before space x wheel m rubber_banding h is =
    either (λ (t : Turned). IsMotion t.motion) _ _ _
    (turned_held _ _ m rubber_banding before.bounced_this_momentum (physics_held _ _ _ x.max_offset space.inner_size h) is) is

stuck_held : (m : AxisMotion) (stick explicit : Bool) (max_offset : Float) → Is32 max_offset → IsMotion m → IsMotion (stick_of m stick explicit max_offset)
unfolding stick_of
stuck_held m stick explicit max_offset h is = either IsMotion _ _ _ (record { offset = h; vel = is.vel; target = is.target }) is

clamped_held : (offset max_offset : Float) → Is32 offset → Is32 max_offset → Is32 (clamped_to offset max_offset)
unfolding clamped_to
clamped_held offset max_offset o h = let b = bounds_held max_offset h in clamp_held offset _ _ o b.0 b.1

-- a press keeps its start, or takes a difference
start_held : (stored : Option Float) (t : Track) (handle : Rangef) (p : Pos2) (d : ℕ) → IsPress stored → Is32 (start_offset_of stored t handle p d)
unfolding start_offset_of new_start_offset
start_held stored t handle p d is = of stored is
  where
    of : (m : Option Float) → IsPress m → Is32 (Rattle.area.specs.Press.start_offset_in m t handle p d)
    of None h = either Is32 (is_on_handle t handle p d) _ _ (sub-fits binary32 _ _) (sub-fits binary32 _ _)
    of (Some x) h = h

offset_held : (t : Track) (handle : Rangef) (top : Float) → Is32 (offset_of t handle top)
unfolding offset_of
offset_held t handle top = either Is32 (eq t.bar.min (handle_top_pos_at_bottom t handle)) _ _ zero_held (remap_held _ _ _ _ _)

abbrev IsPressed : Pressed → Type 0
IsPressed p = IsMotion p.motion × IsPress p.press

pressed_held : (m : AxisMotion) (t : Track) (handle : Rangef) (stored : Option Float) (p : Option Pos2) (d : ℕ) → IsMotion m → IsPress stored
    → IsPressed (press_of m t handle stored p d)
unfolding press_of press_at
pressed_held m t handle stored None d is h = (is, tt)
pressed_held m t handle stored (Some p) d is h =
    (record { offset = offset_held t handle _; vel = is.vel; target = tt }, start_held stored t handle p d h)

bound_held : (m : AxisMotion) (rubber_banding : Bool) (max_offset : Float) → Is32 max_offset → IsMotion m → IsMotion (bound_motion_of m rubber_banding max_offset)
unfolding bound_motion_of pick_of
bound_held m rubber_banding max_offset h is =
    either IsMotion rubber_banding _ _ is
    (record { offset = clamped_held m.offset max_offset is.offset h; vel = either Is32 _ _ _ zero_held is.vel; target = is.target })

abbrev IsBarred : Barred → Type 0
IsBarred b = IsMotion b.motion × IsPress b.press

bar_held : (m : AxisMotion) (t : Track) (factor : Float) (rubber_banding : Bool) (stored : Option Float) (response : BarResponse) (d : ℕ) → Is32 t.max_offset
    → IsMotion m → IsPress stored → IsBarred (turn_bar m t factor rubber_banding stored response d)
unfolding turn_bar shown_bar
bar_held m t factor rubber_banding stored response d h is press =
    let p = pressed_held m t (handle_of t m.offset) stored response.press d is press in
    either IsBarred (eq factor F32.zero) _ _ (is, press) (bound_held _ rubber_banding t.max_offset h p.0, p.1)

-- what the last frame left on an axis, and the room that the frame has for it
pub record IsBefore (b : AxisBefore) : Type 0 where
  pub max_offset : Is32 b.max_offset
  pub press : IsPress b.press

pub record IsExtent (x : AxisExtent) : Type 0 where
  pub min : Is32 x.inner.min
  pub max : Is32 x.inner.max
  pub max_offset : Is32 x.max_offset

pub record IsEnded (e : AxisEnded) : Type 0 where
  pub offset : Is32 e.offset
  pub vel : Is32 e.vel
  pub target : IsTarget e.offset_target
  pub press : IsPress e.press

ended_held : (f : Frame) (d e : ℕ) (before : AxisBefore) (space : AxisSpace) (x : Extents) (wheel : WheelHeard) (b : AxisBegun) → Is64 f.host.time
    → IsBefore before → IsExtent x.this → IsMotion b.motion → IsEnded (axis_ended_of f d e before space x wheel b)
unfolding axis_ended_of finished_of ended_by Adjust.adjusted_of bar_of track_of final_clamp_of pick_of bar_space_of
ended_held f d e before space x wheel b now is room begun =
    let adjusted : Adjusted = Adjust.adjusted_of f d space b.motion in
    let turned : Turned = turned_of f d before space x.this wheel adjusted.motion b.rubber_banding in
    let a : IsMotion adjusted.motion = adjusted_held b.motion _ _ _ f.host.time now begun in
    let t : IsMotion turned.motion = wheel_turned_held f d before space x.this wheel adjusted.motion b.rubber_banding room.max_offset a in
    let s : IsMotion (stuck_stage f d e before x adjusted turned) = stuck_held turned.motion _ _ x.this.max_offset room.max_offset t in
    let r : IsBarred (barred_stage f d e before x adjusted turned) = bar_held _ _ _ turned.rubber_banding before.press _ d room.max_offset s is.press in
    record {
      offset = either Is32 turned.rubber_banding _ _ r.0.offset (clamped_held _ x.this.max_offset r.0.offset room.max_offset);
      vel = r.0.vel;
      target = r.0.target;
      press = r.1;
    }

-- ---- a frame
extent_held : (enabled shrink floating : Bool) (space : AxisSpace) (size : Float) → Is32 space.inner.min → IsExtent (extent_by enabled shrink floating space size)
unfolding extent_by
extent_held enabled shrink floating space size h = record { min = h; max = add-fits binary32 _ _; max_offset = sub-fits binary32 _ _ }

space_held : (s : List ℕ) (shown : Bool) (d e : ℕ) → Is32 (space_of (frame_of s) shown d e).inner.min
unfolding space_of space_by side_of frame_of host_of rect_no
space_held s shown d e = along_held s _ d

-- a state whose numbers on both axes are held: what each axis opens with, and what the last frame left on it
pub record Opens (s : State) : Type 0 where
  pub before : (d : ℕ) → IsBefore (before_of s d)
  pub offset : (d : ℕ) → Is32 (num s.offset d)
  pub vel : (d : ℕ) → Is32 (num s.vel d)
  pub target : (d : ℕ) → IsTarget (Rattle.std.specs.Prelude.slice_index_or s.offset_target d no_target)

opened_held : (bytes : List ℕ) (s : State) → Opens s → (d : ℕ) → IsMotion (opened_of (frame_of bytes).settings s d)
unfolding opened_of frame_of settings_of
opened_held bytes s is d = record {
  offset = given_or_held _ _ (given d) (is.offset d);
  vel = is.vel d;
  target = is.target d;
}
  where
    given : (d : ℕ) → IsGiven (Rattle.std.specs.Prelude.slice_index_or (maybe_number_no bytes At.offset_x ∷ maybe_number_no bytes At.offset_y ∷ []) d no_given_offset)
    given zero = given_held bytes At.offset_x
    given (suc zero) = given_held bytes At.offset_y
    given (suc (suc d)) = tt

-- what `end` leaves, as far as the state stores it
pub record IsLeft (e : Ended) : Type 0 where
  pub x : IsEnded e.x
  pub y : IsEnded e.y
  pub x_extent : IsExtent e.x_extent
  pub y_extent : IsExtent e.y_extent

frame_time_held : (s : List ℕ) → Is64 (frame_of s).host.time
unfolding frame_of host_of
frame_time_held s = time_held s _

left_held : (table : Table) (bytes : List ℕ) (s : State) → Opens s → IsLeft (end_of (frame_of bytes) s (begin_of table (frame_of bytes) s))
unfolding end_of begin_of prepared_of extent_of
left_held table bytes s is =
    let now : Is64 (frame_of bytes).host.time = frame_time_held bytes in
    let x_room = extent_held _ _ _ _ _ (space_held bytes (flag s.show_scroll 1) 0 1) in
    let y_room = extent_held _ _ _ _ _ (space_held bytes (flag s.show_scroll 0) 1 0) in
    record {
      x = ended_held (frame_of bytes) 0 1 (before_of s 0) _ _ _ _ now (is.before 0) x_room
          (begun_held table (frame_of bytes) 0 (before_of s 0) _ _ _ _ (is.before 0).max_offset (opened_held bytes s is 0));
      y = ended_held (frame_of bytes) 1 0 (before_of s 1) _ _ _ _ now (is.before 1) y_room
          (begun_held table (frame_of bytes) 1 (before_of s 1) _ _ _ _ (is.before 1).max_offset (opened_held bytes s is 1));
      x_extent = x_room;
      y_extent = y_room;
    }

-- so what holds of the state that a refusal hands back, and of every state that `end` leaves, holds after a frame
pub stored_held : (P : State → Type 0) (table : Table) (s : State) (bytes : List ℕ) → P s → Opens s
    → ((e : Ended) → IsLeft e → Is64 (frame_of bytes).host.time → P (next_state (frame_of bytes) e)) → P (call_under table s bytes).state
unfolding call_under run_of refused_of answer_of
stored_held P table s bytes given is stores =
    let Q : Answer → Type 0 = λ (a : Answer). P a.state in
    either Q _ _ _
    (either Q _ _ _ given (either Q _ _ _ (stores _ (left_held table bytes s is) (frame_time_held bytes)) given))
    given
