-- "with rubber band off the stored offset lies in the range": no stage sets the flag, so the final clamp applies. Assumes nothing.
use Rattle.std.specs.Prelude.{◌≡◌, ℕ, Bool, true, false, ◌&&◌, eqb, List}
use mathlib.Core.Path.{refl, sym, ap, subst, ◌∙◌}
use mathlib.Core.Bool.{true≢false}
use lib.Ieee.{Float}
use Rattle.numbers.specs.Table.{Table}
use Rattle.numbers.specs.Scalar.{is_finite}
use Rattle.axis.specs.Physics.{is_overscrolled, is_rubber_banding}
use Rattle.axis.specs.Wheel.{wheel_of}
use Rattle.axis.specs.declared.physics.AxisPhysics.{AxisPhysics}
use Rattle.axis.specs.declared.physics.KineticScrollStyle.{KineticScrollStyle}
use Rattle.axis.specs.declared.wheel.WheelScroll.{WheelScroll}
use Rattle.area.specs.Pair.{num, flag}
use Rattle.area.specs.Layout as At
use Rattle.area.specs.Frame.{word_no, flag_no, style_of, frame_of}
use Rattle.area.specs.Geometry.{pick_of}
use Rattle.area.specs.AxisPhysics.{physics_of}
use Rattle.area.specs.Drive.{before_of, opened_of, dragged_offset, dragged_to, left_alone, dragged_of, stepped_of, driven_of}
use Rattle.area.specs.Begin.{last_physics_of, driven_from, begun_from, axis_begun_of, prepared_of, begin_of}
use Rattle.area.specs.WheelTurn.{wheel_physics_of, wheel_scroll_of, taken, untaken, unheard, turned_by, turned_of}
use Rattle.area.specs.FinalClamp.{final_clamp_of}
use Rattle.area.specs.End.{ended_by, finished_of, axis_ended_of, end_of}
use Rattle.area.specs.PutOut.{next_state}
use Rattle.area.specs.Steps.{begun_at, ended_at, step_at, is_accepted}
use Rattle.area.specs.Moved.{ended_on, extent_on}
use Rattle.area.specs.Lists.{maximum_offset, IsInRange}
use Rattle.area.specs.declared.prepared.AxisBefore.{AxisBefore}
use Rattle.area.specs.declared.fields.Frame.{Frame}
use Rattle.area.specs.declared.state.State.{State}
use Rattle.area.specs.declared.prepared.AxisMotion.{AxisMotion}
use Rattle.area.specs.declared.prepared.AxisSpace.{AxisSpace}
use Rattle.area.specs.declared.prepared.AxisBegun.{AxisBegun}
use Rattle.area.specs.declared.drive.AxisInput.{AxisInput}
use Rattle.area.specs.declared.extent.AxisExtent.{AxisExtent}
use Rattle.area.specs.declared.adjust.Adjusted.{Adjusted}
use Rattle.area.specs.declared.wheel_turn.WheelHeard.{WheelHeard}
use Rattle.area.specs.declared.wheel_turn.Turned.{Turned}
use Rattle.area.specs.declared.end.Extents.{Extents}
use Rattle.area.specs.declared.end.Ended.{Ended}
use Rattle.numbers.proofs.TestLaws.{fails_left, either}
use Rattle.area.proofs.OrderLaws.{IsWithin, clamped_within}
use Rattle.area.proofs.FollowLaws.{followed_keeps}
use Rattle.area.proofs.CallLaws.{IsFiniteOn, accepted}

-- ---- rubber_banding[d] stays false

-- with rubber band off an axis has none
abbrev IsOff : AxisPhysics → Type 0
IsOff physics = physics.style.rubber_band ≡ false

physics_off : (kinetic : KineticScrollStyle) (enabled too_large : Bool) (max_offset extent : Float) → kinetic.rubber_band ≡ false
    → IsOff (physics_of kinetic enabled too_large max_offset extent)
unfolding physics_of
physics_off kinetic enabled too_large max_offset extent off =
    fails_left (kinetic.rubber_band && enabled) too_large (fails_left kinetic.rubber_band enabled off)

unbanded : (physics : AxisPhysics) (offset : Float) → IsOff physics → is_rubber_banding physics offset ≡ false
unfolding is_rubber_banding
unbanded physics offset off = fails_left physics.style.rubber_band (is_overscrolled physics offset) off

-- begin
abbrev BegunUnbanded : AxisBegun → Type 0
BegunUnbanded b = b.rubber_banding ≡ false

dragged_unbanded : (m : AxisMotion) (physics : AxisPhysics) (i : AxisInput) → IsOff physics → BegunUnbanded (dragged_of m physics i)
unfolding dragged_of
dragged_unbanded m physics i off =
    either BegunUnbanded i.direction_enabled (dragged_to m physics (dragged_offset m physics i)) (left_alone m)
    (unbanded physics (dragged_offset m physics i) off) refl

stepped_unbanded : (table : Table) (m : AxisMotion) (physics : AxisPhysics) (i : AxisInput) → IsOff physics
    → BegunUnbanded (stepped_of table m physics i)
unfolding stepped_of
stepped_unbanded table m physics i off = unbanded physics _ off

driven_unbanded : (table : Table) (m : AxisMotion) (physics : AxisPhysics) (i : AxisInput) → IsOff physics
    → BegunUnbanded (driven_of table m physics i)
unfolding driven_of
driven_unbanded table m physics i off =
    either BegunUnbanded i.dragged (dragged_of m physics i) (stepped_of table m physics i) (dragged_unbanded m physics i off)
    (stepped_unbanded table m physics i off)

begun_unbanded : (table : Table) (f : Frame) (s : State) (d : ℕ) (inner_size : Float) (background_drag hold : Bool)
    → f.style.kinetic.rubber_band ≡ false → BegunUnbanded (axis_begun_of table f s d inner_size background_drag hold)
unfolding begun_from last_physics_of
begun_unbanded table f s d inner_size background_drag hold off =
    (followed_keeps (driven_from table f d (before_of s d) (opened_of f.settings s d) inner_size background_drag hold) _ _).rubber_banding
    ∙ driven_unbanded table _ _ _ (physics_off f.style.kinetic _ _ _ _ off)

-- the wheel
abbrev TurnedUnbanded : Turned → Type 0
TurnedUnbanded t = t.rubber_banding ≡ false

wheel_unbanded : (physics : AxisPhysics) (scroll : WheelScroll) (m : AxisMotion) (rubber_banding bounced : Bool) → IsOff physics
    → rubber_banding ≡ false
    → TurnedUnbanded (turned_by physics scroll m rubber_banding bounced)
unfolding turned_by
wheel_unbanded physics scroll m rubber_banding bounced off p =
    let r = wheel_of physics m.offset m.vel scroll bounced in
    either TurnedUnbanded r.consumed (taken physics r) (untaken m rubber_banding r) (unbanded physics r.offset off) p

turned_unbanded : (f : Frame) (d : ℕ) (before : AxisBefore) (space : AxisSpace) (extent : AxisExtent) (wheel : WheelHeard) (m : AxisMotion)
    → (rubber_banding : Bool) → f.style.kinetic.rubber_band ≡ false → rubber_banding ≡ false
    → TurnedUnbanded (turned_of f d before space extent wheel m rubber_banding)
unfolding turned_of wheel_physics_of
turned_unbanded f d before space extent wheel m rubber_banding off p =
    let bounced = before.bounced_this_momentum in
    either TurnedUnbanded (wheel.heard && flag f.settings.direction_enabled d)
    (turned_by (wheel_physics_of f d before space extent) (wheel_scroll_of f d wheel.always_scroll_enabled_direction) m rubber_banding bounced)
    (unheard m rubber_banding bounced)
    (wheel_unbanded _ _ m rubber_banding bounced (physics_off f.style.kinetic _ _ _ _ off) p)
    p

-- ---- the final clamp
final_within : (m : AxisMotion) (rubber_banding : Bool) (max_offset : Float) (stick adjusted : Bool) → rubber_banding ≡ false
    → is_finite (final_clamp_of m rubber_banding max_offset stick adjusted).offset ≡ true
    → IsWithin (final_clamp_of m rubber_banding max_offset stick adjusted).offset max_offset
unfolding final_clamp_of pick_of
final_within m true max_offset stick adjusted p q = absurd (true≢false p)
final_within m false max_offset stick adjusted p q = clamped_within m.offset max_offset q

-- one axis through `end`
finished_within : (f : Frame) (d e : ℕ) (before : AxisBefore) (x : Extents) (adjusted : Adjusted) (turned : Turned) → TurnedUnbanded turned
    → is_finite (finished_of f d e before x adjusted turned).offset ≡ true → IsWithin (finished_of f d e before x adjusted turned).offset x.this.max_offset
unfolding finished_of ended_by
finished_within f d e before x adjusted turned p q = final_within _ turned.rubber_banding x.this.max_offset _ _ p q

ended_within : (f : Frame) (d e : ℕ) (before : AxisBefore) (space : AxisSpace) (x : Extents) (wheel : WheelHeard) (b : AxisBegun)
    → f.style.kinetic.rubber_band ≡ false → BegunUnbanded b
    → is_finite (axis_ended_of f d e before space x wheel b).offset ≡ true
    → IsWithin (axis_ended_of f d e before space x wheel b).offset x.this.max_offset
unfolding axis_ended_of
ended_within f d e before space x wheel b off p q = finished_within f d e before x _ _ (turned_unbanded f d before space x.this wheel _ _ off p) q

-- ---- an accepted frame

-- rubber band is off where word 39 is 0
word_off : (bytes : List ℕ) → word_no bytes At.kinetic_rubber_band ≡ 0 → (frame_of bytes).style.kinetic.rubber_band ≡ false
unfolding frame_of style_of flag_no
word_off bytes h = ap (λ (w : ℕ). eqb w 1) h

abbrev IsEndedWithin : Ended → ℕ → Type 0
IsEndedWithin e d = IsWithin (ended_on e d).offset (extent_on e d).max_offset

within_x : (table : Table) (f : Frame) (s : State) → f.style.kinetic.rubber_band ≡ false → IsFiniteOn (end_of f s (begin_of table f s)) 0
    → IsEndedWithin (end_of f s (begin_of table f s)) 0
unfolding end_of begin_of prepared_of
within_x table f s off n = ended_within f 0 1 _ _ _ _ _ off (begun_unbanded table f s 0 _ _ _ off) n.offset

within_y : (table : Table) (f : Frame) (s : State) → f.style.kinetic.rubber_band ≡ false → IsFiniteOn (end_of f s (begin_of table f s)) 1
    → IsEndedWithin (end_of f s (begin_of table f s)) 1
unfolding end_of begin_of prepared_of
within_y table f s off n = ended_within f 1 0 _ _ _ _ _ off (begun_unbanded table f s 1 _ _ _ off) n.offset

pub in_range : (table : Table) (S : State) (bytes : List ℕ) → is_accepted (step_at table S bytes) ≡ true → word_no bytes At.kinetic_rubber_band ≡ 0
    → IsInRange table S bytes (step_at table S bytes).state 0 × IsInRange table S bytes (step_at table S bytes).state 1
unfolding maximum_offset next_state ended_at begun_at
in_range table S bytes a h =
    let t = accepted table S bytes a in
    let off = word_off bytes h in
    let after : State → Type 0 =
    λ s. IsWithin (num s.offset 0) (maximum_offset table S bytes 0) × IsWithin (num s.offset 1) (maximum_offset table S bytes 1) in
    subst after (sym t.state) (within_x table (frame_of bytes) S off t.x, within_y table (frame_of bytes) S off t.y)
