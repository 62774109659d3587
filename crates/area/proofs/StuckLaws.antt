-- An axis that is not dragged stays stuck through `begin`, and through targets, deltas and a wheel that is not taken. Assumes nothing.
use Rattle.std.specs.Prelude.{◌≡◌, ℕ, Bool, true, false, not, ◌&&◌}
use mathlib.Core.Path.{sym, ap, ◌∙◌}
use mathlib.Core.Bool.{true≢false}
use lib.Ieee.{Float, ne}
use Rattle.numbers.specs.Table.{Table}
use Rattle.numbers.specs.F32.{zero}
use Rattle.axis.specs.Wheel.{wheel_of}
use Rattle.axis.specs.declared.physics.AxisPhysics.{AxisPhysics}
use Rattle.axis.specs.declared.wheel.WheelScroll.{WheelScroll}
use Rattle.area.specs.Pair.{flag}
use Rattle.area.specs.Drive.{before_of, opened_of, dragged_offset, dragged_to, left_alone, dragged_of, stepped_of, driven_of}
use Rattle.area.specs.Begin.{input_of, driven_from, begun_from, axis_begun_of}
use Rattle.area.specs.Adjust as Adjust
use Rattle.area.specs.WheelTurn.{wheel_physics_of, wheel_scroll_of, taken, untaken, unheard, turned_by, turned_of}
use Rattle.area.specs.declared.prepared.AxisBefore.{AxisBefore}
use Rattle.area.specs.declared.fields.Frame.{Frame}
use Rattle.area.specs.declared.state.State.{State}
use Rattle.area.specs.declared.prepared.AxisMotion.{AxisMotion}
use Rattle.area.specs.declared.prepared.AxisSpace.{AxisSpace}
use Rattle.area.specs.declared.prepared.AxisBegun.{AxisBegun}
use Rattle.area.specs.declared.drive.AxisInput.{AxisInput}
use Rattle.area.specs.declared.extent.AxisExtent.{AxisExtent}
use Rattle.area.specs.declared.adjust.Adjusted.{Adjusted}
use Rattle.area.specs.declared.adjust.AskedDelta.{AskedDelta}
use Rattle.area.specs.declared.wheel_turn.WheelHeard.{WheelHeard}
use Rattle.area.specs.declared.wheel_turn.Turned.{Turned}
use Rattle.numbers.proofs.TestLaws.{either, chosen, left}
use Rattle.area.proofs.FollowLaws.{followed_keeps}

-- ---- an axis that is not dragged stays stuck in `begin`
abbrev pub BegunStuck : AxisBegun → Type 0
BegunStuck b = b.motion.scroll_stuck_to_end ≡ true

undragged_stuck : (m : AxisMotion) (physics : AxisPhysics) (i : AxisInput) → i.direction_enabled ≡ false → m.scroll_stuck_to_end ≡ true
    → BegunStuck (dragged_of m physics i)
unfolding dragged_of
undragged_stuck m physics i h k =
    left BegunStuck i.direction_enabled (dragged_to m physics (dragged_offset m physics i)) (left_alone m) h k

stepped_stuck : (table : Table) (m : AxisMotion) (physics : AxisPhysics) (i : AxisInput) → m.scroll_stuck_to_end ≡ true
    → BegunStuck (stepped_of table m physics i)
unfolding stepped_of
stepped_stuck table m physics i k = k

driven_stuck : (table : Table) (m : AxisMotion) (physics : AxisPhysics) (i : AxisInput) → (i.dragged && i.direction_enabled) ≡ false
    → m.scroll_stuck_to_end ≡ true → BegunStuck (driven_of table m physics i)
unfolding driven_of
driven_stuck table m physics i h k =
    chosen BegunStuck i.dragged (dragged_of m physics i) (stepped_of table m physics i)
    (λ t. undragged_stuck m physics i (ap (λ (b : Bool). b && i.direction_enabled) (sym t) ∙ h) k)
    (λ t. stepped_stuck table m physics i k)

pub begun_stuck : (table : Table) (f : Frame) (s : State) (d : ℕ) (inner_size : Float) (background_drag hold : Bool)
    → ((background_drag && f.host.dragged) && flag f.settings.direction_enabled d) ≡ false → flag s.scroll_stuck_to_end d ≡ true
    → BegunStuck (axis_begun_of table f s d inner_size background_drag hold)
unfolding begun_from input_of opened_of
begun_stuck table f s d inner_size background_drag hold h k =
    (followed_keeps (driven_from table f d (before_of s d) (opened_of f.settings s d) inner_size background_drag hold) _ _).stuck
    ∙ driven_stuck table (opened_of f.settings s d) _ (input_of f d background_drag hold) h k

-- ---- targets, deltas, and a wheel that is not taken, leave it stuck
abbrev pub AdjustedStuck : Adjusted → Type 0
AdjustedStuck a = a.motion.scroll_stuck_to_end ≡ true

moved_stuck : (m : AxisMotion) (asked : AskedDelta) (animated : Bool) (now : Float) → m.scroll_stuck_to_end ≡ true
    → AdjustedStuck (Adjust.moved_by m asked animated now)
unfolding Adjust.moved_by
moved_stuck m asked animated now k = either AdjustedStuck (not animated) (Adjust.jumped m asked) (Adjust.aimed m asked now) k k

adjusted_stuck : (m : AxisMotion) (asked : AskedDelta) (enabled animated : Bool) (now : Float) → m.scroll_stuck_to_end ≡ true
    → AdjustedStuck (Adjust.adjusted_by m asked enabled animated now)
unfolding Adjust.adjusted_by
adjusted_stuck m asked enabled animated now k =
    either AdjustedStuck (enabled && ne asked.delta zero) (Adjust.moved_by m asked animated now) (Adjust.unadjusted m)
    (moved_stuck m asked animated now k) k

pub adjustment_stuck : (f : Frame) (d : ℕ) (space : AxisSpace) (m : AxisMotion) → m.scroll_stuck_to_end ≡ true
    → AdjustedStuck (Adjust.adjusted_of f d space m)
unfolding Adjust.adjusted_of
adjustment_stuck f d space m k = adjusted_stuck m _ _ _ _ k

abbrev pub StuckIfUntaken : Turned → Type 0
StuckIfUntaken t = t.consumed ≡ false → t.motion.scroll_stuck_to_end ≡ true

wheel_stuck : (physics : AxisPhysics) (scroll : WheelScroll) (m : AxisMotion) (rubber_banding bounced : Bool) → m.scroll_stuck_to_end ≡ true
    → StuckIfUntaken (turned_by physics scroll m rubber_banding bounced)
unfolding turned_by
wheel_stuck physics scroll m rubber_banding bounced k =
    let r = wheel_of physics m.offset m.vel scroll bounced in
    either StuckIfUntaken r.consumed (taken physics r) (untaken m rubber_banding r) (λ h. absurd (true≢false h)) (λ h. k)

pub turned_stuck : (f : Frame) (d : ℕ) (before : AxisBefore) (space : AxisSpace) (extent : AxisExtent) (wheel : WheelHeard) (m : AxisMotion)
    → (rubber_banding : Bool) → m.scroll_stuck_to_end ≡ true → StuckIfUntaken (turned_of f d before space extent wheel m rubber_banding)
unfolding turned_of
turned_stuck f d before space extent wheel m rubber_banding k =
    let bounced = before.bounced_this_momentum in
    either StuckIfUntaken (wheel.heard && flag f.settings.direction_enabled d)
    (turned_by (wheel_physics_of f d before space extent) (wheel_scroll_of f d wheel.always_scroll_enabled_direction) m rubber_banding bounced)
    (unheard m rubber_banding bounced)
    (wheel_stuck _ _ m rubber_banding bounced k)
    (λ h. k)
