-- Every turn of the wheel in a frame that passes checks 1 to 5 is one that the law of the wheel covers. Assumes nothing.
use Rattle.std.specs.Prelude.{◌≡◌, ℕ, zero, suc, ◌<◌, Bool, true, false, ◌&&◌, List}
use mathlib.Core.Path.{subst, sym, ap, ◌∙◌}
use Rattle.numbers.specs.Axis.{index_of}
use Rattle.numbers.specs.declared.axis.Axis.{Axis}
use native.Mathlib.Omega.{arith}
use lib.Ieee.{Float, binary32, neg, le}
use Rattle.numbers.specs.F32.{plus, times}
use Rattle.numbers.specs.Scalar.{is_finite}
use Rattle.numbers.proofs.TestLaws as Test
use Rattle.numbers.proofs.TestLaws.{chosen}
use Rattle.numbers.proofs.MagnitudeLaws.{IsUpTo, up_to_finite, neg_up_to, add_up_to, mul_up_to}
use Rattle.axis.specs.Physics.{scroll_bounds_of}
use Rattle.axis.specs.Wheel.{wheel_of}
use Rattle.axis.specs.WheelLaw.{WheelHolds, IsCovered}
use Rattle.axis.specs.declared.physics.AxisPhysics.{AxisPhysics}
use Rattle.axis.specs.declared.wheel.WheelScroll.{WheelScroll}
use Rattle.axis.specs.declared.wheel.Wheeled.{Wheeled}
use Rattle.axis.proofs.LimitLaws.{limit_up_to}
use Rattle.axis.proofs.WheelLaws.{wheel_holds}
use Rattle.area.specs.Geometry.{pick_of}
use Rattle.area.specs.Pair.{flag}
use Rattle.area.specs.AxisPhysics.{physics_of}
use Rattle.area.specs.Frame.{number_no, pair_no, host_of, settings_of, frame_of}
use Rattle.area.specs.Checks.{frame_refusal}
use Rattle.area.specs.WheelTurn.{wheel_scroll_of, wheel_physics_of, taken, untaken, unheard, turned_by, turned_of, left_of, TurnHolds}
use Rattle.area.specs.declared.fields.Frame.{Frame}
use Rattle.area.specs.declared.prepared.AxisBefore.{AxisBefore}
use Rattle.area.specs.declared.prepared.AxisMotion.{AxisMotion}
use Rattle.area.specs.declared.prepared.AxisSpace.{AxisSpace}
use Rattle.area.specs.declared.extent.AxisExtent.{AxisExtent}
use Rattle.area.specs.declared.wheel_turn.Turned.{Turned}
use Rattle.area.specs.declared.wheel_turn.WheelHeard.{WheelHeard}
use Rattle.area.proofs.OrderLaws.{range_ordered}
use Rattle.area.proofs.PassedLaws.{wheel_limited}

-- ---- the delta is finite: at most twice 2 ^ 20, times 2 ^ 20
delta_up_to : (always : Bool) (x y own multiplier : Float) → IsUpTo 20 x → IsUpTo 20 y → IsUpTo 20 own → IsUpTo 20 multiplier
    → is_finite (neg (times (pick_of always (plus x y) own) multiplier)) ≡ true
unfolding pick_of
delta_up_to true x y own multiplier p q o m =
    up_to_finite 41 _ (neg_up_to 41 (times (plus x y) multiplier) (mul_up_to binary32 21 20 (plus x y) multiplier (omega arith) (add_up_to binary32 20 x y (omega arith) p q) m))
delta_up_to false x y own multiplier p q o m =
    up_to_finite 40 _ (neg_up_to 40 (times own multiplier) (mul_up_to binary32 20 20 own multiplier (omega arith) o m))

delta_finite : (bytes : List ℕ) (d : ℕ) (always : Bool) → frame_refusal bytes ≡ 0 → d < 2 → is_finite (wheel_scroll_of (frame_of bytes) d always).delta ≡ true
unfolding wheel_scroll_of frame_of host_of settings_of pair_no number_no
delta_finite bytes zero always h l =
    let limited = wheel_limited bytes h in
    let x = limit_up_to _ limited.delta_x in
    delta_up_to always _ _ _ _ x (limit_up_to _ limited.delta_y) x (limit_up_to _ limited.multiplier_x)
delta_finite bytes (suc zero) always h l =
    let limited = wheel_limited bytes h in
    let y = limit_up_to _ limited.delta_y in
    delta_up_to always _ _ _ _ (limit_up_to _ limited.delta_x) y y (limit_up_to _ limited.multiplier_y)
delta_finite bytes (suc (suc d)) always h l = absurd (omega arith)

-- ---- the bounds are in order, whatever the maximum offset
bounds_ordered : (f : Frame) (d : ℕ) (before : AxisBefore) (space : AxisSpace) (extent : AxisExtent)
    → le (wheel_physics_of f d before space extent).bounds.min (wheel_physics_of f d before space extent).bounds.max ≡ true
unfolding wheel_physics_of physics_of scroll_bounds_of
bounds_ordered f d before space extent = range_ordered extent.max_offset

-- ---- the law
turned_holds : (physics : AxisPhysics) (scroll : WheelScroll) (m : AxisMotion) (rubber_banding bounced : Bool) → IsCovered physics scroll
    → WheelHolds physics m.offset m.vel scroll bounced (left_of (turned_by physics scroll m rubber_banding bounced))
unfolding turned_by
turned_holds physics scroll m rubber_banding bounced covered =
    let r = wheel_of physics m.offset m.vel scroll bounced in
    let holds = wheel_holds physics m.offset m.vel scroll bounced covered in
    let Holds : Wheeled → Type 0 = WheelHolds physics m.offset m.vel scroll bounced in
    let answered : Bool → Type 0 =
    λ c. Holds (record { offset = r.offset; vel = r.vel; bounced_this_momentum = r.bounced_this_momentum; consumed = c }) in
    chosen (λ (t : Turned). Holds (left_of t)) r.consumed (taken physics r) (untaken m rubber_banding r) (λ e. subst answered e holds) (λ e. subst answered e holds)

pub turn_holds : (bytes : List ℕ) (d : ℕ) (before : AxisBefore) (space : AxisSpace) (extent : AxisExtent) (wheel : WheelHeard) (m : AxisMotion)
    → (rubber_banding : Bool) → d < 2
    → TurnHolds bytes d before space extent wheel m (turned_of (frame_of bytes) d before space extent wheel m rubber_banding)
unfolding turned_of
turn_holds bytes d before space extent wheel m rubber_banding l h turns =
    let f = frame_of bytes in
    let physics = wheel_physics_of f d before space extent in
    let scroll = wheel_scroll_of f d wheel.always_scroll_enabled_direction in
    let bounced = before.bounced_this_momentum in
    Test.taken (λ (t : Turned). WheelHolds physics m.offset m.vel scroll bounced (left_of t)) (wheel.heard && flag f.settings.direction_enabled d)
    (turned_by physics scroll m rubber_banding bounced) (unheard m rubber_banding bounced) turns
    (turned_holds physics scroll m rubber_banding bounced (bounds_ordered f d before space extent, delta_finite bytes d wheel.always_scroll_enabled_direction h l))

-- so of what a turn leaves that equals it, seen through any bytes that the frame stands for
pub turn_holds_of : (bytes : List ℕ) (f : Frame) (d : Axis) (before : AxisBefore) (space : AxisSpace) (extent : AxisExtent) (wheel : WheelHeard)
    → (m : AxisMotion) (rubber_banding : Bool) (t : Turned) → f ≡ frame_of bytes
    → t ≡ turned_of f (index_of d) before space extent wheel m rubber_banding
    → TurnHolds bytes (index_of d) before space extent wheel m t
turn_holds_of bytes f d before space extent wheel m rubber_banding t seen e =
    let is = e ∙ ap (λ (g : Frame). turned_of g (index_of d) before space extent wheel m rubber_banding) seen in
    subst (TurnHolds bytes (index_of d) before space extent wheel m) (sym is)
    (turn_holds bytes (index_of d) before space extent wheel m rubber_banding (index_below d))
  where
    index_below : (a : Axis) → index_of a < 2
    index_below Axis.X = omega arith
    index_below Axis.Y = omega arith
