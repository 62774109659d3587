-- Every number that drag, step, wheel and the scroll target of an axis leave is one that binary32 holds, if those that they pass on are.
-- An operation rounds, so what it gives always is. Assumes nothing.
use mathlib.Core.Bool.{Bool, not, ◌&&◌, ◌||◌}
use lib.Ieee.{Float, nan, inf, fin, binary32, fits, lt, le, eq, ne}
use lib.Ieee.Fits.{add-fits, mul-fits, div-fits, nan-fits, inf-fits}
use lib.Ieee.Bits.{of_bits-fits}
use lib.Dec.{T}
use Rattle.numbers.proofs.TestLaws.{either}
use Rattle.numbers.specs.F32.{plus, minus, times, zero}
use Rattle.numbers.specs.Scalar.{with_sign, sign_bit, copysign_of, max_of, min_of}
use Rattle.numbers.specs.Range.{clamp_of, contains_of}
use Rattle.numbers.specs.Blend.{lerp_of, remap_of}
use Rattle.numbers.specs.Table.{Table}
use Rattle.numbers.specs.declared.range.Rangef.{Rangef}
use Rattle.axis.specs.RubberBand.{move_freely_of, stretch_of, crosses_edge, rubber_band_drag_of}
use Rattle.axis.specs.Physics.{scroll_bounds_of, axis_clamp_of, is_overscrolled, drag_of, overscroll_of}
use Rattle.axis.specs.Step.{critically_damped_spring_step_of, spring_back_of, coast_of, rests, step_of}
use Rattle.axis.specs.Wheel.{bounce_velocity_of, bounce_start_of, momentum_of, is_momentum, trackpad_drag_of, consume_of, can_scroll, can_rubber_band, speed_of, wheel_of}
use Rattle.axis.specs.declared.physics.AxisPhysics.{AxisPhysics}
use Rattle.axis.specs.declared.physics.KineticScrollStyle.{KineticScrollStyle}
use Rattle.axis.specs.declared.rubber_band.FreeMove.{FreeMove}
use Rattle.axis.specs.declared.step.Stepped.{Stepped}
use Rattle.axis.specs.declared.step.Spring.{Spring}
use Rattle.axis.specs.declared.wheel.WheelScroll.{WheelScroll}
use Rattle.axis.specs.declared.wheel.Wheeled.{Wheeled}

-- a number that the format holds
abbrev pub Is32 : Float → Type 0
Is32 x = T (fits binary32 x)

-- ---- what passes a number on

pub zero_held : Is32 zero
zero_held = of_bits-fits binary32 0

pub clamp_held : (x min max : Float) → Is32 x → Is32 min → Is32 max → Is32 (clamp_of x min max)
unfolding clamp_of
clamp_held x min max h low high = either Is32 (lt x min) min _ low (either Is32 (lt max x) max x high h)

pub max_held : (a b : Float) → Is32 a → Is32 b → Is32 (max_of a b)
unfolding max_of
max_held a b = either Is32 (lt b a) a b

pub min_held : (a b : Float) → Is32 a → Is32 b → Is32 (min_of a b)
unfolding min_of
min_held a b = either Is32 (lt a b) a b

with_sign_held : (s : Bool) (x : Float) → Is32 x → Is32 (with_sign s x)
unfolding fits
with_sign_held s nan h = nan-fits binary32
with_sign_held s (inf t) h = inf-fits binary32 s
with_sign_held s (fin t m e) h = h

pub lerp_held : (a b t : Float) → Is32 (lerp_of a b t)
unfolding lerp_of
lerp_held a b t = add-fits binary32 _ _

pub remap_held : (x from_start from_end to_start to_end : Float) → Is32 (remap_of x from_start from_end to_start to_end)
unfolding remap_of
remap_held x from_start from_end to_start to_end = lerp_held _ _ _

-- ---- bounds
abbrev pub AreBounds : Rangef → Type 0
AreBounds r = Is32 r.min × Is32 r.max

pub bounds_held : (max_offset : Float) → Is32 max_offset → AreBounds (scroll_bounds_of max_offset)
unfolding scroll_bounds_of
bounds_held max_offset h = (zero_held, max_held max_offset zero h zero_held)

within_held : (bounds : Rangef) (x : Float) → AreBounds bounds → Is32 x → Is32 (clamp_of x bounds.min bounds.max)
within_held bounds x are h = clamp_held x bounds.min bounds.max h are.0 are.1

axis_clamp_held : (p : AxisPhysics) (offset : Float) → AreBounds p.bounds → Is32 offset → Is32 (axis_clamp_of p offset)
unfolding axis_clamp_of
axis_clamp_held p offset = within_held p.bounds offset

-- ---- drag
free_held : (offset delta : Float) (bounds : Rangef) → AreBounds bounds → Is32 offset → Is32 (move_freely_of offset delta bounds).offset
unfolding move_freely_of
free_held offset delta bounds are h =
    either (λ (m : FreeMove). Is32 m.offset) (contains_of bounds offset) _ _ (within_held bounds (plus offset delta) are (add-fits binary32 _ _)) h

stretch_held : (offset delta : Float) (bounds : Rangef) (extent slope : Float) → AreBounds bounds → Is32 (stretch_of offset delta bounds extent slope)
unfolding stretch_of
stretch_held offset delta bounds extent slope are = either Is32 (crosses_edge _ _) _ _ (within_held bounds _ are (add-fits binary32 _ _)) (add-fits binary32 _ _)

rubber_band_drag_held : (offset delta : Float) (bounds : Rangef) (extent slope : Float) → AreBounds bounds → Is32 offset
    → Is32 (rubber_band_drag_of offset delta bounds extent slope)
unfolding rubber_band_drag_of
rubber_band_drag_held offset delta bounds extent slope are h =
    either Is32 (eq (move_freely_of offset delta bounds).delta zero) _ _ (free_held offset delta bounds are h) (stretch_held _ _ bounds extent slope are)

pub drag_held : (p : AxisPhysics) (offset delta : Float) → AreBounds p.bounds → Is32 offset → Is32 (drag_of p offset delta)
unfolding drag_of
drag_held p offset delta are h = either Is32 p.style.rubber_band _ _ (rubber_band_drag_held offset delta p.bounds _ _ are h) (add-fits binary32 _ _)

-- ---- step
abbrev pub IsStepped : Stepped → Type 0
IsStepped r = Is32 r.offset × Is32 r.vel

spring_held : (table : Table) (x0 v0 dt time_constant : Float) → Is32 (critically_damped_spring_step_of table x0 v0 dt time_constant).velocity
unfolding critically_damped_spring_step_of
spring_held table x0 v0 dt time_constant = either (λ (s : Spring). Is32 s.velocity) (le time_constant zero) _ _ zero_held (mul-fits binary32 _ _)

spring_back_held : (table : Table) (edge overscroll vel dt stop_distance : Float) → Is32 edge → IsStepped (spring_back_of table edge overscroll vel dt stop_distance)
unfolding spring_back_of
spring_back_held table edge overscroll vel dt stop_distance h =
    either IsStepped _ _ _ (h, zero_held) (add-fits binary32 _ _, spring_held table overscroll vel dt _)

coast_held : (table : Table) (offset vel dt : Float) (style : KineticScrollStyle) → Is32 offset → IsStepped (coast_of table offset vel dt style)
unfolding coast_of
coast_held table offset vel dt style h = either IsStepped (rests style vel) _ _ (h, zero_held) (add-fits binary32 _ _, mul-fits binary32 _ _)

pub step_held : (table : Table) (p : AxisPhysics) (offset vel dt : Float) (hold : Bool) → AreBounds p.bounds → Is32 offset → Is32 vel
    → IsStepped (step_of table p offset vel dt hold)
unfolding step_of
step_held table p offset vel dt hold are o v =
    let edge : Float = axis_clamp_of p offset in
    either IsStepped (p.style.rubber_band && ne (minus offset edge) zero) _ _
    (either IsStepped hold _ _ (o, v) (spring_back_held table edge (minus offset edge) vel dt p.style.stop_distance (axis_clamp_held p offset are o)))
    (coast_held table offset vel dt p.style o)

-- ---- wheel
abbrev pub IsWheeled : Wheeled → Type 0
IsWheeled r = Is32 r.offset × Is32 r.vel

speed_held : (p : AxisPhysics) (offset delta dt : Float) → Is32 (bounce_velocity_of p offset delta dt)
unfolding bounce_velocity_of speed_of copysign_of
speed_held p offset delta dt =
    with_sign_held (sign_bit delta) _ (min_held _ _ (either Is32 (lt zero dt) _ _ (div-fits binary32 _ _) zero_held) (div-fits binary32 _ _))

start_held : (p : AxisPhysics) (offset unclamped : Float) → AreBounds p.bounds → Is32 offset → Is32 unclamped → Is32 (bounce_start_of p offset unclamped)
unfolding bounce_start_of
start_held p offset unclamped are o u = either Is32 (not (is_overscrolled p offset)) _ _ (axis_clamp_held p unclamped are u) o

momentum_held : (p : AxisPhysics) (offset vel : Float) (scroll : WheelScroll) (bounced : Bool) → AreBounds p.bounds → Is32 offset → Is32 vel
    → IsWheeled (momentum_of p offset vel scroll bounced)
unfolding momentum_of
momentum_held p offset vel scroll bounced are o v =
    let unclamped : Float = plus offset scroll.delta in
    let u : Is32 unclamped = add-fits binary32 offset scroll.delta in
    either IsWheeled bounced _ _ (o, v)
    (either IsWheeled (contains_of p.bounds unclamped) _ _ (u, v)
    (start_held p offset unclamped are o u, speed_held p (bounce_start_of p offset unclamped) scroll.delta scroll.dt))

consume_held : (p : AxisPhysics) (offset vel : Float) (scroll : WheelScroll) (bounced rubber_band : Bool) → AreBounds p.bounds → Is32 offset → Is32 vel
    → IsWheeled (consume_of p offset vel scroll bounced rubber_band)
unfolding consume_of trackpad_drag_of
consume_held p offset vel scroll bounced rubber_band are o v =
    either IsWheeled (rubber_band && lt (times (overscroll_of p offset) scroll.delta) zero) _ _ (add-fits binary32 _ _, zero_held)
    (either IsWheeled (rubber_band && is_momentum scroll.source) _ _ (momentum_held p offset vel scroll bounced are o v)
    (either IsWheeled rubber_band _ _ (rubber_band_drag_held offset scroll.delta p.bounds _ _ are o, zero_held)
    (axis_clamp_held p _ are (add-fits binary32 _ _), v)))

pub wheel_held : (p : AxisPhysics) (offset vel : Float) (scroll : WheelScroll) (bounced : Bool) → AreBounds p.bounds → Is32 offset → Is32 vel
    → IsWheeled (wheel_of p offset vel scroll bounced)
unfolding wheel_of
wheel_held p offset vel scroll bounced are o v =
    let left : Bool = is_momentum scroll.source && bounced in
    let rubber_band : Bool = can_rubber_band p offset scroll left in
    either IsWheeled (eq scroll.delta zero) _ _ (o, v)
    (either IsWheeled (not (rubber_band || can_scroll p offset scroll.delta)) _ _ (o, v) (consume_held p offset vel scroll left rubber_band are o v))
