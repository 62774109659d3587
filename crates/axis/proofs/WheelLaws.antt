-- Which wheel turns are taken: the wheel's definition is under the law of specs/WheelLaw.antt. Assumes nothing.
use Rattle.std.specs.Prelude.{◌≡◌, Bool, true, false, cond, not, ◌&&◌, ◌||◌, T, eqb, Option, Some, None, Result, Ok, Err, IfOk}
use mathlib.Core.Path.{refl, sym, ap, ◌∙◌, subst}
use mathlib.Core.Bool.{true≢false, false≢true}
use native.Mathlib.Omega.{arith}
use borrow.Author.Tests.{eqb-true, eq-eqb, not-false}
use lib.Ieee.{Float, binary32, lt, le, eq, ne, fits}
use Rattle.numbers.specs.F32.{plus, minus, times, zero}
use Rattle.numbers.specs.Scalar.{is_finite}
use Rattle.numbers.specs.Range.{clamp_of, contains_of}
use Rattle.numbers.proofs.TestLaws.{not_left, not_right, and_right, fails_left, fails_right, chosen, either, left}
use Rattle.numbers.proofs.ClampLaws.{IsNumber, finite_number, lesser_number, greater_number, add_number, of_not_below, clamp_between}
use Rattle.numbers.proofs.DifferenceLaws.{differ, same, less_differs}
use Rattle.axis.specs.Physics.{axis_clamp_of, overscroll_of, is_overscrolled}
use Rattle.axis.specs.Wheel as Wheel
use Rattle.axis.specs.Wheel.{wheel_of, wheeled, wheeled_finite, consume_of, momentum_of, can_scroll, can_rubber_band}
use Rattle.axis.specs.Limits.{exceeds_limit, axis_exceeds_limit, is_reversed}
use Rattle.refusals.specs.declared.Refusal.{Refusal}
use Rattle.refusals.specs.Refusal.{Answered, answered}
use Rattle.axis.specs.Call.{lowest_of, wheel_refusal, put_out, wheel_call_of}
use Rattle.axis.specs.WheelLaw.{source_number, from_momentum, can, overscroll, OverscrollIsOutside, band, corner, WheelHolds, IsCovered}
use Rattle.axis.specs.declared.physics.AxisPhysics.{AxisPhysics}
use Rattle.axis.specs.declared.wheel.WheelScroll.{WheelScroll}
use Rattle.axis.specs.declared.wheel.WheelSource.{WheelSource}
use Rattle.axis.specs.declared.wheel.Wheeled.{Wheeled}
use Rattle.axis.proofs.LimitLaws.{within_limit}

-- ---- "exactly": the tests of the definition are the law's

-- the bounce flag after "if !is_momentum"
abbrev flag_of : Option WheelSource → Bool → Bool
flag_of source bounced = Wheel.is_momentum source && bounced

same_grounds : (source : Option WheelSource) (rubber_band can outside parent bounced : Bool)
    → not ((rubber_band && Wheel.is_trackpad source && (can || outside || not parent || flag_of source bounced)) || can)
    ≡ (not can
    && not (rubber_band && (eqb (source_number source) 3 || eqb (source_number source) 4) && (can || outside || not parent))
    && not (rubber_band && eqb (source_number source) 4 && bounced))
unfolding Wheel.is_trackpad Wheel.is_momentum
same_grounds source false true outside parent bounced = refl
same_grounds source false false outside parent bounced = refl
same_grounds None true true outside parent bounced = refl
same_grounds None true false outside parent bounced = refl
same_grounds (Some WheelSource.Unknown) true true outside parent bounced = refl
same_grounds (Some WheelSource.Unknown) true false outside parent bounced = refl
same_grounds (Some WheelSource.Wheel) true true outside parent bounced = refl
same_grounds (Some WheelSource.Wheel) true false outside parent bounced = refl
same_grounds (Some WheelSource.Trackpad) true true outside parent bounced = refl
same_grounds (Some WheelSource.Trackpad) true false true parent bounced = refl
same_grounds (Some WheelSource.Trackpad) true false false true bounced = refl
same_grounds (Some WheelSource.Trackpad) true false false false bounced = refl
same_grounds (Some WheelSource.Momentum) true true outside parent bounced = refl
same_grounds (Some WheelSource.Momentum) true false true parent bounced = refl
same_grounds (Some WheelSource.Momentum) true false false true true = refl
same_grounds (Some WheelSource.Momentum) true false false true false = refl
same_grounds (Some WheelSource.Momentum) true false false false bounced = refl

-- ---- a turn that comes to `consume` is taken
abbrev IsTaken : Wheeled → Type 0
IsTaken w = w.consumed ≡ true

momentum_taken : (self : AxisPhysics) (offset vel : Float) (scroll : WheelScroll) (bounced : Bool) → IsTaken (momentum_of self offset vel scroll bounced)
unfolding momentum_of
momentum_taken self offset vel scroll bounced = either IsTaken bounced _ _ refl (either IsTaken (contains_of self.bounds (plus offset scroll.delta)) _ _ refl refl)

consume_taken : (self : AxisPhysics) (offset vel : Float) (scroll : WheelScroll) (bounced rubber_band : Bool)
    → IsTaken (consume_of self offset vel scroll bounced rubber_band)
unfolding consume_of
consume_taken self offset vel scroll bounced rubber_band =
    either IsTaken (rubber_band && lt (times (overscroll_of self offset) scroll.delta) zero) _ _ refl
    (either IsTaken (rubber_band && Wheel.is_momentum scroll.source) _ _ (momentum_taken self offset vel scroll bounced)
    (either IsTaken rubber_band _ _ refl refl))

-- ---- what is not taken comes back as it was given
abbrev Leaves : Float → Float → Wheeled → Type 0
Leaves offset vel w = w.consumed ≡ false → (w.offset ≡ offset) × (w.vel ≡ vel)

taken_leaves : (offset vel : Float) (w : Wheeled) → IsTaken w → Leaves offset vel w
taken_leaves offset vel w h k = absurd (true≢false (sym h ∙ k))

wheel_leaves : (self : AxisPhysics) (offset vel : Float) (scroll : WheelScroll) (bounced : Bool)
    → Leaves offset vel (wheel_of self offset vel scroll bounced)
unfolding wheel_of
wheel_leaves self offset vel scroll bounced =
    let flag = flag_of scroll.source bounced in
    let rubber_band = can_rubber_band self offset scroll flag in
    either (Leaves offset vel) (eq scroll.delta zero) _ _ (λ h. (refl, refl))
    (either (Leaves offset vel) (not (rubber_band || can_scroll self offset scroll.delta)) _ _ (λ h. (refl, refl))
    (taken_leaves offset vel (consume_of self offset vel scroll flag rubber_band) (consume_taken self offset vel scroll flag rubber_band)))

-- ---- false exactly where delta is 0 or nothing takes the turn
untaken : (zero taken : Bool) (left consumed : Wheeled) → left.consumed ≡ false → IsTaken consumed
    → not (cond zero left (cond (not taken) left consumed)).consumed ≡ (zero || not taken)
untaken true taken left consumed h k = ap not h
untaken false true left consumed h k = ap not k
untaken false false left consumed h k = ap not h

wheel_exactly : (self : AxisPhysics) (offset vel : Float) (scroll : WheelScroll) (bounced : Bool)
    → not (wheel_of self offset vel scroll bounced).consumed
    ≡ (eq scroll.delta zero || (not (can self offset scroll) && not (band self offset scroll) && not (corner self scroll bounced)))
unfolding wheel_of can_rubber_band can_scroll is_overscrolled overscroll_of axis_clamp_of clamp_of
wheel_exactly self offset vel scroll bounced =
    let flag = flag_of scroll.source bounced in
    let rubber_band = can_rubber_band self offset scroll flag in
    untaken (eq scroll.delta zero) (rubber_band || can_scroll self offset scroll.delta) (wheeled offset vel flag false)
    (consume_of self offset vel scroll flag rubber_band) refl (consume_taken self offset vel scroll flag rubber_band)
    ∙ ap (λ (t : Bool). eq scroll.delta zero || t)
    (same_grounds scroll.source self.style.rubber_band (can self offset scroll) (ne (overscroll self offset) zero)
    scroll.can_chain_to_parent bounced)

-- ---- a source other than Momentum
no_momentum : (source : Option WheelSource) → eqb (source_number source) 4 ≡ false → Wheel.is_momentum source ≡ false
unfolding Wheel.is_momentum
no_momentum None h = refl
no_momentum (Some WheelSource.Unknown) h = refl
no_momentum (Some WheelSource.Wheel) h = refl
no_momentum (Some WheelSource.Trackpad) h = refl
no_momentum (Some WheelSource.Momentum) h = h

abbrev IsClear : Wheeled → Type 0
IsClear w = w.bounced_this_momentum ≡ false

consume_clears : (self : AxisPhysics) (offset vel : Float) (scroll : WheelScroll) (bounced rubber_band : Bool) → Wheel.is_momentum scroll.source ≡ false
    → bounced ≡ false
    → IsClear (consume_of self offset vel scroll bounced rubber_band)
unfolding consume_of
consume_clears self offset vel scroll bounced rubber_band h k =
    either IsClear (rubber_band && lt (times (overscroll_of self offset) scroll.delta) zero) _ _ k
    (left IsClear (rubber_band && Wheel.is_momentum scroll.source) _ _ (fails_right rubber_band (Wheel.is_momentum scroll.source) h)
    (either IsClear rubber_band _ _ k k))

wheel_clears : (self : AxisPhysics) (offset vel : Float) (scroll : WheelScroll) (bounced : Bool) → from_momentum scroll ≡ false
    → IsClear (wheel_of self offset vel scroll bounced)
unfolding wheel_of
wheel_clears self offset vel scroll bounced h =
    let other = no_momentum scroll.source h in
    let flag = flag_of scroll.source bounced in
    let clear = fails_left (Wheel.is_momentum scroll.source) bounced other in
    let rubber_band = can_rubber_band self offset scroll flag in
    either IsClear (eq scroll.delta zero) _ _ clear
    (either IsClear (not (rubber_band || can_scroll self offset scroll.delta)) _ _ clear (consume_clears self offset vel scroll flag rubber_band other clear))

-- ---- with rubber band off
unbanded : (self : AxisPhysics) (offset : Float) (scroll : WheelScroll) (bounced : Bool) → self.style.rubber_band ≡ false
    → can_rubber_band self offset scroll bounced ≡ false
unfolding can_rubber_band
unbanded self offset scroll bounced off = rw off

-- the offset of a turn that can move is a number, and so is its sum with a finite delta
offset_number : (self : AxisPhysics) (offset delta : Float) (down up : Bool) → (lt delta zero && lt self.bounds.min offset) ≡ down
    → (lt zero delta && lt offset self.bounds.max) ≡ up
    → (down || up) ≡ true → IsNumber offset
offset_number self offset delta true up p q h = greater_number self.bounds.min offset (and_right (lt delta zero) (lt self.bounds.min offset) p)
offset_number self offset delta false up p q h = lesser_number offset self.bounds.max (and_right (lt zero delta) (lt offset self.bounds.max) (q ∙ h))

moved_number : (self : AxisPhysics) (offset delta : Float) → can_scroll self offset delta ≡ true → is_finite delta ≡ true → IsNumber (plus offset delta)
unfolding can_scroll
moved_number self offset delta h p = add_number binary32 offset delta (offset_number self offset delta _ _ refl refl h) p

abbrev Inside : AxisPhysics → Float → Wheeled → Type 0
Inside self vel w = w.consumed ≡ true
    → (le self.bounds.min w.offset ≡ true) × (le w.offset self.bounds.max ≡ true) × (w.vel ≡ vel)

clamped_inside : (self : AxisPhysics) (vel offset : Float) (bounced : Bool) → IsNumber offset → le self.bounds.min self.bounds.max ≡ true
    → Inside self vel (wheeled (axis_clamp_of self offset) vel bounced true)
unfolding axis_clamp_of
clamped_inside self vel offset bounced n o h =
    let between = clamp_between offset self.bounds.min self.bounds.max n o in (between.0, between.1, refl)

wheel_inside : (self : AxisPhysics) (offset vel : Float) (scroll : WheelScroll) (bounced : Bool) → IsCovered self scroll
    → self.style.rubber_band ≡ false
    → Inside self vel (wheel_of self offset vel scroll bounced)
unfolding wheel_of consume_of
wheel_inside self offset vel scroll bounced covered off =
    let flag = flag_of scroll.source bounced in
    let moves = can_scroll self offset scroll.delta in
    rw (unbanded self offset scroll flag off)
    (either (Inside self vel) (eq scroll.delta zero) _ _ (λ h. absurd (false≢true h))
    (chosen (Inside self vel) (not moves) _ _ (λ t h. absurd (false≢true h))
    (λ t. clamped_inside self vel _ flag (moved_number self offset scroll.delta (not-false moves t) covered.1) covered.0)))

-- ---- the law
pub wheel_holds : (self : AxisPhysics) (offset vel : Float) (scroll : WheelScroll) (bounced : Bool) → IsCovered self scroll
    → WheelHolds self offset vel scroll bounced (wheel_of self offset vel scroll bounced)
wheel_holds self offset vel scroll bounced covered = record {
  leaves = wheel_leaves self offset vel scroll bounced;
  inside = λ h off. wheel_inside self offset vel scroll bounced covered off h;
  clears = wheel_clears self offset vel scroll bounced;
  exactly = wheel_exactly self offset vel scroll bounced;
}

pub left_holds : (self : AxisPhysics) (offset vel : Float) (scroll : WheelScroll) (bounced : Bool) (left : Wheeled)
    → left ≡ wheel_of self offset vel scroll bounced → IsCovered self scroll → WheelHolds self offset vel scroll bounced left
left_holds self offset vel scroll bounced left e covered =
    subst (WheelHolds self offset vel scroll bounced) (sym e) (wheel_holds self offset vel scroll bounced covered)

-- ---- an accepted call is covered, and hands back what the wheel leaves
none_lowest : (three four five six : Bool) → lowest_of three four five six ≡ 0 → (three ≡ false) × (four ≡ false) × (six ≡ false)
unfolding lowest_of
none_lowest true four five six h = absurd (omega (arith, h))
none_lowest false true five six h = absurd (omega (arith, h))
none_lowest false false true six h = absurd (omega (arith, h))
none_lowest false false false true h = absurd (omega (arith, h))
none_lowest false false false false h = (refl, refl, refl)

bounds_finite : (axis : AxisPhysics) → axis_exceeds_limit axis ≡ false → (is_finite axis.bounds.min ≡ true) × (is_finite axis.bounds.max ≡ true)
unfolding axis_exceeds_limit
bounds_finite axis h =
    let min = exceeds_limit axis.bounds.min in
    let max = exceeds_limit axis.bounds.max in
    let extent = exceeds_limit axis.viewport_extent in
    let decay = exceeds_limit axis.style.decay_time in
    let both = not_left (min || max) extent (not_left (min || max || extent) decay (not_left (min || max || extent || decay) _ h)) in
    (within_limit axis.bounds.min (not_left min max both), within_limit axis.bounds.max (not_right min max both))

-- what checks 3 to 6 tell of the numbers
pub record Passed (axis : AxisPhysics) (offset vel : Float) (scroll : WheelScroll) : Type 0 where
  pub min : is_finite axis.bounds.min ≡ true
  pub max : is_finite axis.bounds.max ≡ true
  pub delta : is_finite scroll.delta ≡ true
  pub ordered : lt axis.bounds.max axis.bounds.min ≡ false
  pub offset_finite : is_finite offset ≡ true
  pub vel_finite : is_finite vel ≡ true

passed : (axis : AxisPhysics) (offset vel : Float) (scroll : WheelScroll) → wheel_refusal axis offset vel scroll ≡ 0 → Passed axis offset vel scroll
unfolding is_reversed
passed axis offset vel scroll h =
    let none = none_lowest _ _ _ _ h in
    let own = axis_exceeds_limit axis in
    let delta = exceeds_limit scroll.delta in
    let both = not_left (own || delta) (exceeds_limit scroll.dt) none.0 in
    let finite = bounds_finite axis (not_left own delta both) in
    let p = not (is_finite offset) in
    let q = not (is_finite vel) in record {
      min = finite.0;
      max = finite.1;
      delta = within_limit scroll.delta (not_right own delta both);
      ordered = not_left (is_reversed axis.bounds) (lt scroll.dt zero) none.1;
      offset_finite = not-false (is_finite offset) (not_left p q none.2);
      vel_finite = not-false (is_finite vel) (not_right p q none.2);
    }

passed_covered : (axis : AxisPhysics) (offset vel : Float) (scroll : WheelScroll) → Passed axis offset vel scroll → IsCovered axis scroll
passed_covered axis offset vel scroll is =
    (of_not_below axis.bounds.max axis.bounds.min (finite_number _ is.max) (finite_number _ is.min) is.ordered, is.delta)

abbrev pub AcceptedHolds : AxisPhysics → Float → Float → WheelScroll → Bool → Answered Wheeled → Type 0
AcceptedHolds axis offset vel scroll bounced answer = answer.refusal ≡ 0 → WheelHolds axis offset vel scroll bounced answer.value

-- and so a call whose answer has no refusal
pub call_passed : (axis : AxisPhysics) (offset vel : Float) (scroll : WheelScroll) (bounced : Bool) → (wheel_call_of axis offset vel scroll bounced).refusal ≡ 0
    → Passed axis offset vel scroll
unfolding wheel_call_of
call_passed axis offset vel scroll bounced =
    let refusal = wheel_refusal axis offset vel scroll in
    chosen (λ (answer : Answered Wheeled). answer.refusal ≡ 0 → Passed axis offset vel scroll) (eqb refusal 0) _ _
    (λ t h. passed axis offset vel scroll (eqb-true refusal 0 t))
    (λ t h. absurd (true≢false (sym (eq-eqb refusal 0 h) ∙ t)))

pub call_holds : (axis : AxisPhysics) (offset vel : Float) (scroll : WheelScroll) (bounced : Bool)
    → AcceptedHolds axis offset vel scroll bounced (wheel_call_of axis offset vel scroll bounced)
unfolding wheel_call_of put_out wheeled_finite
call_holds axis offset vel scroll bounced =
    let P = AcceptedHolds axis offset vel scroll bounced in
    let refusal = wheel_refusal axis offset vel scroll in
    let w = wheel_of axis offset vel scroll bounced in
    chosen P (eqb refusal 0) _ _
    (λ t. either P (is_finite w.offset && is_finite w.vel) _ _
    (λ h. wheel_holds axis offset vel scroll bounced (passed_covered axis offset vel scroll (passed axis offset vel scroll (eqb-true refusal 0 t))))
    (λ h. absurd (omega (arith, h))))
    (λ t h. absurd (true≢false (sym (eq-eqb refusal 0 h) ∙ t)))

-- and so an answer that is not refused
pub ok_holds : (axis : AxisPhysics) (offset vel : Float) (scroll : WheelScroll) (bounced : Bool) (given : Wheeled) (answer : Result Wheeled Refusal)
    → answered given answer ≡ wheel_call_of axis offset vel scroll bounced
    → IfOk answer (λ w. WheelHolds axis offset vel scroll bounced w)
ok_holds axis offset vel scroll bounced given (Ok w) e =
    subst (AcceptedHolds axis offset vel scroll bounced) (sym e) (call_holds axis offset vel scroll bounced) refl
ok_holds axis offset vel scroll bounced given (Err refusal) e = tt

-- ---- an overscroll other than 0 is an offset outside the bounds
abbrev Is32 : Float → Type 0
Is32 x = T (fits binary32 x) × (is_finite x ≡ true)

pub overscroll_is_outside : (axis : AxisPhysics) (offset : Float) → Is32 axis.bounds.min → Is32 axis.bounds.max → Is32 offset
    → OverscrollIsOutside axis offset
unfolding ne
overscroll_is_outside axis offset p q o = go (lt offset min) (lt max offset) refl refl
  where
    min : Float
    min = axis.bounds.min

    max : Float
    max = axis.bounds.max

    go : (below above : Bool) → lt offset min ≡ below → lt max offset ≡ above → not (eq (minus offset (cond below min (cond above max offset))) zero) ≡ (below || above)
    go true above h k = ap not (differ binary32 offset min o.0 p.0 o.1 p.1 (less_differs offset min h).0)
    go false true h k = ap not (differ binary32 offset max o.0 q.0 o.1 q.1 (less_differs max offset k).1)
    go false false h k = ap not (same binary32 offset o.1)
