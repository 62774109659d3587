-- A value of the type `State` is one that the code can hold: each pair is two, and each number is one that its format holds. What a
-- type owns says so, and nothing of how the value came about is opened.
-- Assumes nothing.
use Rattle.std.specs.Prelude.{Option, Some, None}
use Rattle.numbers.specs.declared.shape.Rect.{Rect}
use Rattle.area.specs.declared.state.ScrollingToTarget.{ScrollingToTarget}
use Rattle.std.specs.Prelude.{Float}
use mathlib.Core.Path.{◌≡◌, refl}
use mathlib.Core.Bool.{Bool}
use mathlib.Core.List.{List, [], ◌∷◌}
use native.Mathlib.Omega.{arith}
use lib.Dec.{T}
use lib.ListN.{length}
use lib.Ieee.{Float, Format, binary32, binary64, fits}
use mir.Val.{Val, vbool, vfloat}
use base.Fml.{Fml}
use denote.Shadow.{shadow}
use denote.Laws.{Is}
use denote.Floats.{FloatOf, passes, is_true}
use denote.Plain.{Boolean}
use denote.Array.{in_array, each, array_val}
use Rattle.area.specs.declared.state.State.{State}
use Rattle.axis.specs.declared.wheel.Wheeled.{Wheeled}
use Rattle.std.specs.contracts.option.Option as option
use Rattle.numbers.specs.contracts.shape.Pos2 as pos2
use Rattle.numbers.specs.contracts.shape.Rect as shape_rect
use Rattle.axis.specs.contracts.wheel.Wheeled as wheeled
use Rattle.area.specs.contracts.state.ScrollingToTarget as scrolling
use Rattle.area.specs.contracts.state.State as state
use Rattle.records.specs.Held.{Is32, ArePair, AreFlags, IsTarget, AreTargets, IsPress, ArePresses, IsRect, IsHeld}

-- ---- an array of two, whose elements go into the type's own by `into`
two : {X : Type 0} (own : X → List Val → Fml) (C : List X → Type 0)
    → ((x y : X) (u w : List Val) → shadow (own x u) → shadow (own y w) → C (x ∷ y ∷ []))
    → (v : List X) (vs : List Val) → shadow (in_array X own 2 v vs) → C v
two {X} own C made v vs p = of v p.0 p.1.0.1 p.1.1
  where
    of : (v : List X) (us : List Val) → length v ≡ 2 → shadow (each X own v us) → C v
    of [] us n e = absurd (omega (arith, n))
    of (x ∷ []) us n e = absurd (omega (arith, n))
    of (x ∷ y ∷ []) [] n e = absurd e
    of (x ∷ y ∷ []) (u ∷ []) n e = absurd e.1
    of (x ∷ y ∷ []) (u ∷ w ∷ us) n e = made x y (u ∷ []) (w ∷ []) e.0 e.1.0
    of (x ∷ y ∷ z ∷ v) us n e = absurd (omega (arith, n))

number : (f : Format) (x : Float) (vs : List Val) → Is (FloatOf f) x vs → T (fits f x)
number f x vs p = passes (fits f x) p.1

pair : (v : List Float) (vs : List Val) → shadow (in_array Float (FloatOf binary32).own_val 2 v vs) → ArePair v
pair = two (FloatOf binary32).own_val ArePair (λ x y u w p q. (number binary32 x u p, number binary32 y w q))

flags : (v : List Bool) (vs : List Val) → shadow (in_array Bool Boolean.own_val 2 v vs) → AreFlags v
flags = two Boolean.own_val AreFlags (λ x y u w p q. tt)

-- ---- options: of the live variant, its fields
target : (t : Option ScrollingToTarget) (vs : List Val) → Is (option.the_row scrolling.the_row) t vs → IsTarget t
target None vs p = tt
target (Some t) vs p =
    let is = p.1.1.1.1.0.1.1 in
    (number binary64 t.start _ is.0, number binary64 t.end _ is.1.0, number binary32 t.target_offset _ is.1.1.0)

targets : (v : List (Option ScrollingToTarget)) (vs : List Val)
    → shadow (in_array _ (option.the_row scrolling.the_row).own_val 2 v vs) → AreTargets v
targets =
    two (option.the_row scrolling.the_row).own_val AreTargets
    (λ t u vs ws p q. (target t _ p, target u _ q))

press : (m : Option Float) (vs : List Val) → Is (option.the_row (FloatOf binary32)) m vs → IsPress m
press None vs p = tt
press (Some x) vs p = number binary32 x _ p.1.1.1.1.0

presses : (v : List (Option Float)) (vs : List Val)
    → shadow (in_array _ (option.the_row (FloatOf binary32)).own_val 2 v vs) → ArePresses v
presses =
    two (option.the_row (FloatOf binary32)).own_val ArePresses
    (λ t u vs ws p q. (press t _ p, press u _ q))

rect : (m : Option Rect) (vs : List Val) → Is (option.the_row shape_rect.the_row) m vs → IsRect m
rect None vs p = tt
rect (Some r) vs p =
    let is = p.1.1.1.1.0.1.1 in
    let min = is.0.1.1 in
    let max = is.1.0.1.1 in (
      number binary32 r.min.x _ min.0,
      number binary32 r.min.y _ min.1.0,
      number binary32 r.max.x _ max.0,
      number binary32 r.max.y _ max.1.0,
    )

-- ---- the state
pub typed_is_held : (s : State) (vs : List Val) → Is state.the_row s vs → IsHeld s
typed_is_held s vs p =
    let is = p.1.1 in
    record {
      offset = pair s.offset _ is.0;
      max_offset = pair s.max_offset _ is.1.0;
      offset_target = targets s.offset_target _ is.1.1.0;
      show_scroll = flags s.show_scroll _ is.1.1.1.0;
      content_is_too_large = flags s.content_is_too_large _ is.1.1.1.1.0;
      scroll_bar_interaction = flags s.scroll_bar_interaction _ is.1.1.1.1.1.0;
      vel = pair s.vel _ is.1.1.1.1.1.1.0;
      scroll_start_offset_from_top_left = presses s.scroll_start_offset_from_top_left _ is.1.1.1.1.1.1.1.0;
      scroll_stuck_to_end = flags s.scroll_stuck_to_end _ is.1.1.1.1.1.1.1.1.0;
      interact_rect = rect s.interact_rect _ is.1.1.1.1.1.1.1.1.1.0;
      bounced_this_momentum = flags s.bounced_this_momentum _ is.1.1.1.1.1.1.1.1.1.1.0;
      remembered_time = number binary64 s.remembered_time _ is.1.1.1.1.1.1.1.1.1.1.1.0;
    }

-- ---- what a wheel call answers
pub wheeled_is_held : (w : Wheeled) (vs : List Val) → Is wheeled.the_row w vs → Is32 w.offset × Is32 w.vel
wheeled_is_held w vs p =
    let is = p.1.1 in
    (number binary32 w.offset _ is.0, number binary32 w.vel _ is.1.0)

-- ---- and back: a state that the code can hold has a machine value
array_of : {X : Type 0} (own : X → List Val → Fml) (x y : X) (u w : Val) → shadow (own x (u ∷ [])) → shadow (own y (w ∷ []))
    → (v : Val) × shadow (in_array X own 2 (x ∷ y ∷ []) (v ∷ []))
array_of own x y u w p q = (array_val (u ∷ w ∷ []), (u ∷ w ∷ [], ((refl, refl), (p, (q, tt)))))

number_typed : (f : Format) (x : Float) → T (fits f x) → Is (FloatOf f) x (vfloat f x ∷ [])
number_typed f x t = (refl, is_true (fits f x) t)

pair_typed : (v : List Float) → ArePair v → (u : Val) × shadow (in_array Float (FloatOf binary32).own_val 2 v (u ∷ []))
pair_typed [] held = absurd held
pair_typed (x ∷ []) held = absurd held
pair_typed (x ∷ y ∷ []) held =
    array_of (FloatOf binary32).own_val x y _ _ (number_typed binary32 x held.0) (number_typed binary32 y held.1)
pair_typed (x ∷ y ∷ z ∷ v) held = absurd held

flags_typed : (v : List Bool) → AreFlags v → (u : Val) × shadow (in_array Bool Boolean.own_val 2 v (u ∷ []))
flags_typed [] held = absurd held
flags_typed (x ∷ []) held = absurd held
flags_typed (x ∷ y ∷ []) held = array_of Boolean.own_val x y (vbool x) (vbool y) refl refl
flags_typed (x ∷ y ∷ z ∷ v) held = absurd held

target_typed : (t : Option ScrollingToTarget) → IsTarget t → (u : Val) × Is (option.the_row scrolling.the_row) t (u ∷ [])
target_typed None held = (_, ([], (refl, (tt, (refl, tt)))))
target_typed (Some t) held = (
  _,
  (
    _,
    (
      refl,
      (
        (_, tt),
        (
          refl,
          (
            (
              (_, (_, (_, tt))),
              (
                refl,
                (
                  number_typed binary64 t.start held.0,
                  (number_typed binary64 t.end held.1, (number_typed binary32 t.target_offset held.2, tt)),
                ),
              ),
            ),
            tt,
          ),
        ),
      ),
    ),
  ),
)

targets_typed : (v : List (Option ScrollingToTarget)) → AreTargets v
    → (u : Val) × shadow (in_array _ (option.the_row scrolling.the_row).own_val 2 v (u ∷ []))
targets_typed [] held = absurd held
targets_typed (t ∷ []) held = absurd held
targets_typed (t ∷ u ∷ []) held =
    array_of (option.the_row scrolling.the_row).own_val t u _ _ (target_typed t held.0).1 (target_typed u held.1).1
targets_typed (t ∷ u ∷ w ∷ v) held = absurd held

press_typed : (m : Option Float) → IsPress m → (u : Val) × Is (option.the_row (FloatOf binary32)) m (u ∷ [])
press_typed None held = (_, ([], (refl, (tt, (refl, tt)))))
press_typed (Some x) held = (_, (_, (refl, ((_, tt), (refl, (number_typed binary32 x held, tt))))))

presses_typed : (v : List (Option Float)) → ArePresses v
    → (u : Val) × shadow (in_array _ (option.the_row (FloatOf binary32)).own_val 2 v (u ∷ []))
presses_typed [] held = absurd held
presses_typed (t ∷ []) held = absurd held
presses_typed (t ∷ u ∷ []) held =
    array_of (option.the_row (FloatOf binary32)).own_val t u _ _ (press_typed t held.0).1 (press_typed u held.1).1
presses_typed (t ∷ u ∷ w ∷ v) held = absurd held

rect_typed : (m : Option Rect) → IsRect m → (u : Val) × Is (option.the_row shape_rect.the_row) m (u ∷ [])
rect_typed None held = (_, ([], (refl, (tt, (refl, tt)))))
rect_typed (Some r) held =
    let min : Is pos2.the_row r.min _ = ((_, (_, tt)), (refl, (number_typed binary32 r.min.x held.0, (number_typed binary32 r.min.y held.1, tt)))) in
    let max : Is pos2.the_row r.max _ = ((_, (_, tt)), (refl, (number_typed binary32 r.max.x held.2, (number_typed binary32 r.max.y held.3, tt)))) in
    (_, (_, (refl, ((_, tt), (refl, (((_, (_, tt)), (refl, (min, (max, tt)))), tt))))))

pub held_is_typed : (s : State) → IsHeld s → (u : Val) × Is state.the_row s (u ∷ [])
held_is_typed s held =
    let p0 = pair_typed s.offset held.offset in
    let p1 = pair_typed s.max_offset held.max_offset in
    let p2 = targets_typed s.offset_target held.offset_target in
    let p3 = flags_typed s.show_scroll held.show_scroll in
    let p4 = flags_typed s.content_is_too_large held.content_is_too_large in
    let p5 = flags_typed s.scroll_bar_interaction held.scroll_bar_interaction in
    let p6 = pair_typed s.vel held.vel in
    let p7 = presses_typed s.scroll_start_offset_from_top_left held.scroll_start_offset_from_top_left in
    let p8 = flags_typed s.scroll_stuck_to_end held.scroll_stuck_to_end in
    let p9 = rect_typed s.interact_rect held.interact_rect in
    let p10 = flags_typed s.bounced_this_momentum held.bounced_this_momentum in
    let p11 = number_typed binary64 s.remembered_time held.remembered_time in (
      _,
      (
        (_, (_, (_, (_, (_, (_, (_, (_, (_, (_, (_, (_, tt)))))))))))),
        (refl, (p0.1, (p1.1, (p2.1, (p3.1, (p4.1, (p5.1, (p6.1, (p7.1, (p8.1, (p9.1, (p10.1, (p11, tt))))))))))))),
      ),
    )
