-- An axis that no word of an accepted frame moves is not moved by the steps: so the reading by words follows from the narrowest.
-- Assumes nothing.
use Rattle.std.specs.Prelude.{Option, Some, None}
use Rattle.numbers.specs.declared.shape.Pos2.{Pos2}
use Rattle.area.specs.declared.fields.ScrollTarget.{ScrollTarget}
use Rattle.std.specs.Prelude.{Float}
use Rattle.std.specs.Prelude.{◌≡◌, ℕ, ◌+◌, Bool, true, false, not, ◌&&◌, ◌||◌, List, get_or}
use mathlib.Core.Path.{refl}
use mathlib.Core.Bool.{true≢false}
use lib.Ieee.{Float, binary32, eq, ne}
use Rattle.numbers.specs.Table.{Table}
use Rattle.numbers.specs.F32 as F32
use Rattle.numbers.specs.Scalar.{is_finite}
use Rattle.numbers.specs.declared.range.Rangef.{Rangef}
use Rattle.axis.specs.Wheel.{wheel_of}
use Rattle.axis.specs.declared.physics.AxisPhysics.{AxisPhysics}
use Rattle.axis.specs.declared.wheel.WheelScroll.{WheelScroll}
use Rattle.axis.specs.declared.wheel.Wheeled.{Wheeled}
use Rattle.area.specs.Pair.{num, flag}
use Rattle.area.specs.Layout as At
use Rattle.area.specs.Frame.{flag_no, number_no, pair_no, pos2_no, maybe_pos2_no, bar_response_no, scroll_target_no, maybe_scroll_target_no, option_no}
use Rattle.area.specs.Frame.{maybe_scroll_target_no, settings_of, host_of, content_of, frame_of}
use Rattle.area.specs.Checks.{refusal_of}
use Rattle.area.specs.Geometry.{pick_of}
use Rattle.area.specs.Adjust.{request_at, view_of, asked_by, asked_of, asked_at, moved_by, unadjusted, adjusted_by, adjusted_of}
use Rattle.area.specs.WheelTurn.{wheel_scroll_of, wheel_physics_of, taken, untaken, unheard, turned_by, turned_of}
use Rattle.area.specs.Handle.{show_factor_of, handle_of}
use Rattle.area.specs.Press.{press_of}
use Rattle.area.specs.Bar.{no_response, hidden_bar, shown_bar, turn_bar, bar_of}
use Rattle.area.specs.End.{ended_by, finished_of, axis_ended_of, end_of, is_press_blocked}
use Rattle.area.specs.Steps.{begun_at, ended_at}
use Rattle.area.specs.Moved.{word_on, is_other_than_zero, is_moved_by_words, is_some_pos2, is_drag_heeded, is_press_heeded, is_moved_in, is_moved, MovesAreNamed}
use Rattle.area.specs.declared.prepared.AxisBefore.{AxisBefore}
use Rattle.area.specs.declared.fields.Frame.{Frame}
use Rattle.area.specs.declared.fields.BarResponse.{BarResponse}
use Rattle.area.specs.declared.fields.ScrollAnimation.{ScrollAnimation}
use Rattle.area.specs.declared.state.State.{State}
use Rattle.area.specs.declared.prepared.AxisMotion.{AxisMotion}
use Rattle.area.specs.declared.prepared.AxisSpace.{AxisSpace}
use Rattle.area.specs.declared.prepared.AxisBegun.{AxisBegun}
use Rattle.area.specs.declared.prepared.Prepared.{Prepared}
use Rattle.area.specs.declared.extent.AxisExtent.{AxisExtent}
use Rattle.area.specs.declared.adjust.Adjusted.{Adjusted}
use Rattle.area.specs.declared.adjust.AskedDelta.{AskedDelta}
use Rattle.area.specs.declared.adjust.AxisView.{AxisView}
use Rattle.area.specs.declared.wheel_turn.WheelHeard.{WheelHeard}
use Rattle.area.specs.declared.wheel_turn.Turned.{Turned}
use Rattle.area.specs.declared.handle.BarSpace.{BarSpace}
use Rattle.area.specs.declared.handle.Track.{Track}
use Rattle.area.specs.declared.bar.Barred.{Barred}
use Rattle.area.specs.declared.end.Extents.{Extents}
use Rattle.numbers.proofs.TestLaws as Test
use Rattle.numbers.proofs.TestLaws.{neither, not_left, not_right, fails_left, fails_right, turned_true, turned_false, either}
use Rattle.area.proofs.ZeroLaws.{IsZero, add_zeros, mul_zero, neg_zero, equals_zero, of_no_other, no_other_than_zero}
use Rattle.area.proofs.CallLaws.{accepted}
use Rattle.area.proofs.PassedLaws.{multiplier_finite}
use Rattle.area.proofs.EndLaws.{StaysOnEnd, stays_x, stays_y}

-- ---- a wheel delta of zero is not taken
wheel_unmoved : (physics : AxisPhysics) (offset vel : Float) (scroll : WheelScroll) (bounced : Bool) → eq scroll.delta F32.zero ≡ true
    → (wheel_of physics offset vel scroll bounced).consumed ≡ false
unfolding wheel_of
wheel_unmoved physics offset vel scroll bounced h = Test.taken (λ (w : Wheeled). w.consumed ≡ false) (eq scroll.delta F32.zero) _ _ h refl

abbrev Untaken : Turned → Type 0
Untaken t = t.consumed ≡ false

turn_untaken : (physics : AxisPhysics) (scroll : WheelScroll) (m : AxisMotion) (rubber_banding bounced : Bool) → eq scroll.delta F32.zero ≡ true
    → Untaken (turned_by physics scroll m rubber_banding bounced)
unfolding turned_by
turn_untaken physics scroll m rubber_banding bounced h =
    let r = wheel_of physics m.offset m.vel scroll bounced in
    Test.left Untaken r.consumed (taken physics r) (untaken m rubber_banding r) (wheel_unmoved physics m.offset m.vel scroll bounced h) refl

picked_zero : (t : Bool) (x y : Float) → IsZero x → IsZero y → IsZero (pick_of t x y)
unfolding pick_of
picked_zero t x y p q = either IsZero t x y p q

-- ---- no target and a scroll delta of zero ask for nothing
abbrev is_some_target : Option ScrollTarget → Bool
is_some_target None = false
is_some_target (Some t) = true

asked_zero : (target : Option ScrollTarget) (delta : Float) (animation : ScrollAnimation) (view : AxisView) (offset : Float)
    → is_some_target target ≡ false → IsZero delta
    → IsZero (asked_by target delta animation view offset).delta
asked_zero None delta animation view offset h p = neg_zero delta p
asked_zero (Some t) delta animation view offset h p = absurd (true≢false h)

unadjusted_by : (m : AxisMotion) (asked : AskedDelta) (enabled animated : Bool) (now : Float) → IsZero asked.delta
    → (adjusted_by m asked enabled animated now).had_explicit_scroll_adjustment ≡ false
unfolding adjusted_by
unadjusted_by m asked enabled animated now p =
    Test.left (λ (a : Adjusted). a.had_explicit_scroll_adjustment ≡ false) (enabled && ne asked.delta F32.zero) (moved_by m asked animated now)
    (unadjusted m)
    (fails_right enabled (ne asked.delta F32.zero) (no_other_than_zero asked.delta p)) refl

-- ---- one axis of a frame that names no move on it
record IsQuiet (f : Frame) (d : ℕ) : Type 0 where
  pub undragged : f.host.dragged ≡ false
  pub unpressed : is_some_pos2 (get_or f.host.bars d no_response).press ≡ false
  pub untargeted : is_some_target (request_at f.content.targets d) ≡ false
  pub delta : IsZero (num f.content.scroll_delta d)
  pub wheel_x : IsZero (num f.host.smooth_scroll_delta 0)
  pub wheel_y : IsZero (num f.host.smooth_scroll_delta 1)
  pub wheel : IsZero (num f.host.smooth_scroll_delta d)
  pub multiplier : is_finite (num f.settings.wheel_scroll_multiplier d) ≡ true

quiet_turn : (f : Frame) (d : ℕ) (always : Bool) → IsQuiet f d → eq (wheel_scroll_of f d always).delta F32.zero ≡ true
unfolding wheel_scroll_of
quiet_turn f d always q =
    equals_zero _
    (neg_zero _ (mul_zero binary32 _ _ (picked_zero always _ _ (add_zeros binary32 _ _ q.wheel_x q.wheel_y) q.wheel) q.multiplier))

quiet_untaken : (f : Frame) (d : ℕ) (before : AxisBefore) (space : AxisSpace) (extent : AxisExtent) (wheel : WheelHeard) (m : AxisMotion) (rubber_banding : Bool)
    → IsQuiet f d
    → Untaken (turned_of f d before space extent wheel m rubber_banding)
unfolding turned_of
quiet_untaken f d before space extent wheel m rubber_banding q =
    let bounced = before.bounced_this_momentum in
    let always = wheel.always_scroll_enabled_direction in
    either Untaken (wheel.heard && flag f.settings.direction_enabled d)
    (turned_by (wheel_physics_of f d before space extent) (wheel_scroll_of f d always) m rubber_banding bounced)
    (unheard m rubber_banding bounced)
    (turn_untaken _ (wheel_scroll_of f d always) m rubber_banding bounced (quiet_turn f d always q))
    refl

quiet_unadjusted : (f : Frame) (d : ℕ) (space : AxisSpace) (m : AxisMotion) → IsQuiet f d
    → (adjusted_of f d space m).had_explicit_scroll_adjustment ≡ false
unfolding adjusted_of asked_at asked_of
quiet_unadjusted f d space m q =
    let target = (request_at f.content.targets d) in
    let delta = num f.content.scroll_delta d in
    unadjusted_by m _ _ _ _ (asked_zero target delta f.content.animation (view_of f d space) m.offset q.untargeted q.delta)

quiet_undragged : (f : Frame) (p : Prepared) (d : ℕ) → IsQuiet f d → is_drag_heeded f p d ≡ false
unfolding is_drag_heeded
quiet_undragged f p d q =
    let background = p.has_background_drag in
    fails_left (background && f.host.dragged) (flag f.settings.direction_enabled d) (fails_right background f.host.dragged q.undragged)

quiet_unpressed : (f : Frame) (d : ℕ) (show_scroll : Bool) → IsQuiet f d → is_press_heeded f d show_scroll ≡ false
unfolding is_press_heeded
quiet_unpressed f d show_scroll q =
    let show_factor = show_factor_of show_scroll (num f.host.bar_factors d) (num f.host.opening_factors d) in
    fails_right (not (eq show_factor F32.zero)) (is_some_pos2 (get_or f.host.bars d no_response).press) q.unpressed

quiet_unmoved : (f : Frame) (d e : ℕ) (before : AxisBefore) (space : AxisSpace) (x : Extents) (wheel : WheelHeard) (b : AxisBegun) (p : Prepared) → IsQuiet f d
    → is_moved_in f p d (axis_ended_of f d e before space x wheel b) ≡ false
unfolding is_moved_in axis_ended_of finished_of ended_by
quiet_unmoved f d e before space x wheel b p q =
    neither _ _ (quiet_undragged f p d q)
    (neither _ _ (quiet_untaken f d before space x.this wheel _ _ q) (neither _ _ (quiet_unadjusted f d space b.motion q) (quiet_unpressed f d _ q)))

-- ---- what the words tell
record Unnamed (bytes : List ℕ) (d : ℕ) : Type 0 where
  pub undragged : flag_no bytes At.dragged ≡ false
  pub unpressed : flag_no bytes (word_on d At.bar_x At.bar_y + 2) ≡ false
  pub untargeted : flag_no bytes (word_on d At.target_x At.target_y) ≡ false
  pub delta : is_other_than_zero bytes (At.scroll_delta + d) ≡ false
  pub wheel_x : is_other_than_zero bytes At.smooth_scroll_delta ≡ false
  pub wheel_y : is_other_than_zero bytes (At.smooth_scroll_delta + 1) ≡ false

unnamed : (bytes : List ℕ) (d : ℕ) → is_moved_by_words bytes d ≡ false → Unnamed bytes d
unfolding is_moved_by_words
unnamed bytes d h =
    let offset = flag_no bytes (word_on d At.offset_x At.offset_y) in
    let dragged = flag_no bytes At.dragged in
    let stopped = flag_no bytes At.drag_stopped in
    let press = flag_no bytes (word_on d At.bar_x At.bar_y + 2) in
    let target = flag_no bytes (word_on d At.target_x At.target_y) in
    let delta = is_other_than_zero bytes (At.scroll_delta + d) in
    let wheel_x = is_other_than_zero bytes At.smooth_scroll_delta in
    let wheel_y = is_other_than_zero bytes (At.smooth_scroll_delta + 1) in
    let to_wheel_x = not_left (offset || dragged || stopped || press || target || delta || wheel_x) wheel_y h in
    let to_delta = not_left (offset || dragged || stopped || press || target || delta) wheel_x to_wheel_x in
    let to_target = not_left (offset || dragged || stopped || press || target) delta to_delta in
    let to_press = not_left (offset || dragged || stopped || press) target to_target in
    let to_stopped = not_left (offset || dragged || stopped) press to_press in
    record {
      undragged = not_right offset dragged (not_left (offset || dragged) stopped to_stopped);
      unpressed = not_right (offset || dragged || stopped) press to_press;
      untargeted = not_right (offset || dragged || stopped || press) target to_target;
      delta = not_right (offset || dragged || stopped || press || target) delta to_delta;
      wheel_x = not_right (offset || dragged || stopped || press || target || delta) wheel_x to_wheel_x;
      wheel_y = not_right (offset || dragged || stopped || press || target || delta || wheel_x) wheel_y h;
    }

no_point : (bytes : List ℕ) (n : ℕ) → flag_no bytes n ≡ false → is_some_pos2 (maybe_pos2_no bytes n) ≡ false
unfolding option_no
no_point bytes n h =
    Test.left (λ (p : Option Pos2). is_some_pos2 p ≡ false) (flag_no bytes n) (Some (pos2_no bytes (n + 1))) None h refl

no_target_lem : (bytes : List ℕ) (n : ℕ) → flag_no bytes n ≡ false → is_some_target (maybe_scroll_target_no bytes n) ≡ false
unfolding option_no
no_target_lem bytes n h =
    Test.left (λ (t : Option ScrollTarget). is_some_target t ≡ false) (flag_no bytes n)
    (Some (scroll_target_no bytes (n + 1))) None h refl

quiet_x : (bytes : List ℕ) → Unnamed bytes 0 → is_finite (number_no bytes At.wheel_scroll_multiplier) ≡ true → IsQuiet (frame_of bytes) 0
unfolding frame_of settings_of host_of content_of pair_no bar_response_no
quiet_x bytes u n = record {
  undragged = u.undragged;
  unpressed = no_point bytes (At.bar_x + 2) u.unpressed;
  untargeted = no_target_lem bytes At.target_x u.untargeted;
  delta = of_no_other _ u.delta;
  wheel_x = of_no_other _ u.wheel_x;
  wheel_y = of_no_other _ u.wheel_y;
  wheel = of_no_other _ u.wheel_x;
  multiplier = n;
}

quiet_y : (bytes : List ℕ) → Unnamed bytes 1 → is_finite (number_no bytes (At.wheel_scroll_multiplier + 1)) ≡ true → IsQuiet (frame_of bytes) 1
unfolding frame_of settings_of host_of content_of pair_no bar_response_no
quiet_y bytes u n = record {
  undragged = u.undragged;
  unpressed = no_point bytes (At.bar_y + 2) u.unpressed;
  untargeted = no_target_lem bytes At.target_y u.untargeted;
  delta = of_no_other _ u.delta;
  wheel_x = of_no_other _ u.wheel_x;
  wheel_y = of_no_other _ u.wheel_y;
  wheel = of_no_other _ u.wheel_y;
  multiplier = n;
}

-- ---- an accepted frame

-- on axis d: a frame that the checks let through and that names no move does not move it
abbrev Rests : ℕ → Type 0
Rests d = (table : Table) (S : State) (bytes : List ℕ) → refusal_of bytes S ≡ 0 → is_moved_by_words bytes d ≡ false → is_moved table S bytes d ≡ false

rests_x : Rests 0
unfolding is_moved ended_at end_of
rests_x table S bytes a h =
    quiet_unmoved (frame_of bytes) 0 1 _ _ _ _ _ (begun_at table S bytes) (quiet_x bytes (unnamed bytes 0 h) (multiplier_finite bytes S a).0)

rests_y : Rests 1
unfolding is_moved ended_at end_of
rests_y table S bytes a h =
    quiet_unmoved (frame_of bytes) 1 0 _ _ _ _ _ (begun_at table S bytes) (quiet_y bytes (unnamed bytes 1 h) (multiplier_finite bytes S a).1)

named : (d : ℕ) → Rests d → MovesAreNamed d
named d rests table S bytes a =
    turned_true (is_moved table S bytes d) (is_moved_by_words bytes d) (rests table S bytes (accepted table S bytes a).unrefused)

pub moves_are_named : MovesAreNamed 0 × MovesAreNamed 1
moves_are_named = (named 0 rests_x, named 1 rests_y)

-- so what holds of an axis that is not moved holds of one that no word moves
by_words : (d : ℕ) → MovesAreNamed d → StaysOnEnd is_moved d → StaysOnEnd (λ _ _. is_moved_by_words) d
by_words d names stays table S bytes a st h =
    stays table S bytes a st (turned_false (is_moved table S bytes d) (is_moved_by_words bytes d) (names table S bytes a) h)

pub stays_by_words_x : StaysOnEnd (λ _ _. is_moved_by_words) 0
stays_by_words_x = by_words 0 moves_are_named.0 stays_x

pub stays_by_words_y : StaysOnEnd (λ _ _. is_moved_by_words) 1
stays_by_words_y = by_words 1 moves_are_named.1 stays_y

-- ---- and on neither axis is a press refused with 7
press_unblocked : (m : AxisMotion) (t : Track) (handle : Rangef) (stored : Option Float) (p : Option Pos2) (d : ℕ) → is_some_pos2 p ≡ false
    → (press_of m t handle stored p d).is_press_blocked ≡ false
unfolding press_of
press_unblocked m t handle stored None d h = refl
press_unblocked m t handle stored (Some p) d h = absurd (true≢false h)

turn_unblocked : (m : AxisMotion) (t : Track) (show_factor : Float) (rubber_banding : Bool) (stored : Option Float) (response : BarResponse) (d : ℕ)
    → is_some_pos2 response.press ≡ false → (turn_bar m t show_factor rubber_banding stored response d).is_press_blocked ≡ false
unfolding turn_bar shown_bar
turn_unblocked m t show_factor rubber_banding stored response d h =
    either (λ (b : Barred). b.is_press_blocked ≡ false) (eq show_factor F32.zero) (hidden_bar m stored) (shown_bar m t rubber_banding stored response d) refl
    (press_unblocked m t (handle_of t m.offset) stored response.press d h)

bar_unblocked : (f : Frame) (d e : ℕ) (space : BarSpace) (show_scroll rubber_banding : Bool) (stored : Option Float) (m : AxisMotion)
    → is_some_pos2 (get_or f.host.bars d no_response).press ≡ false → (bar_of f d e space show_scroll rubber_banding stored m).is_press_blocked ≡ false
unfolding bar_of
bar_unblocked f d e space show_scroll rubber_banding stored m h = turn_unblocked m _ _ rubber_banding stored (get_or f.host.bars d no_response) d h

pub unblocked : (table : Table) (S : State) (bytes : List ℕ) → is_moved_by_words bytes 0 ≡ false → is_moved_by_words bytes 1 ≡ false
    → is_press_blocked (ended_at table S bytes) ≡ false
unfolding is_press_blocked ended_at end_of axis_ended_of finished_of ended_by frame_of host_of bar_response_no
unblocked table S bytes x y =
    neither _ _ (bar_unblocked (frame_of bytes) 0 1 _ _ _ _ _ (no_point bytes (At.bar_x + 2) (unnamed bytes 0 x).unpressed))
    (bar_unblocked (frame_of bytes) 1 0 _ _ _ _ _ (no_point bytes (At.bar_y + 2) (unnamed bytes 1 y).unpressed))
