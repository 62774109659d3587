-- "a sticking axis that nobody moves shows the list's end": the bars begin by putting it on its end, and the clamps leave it there, and
-- stuck. Assumes nothing.
use Rattle.std.specs.Prelude.{Option, Some, None}
use Rattle.numbers.specs.declared.shape.Pos2.{Pos2}
use Rattle.std.specs.Prelude.{Float}
use Rattle.std.specs.Prelude.{◌≡◌, ℕ, ◌+◌, Bool, true, false, cond, not, ◌&&◌, ◌||◌, ◌⊎◌, List, get_or}
use mathlib.Core.Path.{refl, sym, ap, subst, ◌∙◌}
use mathlib.Core.Logic.{inl, inr}
use mathlib.Core.Bool.{true≢false, false≢true}
use borrow.Author.Tests.{eq-eqb}
use lib.Ieee.{Float, lt, eq}
use Rattle.numbers.specs.Table.{Table}
use Rattle.numbers.specs.F32.{zero}
use Rattle.numbers.specs.Scalar.{max_of, is_finite}
use Rattle.numbers.specs.declared.range.Rangef.{Rangef}
use Rattle.area.specs.Pair.{num, flag}
use Rattle.area.specs.State.{clamped_to, clamped_offset}
use Rattle.area.specs.Layout as At
use Rattle.area.specs.Frame.{word_no, flag_no, flags_no, settings_of, frame_of}
use Rattle.area.specs.Geometry.{pick_of}
use Rattle.area.specs.Drive.{before_of}
use Rattle.area.specs.Begin.{axis_begun_of, prepared_of, begin_of}
use Rattle.area.specs.Adjust.{adjusted_of}
use Rattle.area.specs.WheelTurn.{turned_of}
use Rattle.area.specs.Stick.{sent_to_end, stick_of}
use Rattle.area.specs.Handle.{track_of, handle_of}
use Rattle.area.specs.Press.{press_of}
use Rattle.area.specs.Bar.{no_response, bound_motion_of, shown_bar, hidden_bar, turn_bar, bar_of}
use Rattle.area.specs.FinalClamp.{final_clamp_of}
use Rattle.area.specs.End.{bar_space_of, show_stage, stuck_stage, barred_stage, ended_by, finished_of, axis_ended_of, end_of}
use Rattle.area.specs.PutOut.{next_state}
use Rattle.area.specs.Steps.{begun_at, ended_at, step_at, is_accepted}
use Rattle.area.specs.Moved.{ended_on, extent_on, is_some_pos2, is_drag_heeded, is_press_heeded, is_moved_in, is_moved}
use Rattle.area.specs.Lists.{maximum_offset, list_end, IsOnEnd}
use Rattle.area.specs.declared.prepared.AxisBefore.{AxisBefore}
use Rattle.area.specs.declared.fields.Frame.{Frame}
use Rattle.area.specs.declared.fields.BarResponse.{BarResponse}
use Rattle.area.specs.declared.state.State.{State}
use Rattle.area.specs.declared.prepared.AxisMotion.{AxisMotion}
use Rattle.area.specs.declared.prepared.AxisSpace.{AxisSpace}
use Rattle.area.specs.declared.prepared.AxisBegun.{AxisBegun}
use Rattle.area.specs.declared.prepared.Prepared.{Prepared}
use Rattle.area.specs.declared.adjust.Adjusted.{Adjusted}
use Rattle.area.specs.declared.wheel_turn.WheelHeard.{WheelHeard}
use Rattle.area.specs.declared.wheel_turn.Turned.{Turned}
use Rattle.area.specs.declared.handle.Track.{Track}
use Rattle.area.specs.declared.bar.Barred.{Barred}
use Rattle.area.specs.declared.final_clamp.FinalClamp.{FinalClamp}
use Rattle.area.specs.declared.end.AxisEnded.{AxisEnded}
use Rattle.area.specs.declared.end.Extents.{Extents}
use Rattle.numbers.proofs.TestLaws.{or_left, not_left, not_right, and_both, chosen}
use Rattle.area.proofs.OrderLaws.{end_at, equals_itself, clamps_to_end, clamp_keeps_end, end_is_larger, end_sticks}
use Rattle.area.proofs.StuckLaws.{BegunStuck, begun_stuck, adjustment_stuck, turned_stuck}
use Rattle.area.proofs.CallLaws.{accepted}

-- ---- sticking puts the offset on the maximum offset
stick_offset : (m : AxisMotion) (stick adjusted : Bool) (max_offset : Float) → stick ≡ true → m.scroll_stuck_to_end ≡ true → adjusted ≡ false
    → (stick_of m stick adjusted max_offset).offset ≡ max_offset
unfolding stick_of
stick_offset m stick adjusted max_offset p q r =
    ap (λ (t : Bool). (cond t (sent_to_end m max_offset) m).offset)
    (and_both (stick && m.scroll_stuck_to_end) (not adjusted) (and_both stick m.scroll_stuck_to_end p q) (ap not r))

-- ---- a bar that is not pressed leaves it there, or clamps it
abbrev IsLeft : Float → Float → Float → Type 0
IsLeft offset given max_offset = (offset ≡ given) ⊎ (offset ≡ clamped_to given max_offset)

bound_leaves : (m : AxisMotion) (rubber_banding : Bool) (max_offset : Float)
    → IsLeft (bound_motion_of m rubber_banding max_offset).offset m.offset max_offset
unfolding bound_motion_of
bound_leaves m true max_offset = inl refl
bound_leaves m false max_offset = inr refl

unpressed : (m : AxisMotion) (t : Track) (handle : Rangef) (stored : Option Float) (press : Option Pos2) (d : ℕ) → is_some_pos2 press ≡ false
    → (press_of m t handle stored press d).motion ≡ m
unfolding press_of
unpressed m t handle stored None d h = refl
unpressed m t handle stored (Some p) d h = absurd (true≢false h)

shown_leaves : (m : AxisMotion) (t : Track) (rubber_banding : Bool) (stored : Option Float) (response : BarResponse) (d : ℕ)
    → is_some_pos2 response.press ≡ false
    → IsLeft (shown_bar m t rubber_banding stored response d).motion.offset m.offset t.max_offset
unfolding shown_bar
shown_leaves m t rubber_banding stored response d h =
    rw (unpressed m t (handle_of t m.offset) stored response.press d h) (bound_leaves m rubber_banding t.max_offset)

turn_leaves : (m : AxisMotion) (t : Track) (show_factor : Float) (rubber_banding : Bool) (stored : Option Float) (response : BarResponse) (d : ℕ)
    → (not (eq show_factor zero) && is_some_pos2 response.press) ≡ false
    → IsLeft (turn_bar m t show_factor rubber_banding stored response d).motion.offset m.offset t.max_offset
unfolding turn_bar
turn_leaves m t show_factor rubber_banding stored response d h =
    chosen (λ (b : Barred). IsLeft b.motion.offset m.offset t.max_offset) (eq show_factor zero) (hidden_bar m stored)
    (shown_bar m t rubber_banding stored response d)
    (λ k. inl refl)
    (λ k. shown_leaves m t rubber_banding stored response d (ap (λ (b : Bool). not b && is_some_pos2 response.press) (sym k) ∙ h))

bar_leaves : (f : Frame) (d e : ℕ) (x : Extents) (show_scroll rubber_banding : Bool) (stored : Option Float) (m : AxisMotion)
    → is_press_heeded f d show_scroll ≡ false
    → IsLeft (bar_of f d e (bar_space_of x) show_scroll rubber_banding stored m).motion.offset m.offset x.this.max_offset
unfolding bar_of bar_space_of track_of is_press_heeded
bar_leaves f d e x show_scroll rubber_banding stored m h = turn_leaves m _ _ rubber_banding stored (get_or f.host.bars d no_response) d h

-- ---- the final clamp, and the stuck flag
abbrev IsAtEnd : Float → Float → Bool → Type 0
IsAtEnd max_offset offset stuck = (eq (clamped_to offset max_offset) (max_of max_offset zero) ≡ true) × (stuck ≡ true)

on_maximum : (max_offset : Float) → is_finite max_offset ≡ true → IsAtEnd max_offset max_offset (eq max_offset max_offset || lt max_offset zero)
on_maximum max_offset n =
    (rw clamps_to_end (end_is_larger max_offset n), or_left (eq max_offset max_offset) (lt max_offset zero) (equals_itself max_offset n))

on_end : (max_offset : Float) → is_finite max_offset ≡ true → IsAtEnd max_offset (end_at max_offset) (eq (end_at max_offset) max_offset || lt max_offset zero)
on_end max_offset n =
    (ap (λ (x : Float). eq x (max_of max_offset zero)) (clamp_keeps_end max_offset n) ∙ end_is_larger max_offset n, end_sticks max_offset n)

-- as it was put, or as it was clamped
abbrev IsEither : Float → Float → Type 0
IsEither offset max_offset = (offset ≡ max_offset) ⊎ (offset ≡ end_at max_offset)

at_end : (max_offset offset : Float) → is_finite max_offset ≡ true → IsEither offset max_offset
    → IsAtEnd max_offset offset (eq offset max_offset || lt max_offset zero)
at_end max_offset offset n (inl h) = rw h (on_maximum max_offset n)
at_end max_offset offset n (inr h) = rw h (on_end max_offset n)

last_clamp : (rubber_banding : Bool) (offset max_offset : Float) → is_finite max_offset ≡ true → IsLeft offset max_offset max_offset
    → IsEither (cond rubber_banding offset (clamped_to offset max_offset)) max_offset
last_clamp true offset max_offset n (inl h) = inl h
last_clamp true offset max_offset n (inr h) = inr (h ∙ clamps_to_end max_offset)
last_clamp false offset max_offset n (inl h) = inr (ap (λ (x : Float). clamped_to x max_offset) h ∙ clamps_to_end max_offset)
last_clamp false offset max_offset n (inr h) =
    inr (ap (λ (x : Float). clamped_to x max_offset) (h ∙ clamps_to_end max_offset) ∙ clamp_keeps_end max_offset n)

abbrev IsFinalAtEnd : Float → FinalClamp → Type 0
IsFinalAtEnd max_offset z = IsAtEnd max_offset z.offset z.scroll_stuck_to_end

final_at_end : (m : AxisMotion) (rubber_banding : Bool) (max_offset : Float) (stick adjusted : Bool)
    → is_finite max_offset ≡ true → stick ≡ true → adjusted ≡ false → IsLeft m.offset max_offset max_offset
    → IsFinalAtEnd max_offset (final_clamp_of m rubber_banding max_offset stick adjusted)
unfolding final_clamp_of pick_of
final_at_end m rubber_banding max_offset true false n p q h = at_end max_offset _ n (last_clamp rubber_banding m.offset max_offset n h)
final_at_end m rubber_banding max_offset true true n p q h = absurd (true≢false q)
final_at_end m rubber_banding max_offset false adjusted n p q h = absurd (false≢true p)

-- ---- one axis through `end`
abbrev IsEndedAtEnd : Float → AxisEnded → Type 0
IsEndedAtEnd max_offset z = IsAtEnd max_offset z.offset z.scroll_stuck_to_end

finished_at_end : (f : Frame) (d e : ℕ) (before : AxisBefore) (x : Extents) (adjusted : Adjusted) (turned : Turned)
    → is_finite x.this.max_offset ≡ true → flag f.settings.stick_to_end d ≡ true → turned.motion.scroll_stuck_to_end ≡ true
    → (finished_of f d e before x adjusted turned).had_explicit_scroll_adjustment ≡ false
    → is_press_heeded f d (finished_of f d e before x adjusted turned).show_scroll ≡ false
    → IsEndedAtEnd x.this.max_offset (finished_of f d e before x adjusted turned)
unfolding finished_of ended_by
finished_at_end f d e before x adjusted turned n st k a h =
    let max_offset = x.this.max_offset in
    let stick = flag f.settings.stick_to_end d in
    let explicit = adjusted.had_explicit_scroll_adjustment in
    let motion = (barred_stage f d e before x adjusted turned).motion in
    let on_it = stick_offset turned.motion stick explicit max_offset st k a in
    final_at_end motion turned.rubber_banding max_offset stick explicit n st a
    (subst (λ (o : Float). IsLeft motion.offset o max_offset) on_it
    (bar_leaves f d e x (show_stage f d e before x adjusted turned) turned.rubber_banding _ (stuck_stage f d e before x adjusted turned) h))

ended_at_end : (f : Frame) (d e : ℕ) (before : AxisBefore) (space : AxisSpace) (x : Extents) (wheel : WheelHeard) (b : AxisBegun)
    → is_finite x.this.max_offset ≡ true → flag f.settings.stick_to_end d ≡ true → BegunStuck b
    → (axis_ended_of f d e before space x wheel b).consumed ≡ false → (axis_ended_of f d e before space x wheel b).had_explicit_scroll_adjustment ≡ false
    → is_press_heeded f d (axis_ended_of f d e before space x wheel b).show_scroll ≡ false
    → IsEndedAtEnd x.this.max_offset (axis_ended_of f d e before space x wheel b)
unfolding axis_ended_of finished_of ended_by
ended_at_end f d e before space x wheel b n st k c a h =
    let adjusted = adjusted_of f d space b.motion in
    let turned = turned_of f d before space x.this wheel adjusted.motion b.rubber_banding in
    finished_at_end f d e before x adjusted turned n st
    (turned_stuck f d before space x.this wheel adjusted.motion b.rubber_banding (adjustment_stuck f d space b.motion k) c) a h

-- and through `begin` before it
unmoved_at_end : (table : Table) (f : Frame) (s : State) (d e : ℕ) (space : AxisSpace) (x : Extents) (wheel : WheelHeard) (p : Prepared)
    → (inner_size : Float) (hold : Bool)
    → is_finite x.this.max_offset ≡ true → flag f.settings.stick_to_end d ≡ true → flag s.scroll_stuck_to_end d ≡ true
    → is_moved_in f p d (axis_ended_of f d e (before_of s d) space x wheel (axis_begun_of table f s d inner_size p.has_background_drag hold)) ≡ false
    → IsEndedAtEnd x.this.max_offset (axis_ended_of f d e (before_of s d) space x wheel (axis_begun_of table f s d inner_size p.has_background_drag hold))
unfolding is_moved_in is_drag_heeded
unmoved_at_end table f s d e space x wheel p inner_size hold n st k h =
    let b = axis_begun_of table f s d inner_size p.has_background_drag hold in
    let z = axis_ended_of f d e (before_of s d) space x wheel b in
    let press = is_press_heeded f d z.show_scroll in
    let adjusted = z.had_explicit_scroll_adjustment in
    let not_taken = not_right (is_drag_heeded f p d) (z.consumed || (adjusted || press)) h in
    let not_adjusted = not_right z.consumed (adjusted || press) not_taken in
    ended_at_end f d e (before_of s d) space x wheel b n st
    (begun_stuck table f s d inner_size p.has_background_drag hold (not_left (is_drag_heeded f p d) (z.consumed || (adjusted || press)) h) k)
    (not_left z.consumed (adjusted || press) not_taken)
    (not_left adjusted press not_adjusted)
    (not_right adjusted press not_adjusted)

-- ---- an accepted frame

-- on axis d: it sticks, the axis is stuck and finite, and not moved
abbrev Leads : ℕ → Type 0
Leads d =
    (table : Table) (f : Frame) (s : State)
    → is_finite (extent_on (end_of f s (begin_of table f s)) d).max_offset ≡ true → flag f.settings.stick_to_end d ≡ true
    → flag s.scroll_stuck_to_end d ≡ true
    → is_moved_in f (begin_of table f s) d (ended_on (end_of f s (begin_of table f s)) d) ≡ false
    → IsEndedAtEnd (extent_on (end_of f s (begin_of table f s)) d).max_offset (ended_on (end_of f s (begin_of table f s)) d)

leads_x : Leads 0
unfolding end_of begin_of prepared_of
leads_x table f s n st k h = unmoved_at_end table f s 0 1 _ _ _ (begin_of table f s) _ _ n st k h

leads_y : Leads 1
unfolding end_of begin_of prepared_of
leads_y table f s n st k h = unmoved_at_end table f s 1 0 _ _ _ (begin_of table f s) _ _ n st k h

-- a stuck axis, on which the frame sticks and which nothing moves, shows the list's end, and stays stuck
abbrev pub StaysOnEnd : (Table → State → List ℕ → ℕ → Bool) → ℕ → Type 0
StaysOnEnd moved d =
    (table : Table) (S : State) (bytes : List ℕ) → is_accepted (step_at table S bytes) ≡ true → word_no bytes (At.stick_to_end + d) ≡ 1
    → moved table S bytes d ≡ false → flag S.scroll_stuck_to_end d ≡ true
    → IsOnEnd table S bytes (step_at table S bytes).state d × (flag (step_at table S bytes).state.scroll_stuck_to_end d ≡ true)

pub stays_x : StaysOnEnd is_moved 0
unfolding is_moved maximum_offset clamped_offset next_state ended_at begun_at frame_of settings_of flags_no flag_no
stays_x table S bytes a st h k =
    let t = accepted table S bytes a in
    let after : State → Type 0 = λ s. (eq (num (clamped_offset s) 0) (list_end table S bytes 0) ≡ true) × (flag s.scroll_stuck_to_end 0 ≡ true) in
    subst after (sym t.state) (leads_x table (frame_of bytes) S t.x.maximum (eq-eqb _ 1 st) k h)

pub stays_y : StaysOnEnd is_moved 1
unfolding is_moved maximum_offset clamped_offset next_state ended_at begun_at frame_of settings_of flags_no flag_no
stays_y table S bytes a st h k =
    let t = accepted table S bytes a in
    let after : State → Type 0 = λ s. (eq (num (clamped_offset s) 1) (list_end table S bytes 1) ≡ true) × (flag s.scroll_stuck_to_end 1 ≡ true) in
    subst after (sym t.state) (leads_y table (frame_of bytes) S t.y.maximum (eq-eqb _ 1 st) k h)
