-- The clock along a list: the last accepted frame's time is remembered, between resets it never falls, and times that do not fall are never
-- refused with 12. Assumes nothing.
use Rattle.std.specs.Prelude.{◌≡◌, ℕ, Bool, true, false, cond, ◌&&◌, eqb, ◌⊎◌, List, [], ◌∷◌}
use mathlib.Core.Path.{refl, sym, ap, subst, ◌∙◌}
use mathlib.Core.Logic.{inl, inr}
use borrow.Author.Tests.{eqb-true, not-false}
use lib.Ieee.{Float, of_bits, lt, le}
use Rattle.numbers.specs.Table.{Table}
use Rattle.numbers.specs.Scalar.{is_finite}
use Rattle.numbers.proofs.WithinLaws.{not_below}
use Rattle.area.specs.State.{no_time, default}
use Rattle.area.specs.Layout as At
use Rattle.area.specs.Frame.{time_no}
use Rattle.area.specs.Clock.{is_back, reset_of}
use Rattle.area.specs.Checks.{is_time_outside, frame_refusal, refusal_of}
use Rattle.area.specs.Steps.{Fed, fed_frame, fed_reset, step_at, is_accepted}
use Rattle.area.specs.Lists.{RemembersAlong, NeverFallsAlong, NoneLess, TimesDoNotFall, None12, ClockAlong}
use Rattle.area.specs.declared.state.State.{State}
use Rattle.numbers.proofs.TestLaws.{and_left}
use Rattle.area.proofs.OrderLaws.{of_not_below, at_most_itself}
use Rattle.area.proofs.PassedLaws.{unrefused, passed_time}
use Rattle.area.proofs.CallLaws.{twelve, accepted, refusal_keeps}

reset_leaves : (S : State) → (reset_of S).remembered_time ≡ no_time
unfolding reset_of
reset_leaves S = refl

-- ---- the last accepted frame's time is remembered
remembers_next : (table : Table) (S : State) (bytes : List ℕ) (t : Float) → S.remembered_time ≡ t → (test : Bool) → is_accepted (step_at table S bytes) ≡ test
    → (step_at table S bytes).state.remembered_time ≡ cond test (time_no bytes At.time) t
remembers_next table S bytes t h true a = (accepted table S bytes a).remembers
remembers_next table S bytes t h false a = ap (λ (s : State). s.remembered_time) (refusal_keeps table S bytes a) ∙ h

remembers_along : (t : Float) (S : State) (feed : List Fed) → S.remembered_time ≡ t → RemembersAlong t S feed
remembers_along t S [] h = h
remembers_along t S (fed_frame table bytes ∷ rest) h = (h, remembers_along _ (step_at table S bytes).state rest (remembers_next table S bytes t h _ refl))
remembers_along t S (fed_reset ∷ rest) h = (h, remembers_along no_time (reset_of S) rest (reset_leaves S))

-- ---- between resets it never falls
abbrev TimeIsFinite : State → Type 0
TimeIsFinite S = is_finite S.remembered_time ≡ true

reset_finite : (S : State) → TimeIsFinite (reset_of S)
unfolding reset_of is_finite of_bits
reset_finite S = refl

-- one frame, by whether it is accepted
module _ (table : Table) (S : State) (bytes : List ℕ) (h : TimeIsFinite S) where
  abbrev after : State
  after = (step_at table S bytes).state

  no_fall : (t : Bool) → is_accepted (step_at table S bytes) ≡ t → (le S.remembered_time after.remembered_time ≡ true) × TimeIsFinite after
  no_fall true a =
      let is = accepted table S bytes a in
      let on = of_not_below (time_no bytes At.time) S.remembered_time is.time_finite h is.in_time in
      (ap (le S.remembered_time) is.remembers ∙ on, ap is_finite is.remembers ∙ is.time_finite)
  no_fall false a =
      let kept = ap (λ (s : State). s.remembered_time) (refusal_keeps table S bytes a) in
      (ap (le S.remembered_time) kept ∙ at_most_itself S.remembered_time h, ap is_finite kept ∙ h)

never_falls_along : (S : State) (feed : List Fed) → TimeIsFinite S → NeverFallsAlong S feed
never_falls_along S [] h = tt
never_falls_along S (fed_frame table bytes ∷ rest) h =
    let on = no_fall table S bytes h _ refl in
    (on.0, never_falls_along (step_at table S bytes).state rest on.1)
never_falls_along S (fed_reset ∷ rest) h = never_falls_along (reset_of S) rest (reset_finite S)

-- ---- times that do not fall

-- no frame up to the next reset is before the remembered time, or that is the one which a reset leaves
abbrev Ahead : State → List Fed → Type 0
Ahead S feed = NoneLess S.remembered_time feed ⊎ (S.remembered_time ≡ no_time)

-- a time that passes 3 is not below 0
from_0 : (t : Float) → is_time_outside t ≡ false → lt t no_time ≡ false
from_0 t h = not_below no_time t (rw (and_left (le no_time t) _ (not-false _ h)) tt)

-- so a frame that passes 1 to 5 is in time
ahead_passes : (table : Table) (S : State) (bytes : List ℕ) (rest : List Fed) → Ahead S (fed_frame table bytes ∷ rest) → frame_refusal bytes ≡ 0
    → is_back bytes S ≡ false
ahead_passes table S bytes rest (inl h) passes = h.0 passes
ahead_passes table S bytes rest (inr e) passes = ap (lt (time_no bytes At.time)) e ∙ from_0 (time_no bytes At.time) (passed_time bytes passes)

ahead_in_time : (table : Table) (S : State) (bytes : List ℕ) (rest : List Fed) → Ahead S (fed_frame table bytes ∷ rest)
    → (t : Bool) → eqb (refusal_of bytes S) 0 ≡ t → (t && is_back bytes S) ≡ false
ahead_in_time table S bytes rest h true p = ahead_passes table S bytes rest h (unrefused bytes S (eqb-true (refusal_of bytes S) 0 p)).0
ahead_in_time table S bytes rest h false p = refl

stays_ahead : (table : Table) (S : State) (bytes : List ℕ) (rest : List Fed) → (frame_refusal bytes ≡ 0 → NoneLess (time_no bytes At.time) rest)
    → Ahead S (fed_frame table bytes ∷ rest) → (t : Bool) → is_accepted (step_at table S bytes) ≡ t → Ahead (step_at table S bytes).state rest
stays_ahead table S bytes rest n h true a =
    let is = accepted table S bytes a in
    inl (subst (λ (t : Float). NoneLess t rest) (sym is.remembers) (n (unrefused bytes S is.unrefused).0))
stays_ahead table S bytes rest n (inl h) false a = subst (λ (s : State). Ahead s rest) (sym (refusal_keeps table S bytes a)) (inl h.1)
stays_ahead table S bytes rest n (inr e) false a = subst (λ (s : State). Ahead s rest) (sym (refusal_keeps table S bytes a)) (inr e)

none_12 : (S : State) (feed : List Fed) → TimesDoNotFall feed → Ahead S feed → None12 S feed
none_12 S [] r h = tt
none_12 S (fed_frame table bytes ∷ rest) r h = (
  twelve table S bytes ∙ ahead_in_time table S bytes rest h _ refl,
  none_12 (step_at table S bytes).state rest r.1 (stays_ahead table S bytes rest r.0 h _ refl),
)
none_12 S (fed_reset ∷ rest) r h = none_12 (reset_of S) rest r (inr (reset_leaves S))

-- ---- from the fresh state
fresh_remembers : default.remembered_time ≡ no_time
unfolding default
fresh_remembers = refl

fresh_finite : TimeIsFinite default
unfolding default is_finite of_bits
fresh_finite = refl

pub clock_along : (feed : List Fed) → ClockAlong default feed
clock_along feed = record {
  remembers = remembers_along no_time default feed fresh_remembers;
  never_falls = never_falls_along default feed fresh_finite;
  never_12 = λ r. none_12 default feed r (inr fresh_remembers);
}
