-- The frame call on a frame inside a settling run: it names no move, is refused with 3 where its time is late, with 12 where the clock has run
-- back, which it has not after the first one, and otherwise with 8 alone.
-- Assumes nothing.
use Rattle.std.specs.Prelude.{◌≡◌, ℕ, Bool, true, false, cond, not, ◌&&◌, ◌||◌, eqb, List, length}
use mathlib.Core.Path.{refl, sym, ap, ◌∙◌}
use native.Mathlib.Omega.{arith}
use borrow.Author.Tests.{eqb-true}
use lib.Ieee.{Float, lt}
use Rattle.numbers.specs.Table.{Table}
use Rattle.area.specs.Layout as At
use Rattle.area.specs.Frame.{time_no}
use Rattle.area.specs.Clock.{is_back, clock_refusal}
use Rattle.area.specs.Checks.{is_time_outside, frame_refusal, is_state_finite, state_refusal, refusal_of, refusal_before7}
use Rattle.area.specs.Outcome.{refused_of, is_answer_finite}
use Rattle.area.specs.Call.{run_of, call_under}
use Rattle.area.specs.Steps.{begun_at, ended_at, outputs_at, step_at, is_accepted}
use Rattle.area.specs.Moved.{is_moved_by_words}
use Rattle.area.specs.SettlingRun.{is_no_limit, is_no_increment, run_refusal, settle_refusal, advanced, is_inside, FrameInside}
use Rattle.area.specs.declared.state.State.{State}
use Rattle.area.specs.Outcome.{Answer}
use Rattle.numbers.proofs.TestLaws.{not_left, not_right}
use Rattle.area.proofs.CallLaws.{called, step_is_call, outputs_accepted, twelve, accepted, whole_if_passed}
use Rattle.area.proofs.PassedLaws.{unrefused, passed_time}
use Rattle.area.proofs.MovedLaws.{unblocked}
use Rattle.area.proofs.AdvancedLaws.{advanced_whole, moves_alike, late_alone}
use Rattle.area.proofs.TimeLaws.{next_not_less}
use Rattle.area.proofs.SettlingRunLaws.{passes_first}

abbrev pub is_late : List ℕ → Bool
is_late bytes = is_time_outside (time_no bytes At.time)

-- ---- what each frame knows
pub record Inner (S : State) (bytes : List ℕ) : Type 0 where
  pub whole : length bytes ≡ 416
  pub shows : frame_refusal bytes ≡ cond (is_late bytes) 3 0
  pub finite : is_state_finite S ≡ true
  pub still : (is_moved_by_words bytes 0 ≡ false) × (is_moved_by_words bytes 1 ≡ false)

-- the next one, after a frame that was accepted
pub inner_next : (table : Table) (increment : Float) (S : State) (bytes : List ℕ) → Inner S bytes → is_accepted (step_at table S bytes) ≡ true
    → Inner (step_at table S bytes).state (advanced increment bytes)
inner_next table increment S bytes i a =
    let is = accepted table S bytes a in
    let moves = moves_alike increment bytes i.whole in
    record {
      whole = advanced_whole increment bytes i.whole;
      shows = late_alone increment bytes i.whole (unrefused bytes S is.unrefused).0;
      finite = ap is_state_finite is.state ∙ is.finite;
      still = (moves 0 ∙ i.still.0, moves 1 ∙ i.still.1);
    }

-- whose time is not less than the one that is remembered then
pub next_in_time : (table : Table) (increment : Float) (S : State) (bytes : List ℕ) → is_no_increment increment ≡ false → Inner S bytes
    → is_accepted (step_at table S bytes) ≡ true → is_back (advanced increment bytes) (step_at table S bytes).state ≡ false
next_in_time table increment S bytes some i a =
    let is = accepted table S bytes a in
    ap (lt (time_no (advanced increment bytes) At.time)) is.remembers ∙ next_not_less increment bytes i.whole some is.time_finite

-- the first one, which nothing turns back up front
state_passes : (S : State) → state_refusal S ≡ 0 → is_state_finite S ≡ true
unfolding state_refusal
state_passes S h = by (is_state_finite S) h
  where
    by : (t : Bool) → cond {A = ℕ} t 0 6 ≡ 0 → t ≡ true
    by true h = refl
    by false h = absurd (omega (arith, h))

nine_by : (a b x y : Bool) → cond {A = ℕ} (a || b || x || y) 9 0 ≡ 0 → (b ≡ false) × (x ≡ false) × (y ≡ false)
nine_by a b x y h =
    let ahead = not_left (a || b || x) y none in
    (not_right a b (not_left (a || b) x ahead), not_right (a || b) x ahead, not_right (a || b || x) y none)
  where
    nine : (t : Bool) → cond {A = ℕ} t 9 0 ≡ 0 → t ≡ false
    nine true h = absurd (omega (arith, h))
    nine false h = refl

    none : (a || b || x || y) ≡ false
    none = nine (a || b || x || y) h

pub early_first : (S : State) (bytes : List ℕ) (increment : Float) (limit : ℕ) → settle_refusal S bytes increment limit ≡ 0 → is_late bytes ≡ false
early_first S bytes increment limit h = passed_time bytes (unrefused bytes S (passes_first S bytes increment limit h).0).0

passes_nine : (bytes : List ℕ) (increment : Float) (limit : ℕ) → run_refusal bytes increment limit ≡ 0
    → (is_no_increment increment ≡ false) × (is_moved_by_words bytes 0 ≡ false) × (is_moved_by_words bytes 1 ≡ false)
unfolding run_refusal
passes_nine bytes increment limit h = nine_by (is_no_limit limit) (is_no_increment increment) (is_moved_by_words bytes 0) (is_moved_by_words bytes 1) h

pub some_increment : (S : State) (bytes : List ℕ) (increment : Float) (limit : ℕ) → settle_refusal S bytes increment limit ≡ 0
    → is_no_increment increment ≡ false
some_increment S bytes increment limit h = (passes_nine bytes increment limit (passes_first S bytes increment limit h).1).0

pub inner_first : (S : State) (bytes : List ℕ) (increment : Float) (limit : ℕ) → settle_refusal S bytes increment limit ≡ 0 → Inner S bytes
inner_first S bytes increment limit h =
    let first = passes_first S bytes increment limit h in
    let passes = unrefused bytes S first.0 in
    let nine = passes_nine bytes increment limit first.1 in
    record {
      whole = whole_if_passed S bytes first.0;
      shows = passes.0 ∙ sym (ap (λ (t : Bool). cond t 3 0) (early_first S bytes increment limit h));
      finite = state_passes S passes.1;
      still = (nine.1, nine.2);
    }

-- ---- so each is refused with 3 exactly where it is late, with 12 where it is not but the clock has run back, and otherwise with 8 alone
refusal_by : (late : Bool) (k next value : ℕ) → k ≡ cond late 3 0 → next ≡ value → cond (eqb k 0) next k ≡ cond late 3 value
refusal_by true k next value e z = ap (λ (n : ℕ). cond (eqb n 0) next n) e
refusal_by false k next value e z = ap (λ (n : ℕ). cond (eqb n 0) next n) e ∙ z

inner_passes : (S : State) (bytes : List ℕ) → Inner S bytes → refusal_of bytes S ≡ cond (is_late bytes) 3 0
unfolding refusal_of state_refusal
inner_passes S bytes i = refusal_by (is_late bytes) (frame_refusal bytes) (state_refusal S) 0 i.shows (rw i.finite)

abbrev refusal_inside : Bool → Bool → ℕ
refusal_inside late back = cond late 3 (cond back 12 0)

inner_refusal : (S : State) (bytes : List ℕ) → Inner S bytes → refusal_before7 bytes S ≡ refusal_inside (is_late bytes) (is_back bytes S)
unfolding refusal_before7 clock_refusal
inner_refusal S bytes i =
    refusal_by (is_late bytes) (refusal_of bytes S) (clock_refusal bytes S) (cond (is_back bytes S) 12 0) (inner_passes S bytes i) refl

abbrev Refused : Bool → ℕ → Type 0
Refused late refusal = (is_inside refusal ≡ true) × (eqb refusal 3 ≡ late)

refused_by : (S : State) (outputs : Answer) (late back finite : Bool) → is_accepted outputs ≡ true
    → Refused late (called S outputs (refusal_inside late back) (eqb (refusal_inside late back) 0) false finite).outcome.refusal
unfolding refused_of
refused_by S outputs true back finite o = (refl, refl)
refused_by S outputs false true finite o = (refl, refl)
refused_by S outputs false false true o =
    let none = eqb-true outputs.outcome.refusal 0 o in (ap is_inside none, ap (λ (n : ℕ). eqb n 3) none)
refused_by S outputs false false false o = (refl, refl)

inner_refused : (table : Table) (S : State) (bytes : List ℕ) → Inner S bytes → Refused (is_late bytes) (step_at table S bytes).outcome.refusal
unfolding outputs_at ended_at begun_at call_under run_of
inner_refused table S bytes i =
    rw (step_is_call table S bytes, inner_refusal S bytes i, unblocked table S bytes i.still.0 i.still.1)
    (refused_by S (outputs_at table S bytes) (is_late bytes) (is_back bytes S) (is_answer_finite (outputs_at table S bytes)) (outputs_accepted table S bytes))

not_late : (late : Bool) → eqb (cond late 3 0) 0 ≡ not late
not_late true = refl
not_late false = refl

inner_back : (table : Table) (S : State) (bytes : List ℕ) → Inner S bytes
    → eqb (step_at table S bytes).outcome.refusal 12 ≡ (not (is_late bytes) && is_back bytes S)
inner_back table S bytes i =
    twelve table S bytes ∙ ap (λ (t : Bool). t && is_back bytes S) (ap (λ (n : ℕ). eqb n 0) (inner_passes S bytes i) ∙ not_late (is_late bytes))

pub frame_inside : (table : Table) (S : State) (bytes : List ℕ) → Inner S bytes → FrameInside table S bytes
frame_inside table S bytes i =
    let refused = inner_refused table S bytes i in
    record { unmoved = i.still; refused = refused.0; late = refused.1; back = inner_back table S bytes i }
