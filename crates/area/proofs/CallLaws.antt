-- The steps of one frame are the frame call; what an accepted and what a refused frame tells. Assumes nothing.
use Rattle.std.specs.Prelude.{◌≡◌, ℕ, Bool, true, false, cond, not, ◌&&◌, eqb, ◌==◌, ◌≢◌, List, length}
use mathlib.Core.Path.{refl, sym, ap, ◌∙◌}
use mathlib.Core.Bool.{true≢false, false≢true}
use native.Mathlib.Omega.{arith}
use borrow.Author.Tests.{eqb-true, eq-eqb, ne_eqb}
use lib.Ieee.{Float}
use Rattle.numbers.specs.Table.{Table}
use Rattle.numbers.specs.Scalar.{is_finite}
use Rattle.area.specs.Pair.{num}
use Rattle.area.specs.Layout as At
use Rattle.area.specs.Frame.{time_no, host_of, frame_of}
use Rattle.area.specs.Clock.{is_back, clock_refusal}
use Rattle.area.specs.Checks.{any_shows, frame_refusal, state_refusal, refusal_of, refusal_before7, is_pair_finite, are_targets_finite, are_presses_finite, is_rect_finite, is_state_finite}
use Rattle.area.specs.End.{is_press_blocked}
use Rattle.area.specs.PutOut.{next_state, outcome_of, answer_of}
use Rattle.area.specs.Outcome.{refused_of, is_outcome_finite, is_answer_finite}
use Rattle.area.specs.Call.{run_of, call_under}
use Rattle.area.specs.Steps.{begun_at, ended_at, outputs_at, check_at, step_at, is_accepted}
use Rattle.area.specs.Moved.{ended_on, extent_on}
use Rattle.area.specs.declared.state.State.{State}
use Rattle.area.specs.declared.fields.Frame.{Frame}
use Rattle.area.specs.declared.end.Ended.{Ended}
use Rattle.area.specs.Outcome.{Answer, Outcome}
use Rattle.numbers.proofs.TestLaws.{and_left, and_right, both_zero}
use Rattle.area.proofs.PassedLaws.{first_of}

-- ---- with the first refusal r of checks 1 to 6 and 12, whether a press is blocked, and whether what is put out is finite

-- the frame call, and document 01's steps
abbrev pub called : State → Answer → ℕ → Bool → Bool → Bool → Answer
called S outputs r passes blocked finite = cond passes (cond blocked (refused_of S 7) (cond finite outputs (refused_of S 8))) (refused_of S r)

abbrev tried : State → Answer → ℕ → Bool → Answer
tried S outputs check finite = cond (eqb check 0) (cond finite outputs (refused_of S 8)) (refused_of S check)

same_by : (S : State) (outputs : Answer) (r : ℕ) (passes blocked finite : Bool) → eqb r 0 ≡ passes
    → tried S outputs (cond passes (cond blocked 7 0) r) finite ≡ called S outputs r passes blocked finite
same_by S outputs r true true finite h = refl
same_by S outputs r true false finite h = refl
same_by S outputs r false blocked finite h = ap (λ (t : Bool). cond t (cond finite outputs (refused_of S 8)) (refused_of S r)) h

accepted_by : (S : State) (outputs : Answer) (r : ℕ) (passes blocked finite : Bool) → eqb r 0 ≡ passes
    → is_accepted (called S outputs r passes blocked finite) ≡ true
    → (called S outputs r passes blocked finite ≡ outputs) × (finite ≡ true) × (r ≡ 0)
unfolding refused_of
accepted_by S outputs r true true finite h a = absurd (false≢true a)
accepted_by S outputs r true false true h a = (refl, refl, eqb-true r 0 h)
accepted_by S outputs r true false false h a = absurd (false≢true a)
accepted_by S outputs r false blocked finite h a = absurd (false≢true (sym h ∙ a))

refused_by : (S : State) (outputs : Answer) (r : ℕ) (passes blocked finite : Bool) → is_accepted outputs ≡ true
    → is_accepted (called S outputs r passes blocked finite) ≡ false
    → (called S outputs r passes blocked finite).state ≡ S
unfolding refused_of
refused_by S outputs r true true finite o a = refl
refused_by S outputs r true false true o a = absurd (true≢false (sym o ∙ a))
refused_by S outputs r true false false o a = refl
refused_by S outputs r false blocked finite o a = refl

-- with whether the frame is whole, its first refusal k of checks 2 to 5, and check 6
whole_by : (whole : Bool) (k state : ℕ)
    → eqb (cond (eqb (cond (not whole) 1 k) 0) state (cond (not whole) 1 k)) 0 ≡ true → whole ≡ true
whole_by true k state a = refl
whole_by false k state a = absurd (false≢true a)

-- ---- one frame

-- a frame that no check turns back is whole
pub whole_of : (S : State) (bytes : List ℕ) (r : ℕ) → r ≡ refusal_of bytes S → eqb r 0 ≡ true → length bytes ≡ 416
unfolding refusal_of frame_refusal
whole_of S bytes r e a = eqb-true (length bytes) 416 (whole_by (eqb (length bytes) 416) _ (state_refusal S) (ap (λ (k : ℕ). eqb k 0) (sym e) ∙ a))

pub whole_if_passed : (S : State) (bytes : List ℕ) → refusal_of bytes S ≡ 0 → length bytes ≡ 416
whole_if_passed S bytes h = whole_of S bytes (refusal_of bytes S) refl (eq-eqb (refusal_of bytes S) 0 h)

-- and passes 1 to 6, and is in time
not_back : (t : Bool) → cond {A = ℕ} t 12 0 ≡ 0 → t ≡ false
not_back true h = absurd (omega (arith, h))
not_back false h = refl

passed_before_7 : (S : State) (bytes : List ℕ) → refusal_before7 bytes S ≡ 0 → (refusal_of bytes S ≡ 0) × (is_back bytes S ≡ false)
unfolding refusal_before7 clock_refusal
passed_before_7 S bytes h = let both = both_zero (refusal_of bytes S) (clock_refusal bytes S) _ refl h in (both.0, not_back (is_back bytes S) both.1)

pub whole_before_7 : (S : State) (bytes : List ℕ) (r : ℕ) → r ≡ refusal_before7 bytes S → eqb r 0 ≡ true → length bytes ≡ 416
whole_before_7 S bytes r e a = whole_if_passed S bytes (passed_before_7 S bytes (sym e ∙ eqb-true r 0 a)).0

-- "answers and state equal document 01's steps"
pub step_is_call : (table : Table) (S : State) (bytes : List ℕ) → step_at table S bytes ≡ call_under table S bytes
unfolding step_at check_at outputs_at ended_at begun_at call_under run_of
step_is_call table S bytes =
    same_by S (outputs_at table S bytes) (refusal_before7 bytes S) (eqb (refusal_before7 bytes S) 0) (is_press_blocked (ended_at table S bytes))
    (is_answer_finite (outputs_at table S bytes)) refl

-- "A refusal returns the state as given"
pub outputs_accepted : (table : Table) (S : State) (bytes : List ℕ) → is_accepted (outputs_at table S bytes) ≡ true
unfolding outputs_at answer_of outcome_of
outputs_accepted table S bytes = refl

call_refused : (table : Table) (S : State) (bytes : List ℕ) → is_accepted (call_under table S bytes) ≡ false → (call_under table S bytes).state ≡ S
unfolding outputs_at ended_at begun_at call_under run_of
call_refused table S bytes a =
    refused_by S (outputs_at table S bytes) (refusal_before7 bytes S) (eqb (refusal_before7 bytes S) 0) (is_press_blocked (ended_at table S bytes))
    (is_answer_finite (outputs_at table S bytes)) (outputs_accepted table S bytes) a

-- bytes of another length are refused with 1
pub wrong_length : (bytes : List ℕ) → (length bytes ≢ 416) → 1 ≡ frame_refusal bytes
unfolding frame_refusal
wrong_length bytes h = rw (ne_eqb (length bytes) 416 h)

-- a frame whose outcome is that of a refusal is refused
pub refused_by_outcome : (table : Table) (S : State) (bytes : List ℕ) (k : ℕ) → (k == 0) ≡ false
    → (refused_of S k).outcome ≡ (call_under table S bytes).outcome → refused_of S k ≡ call_under table S bytes
unfolding refused_of
refused_by_outcome table S bytes k h e =
    let refused : is_accepted (call_under table S bytes) ≡ false = ap (λ (o : Outcome). o.refusal == 0) (sym e) ∙ h in
    let answer = call_under table S bytes in
    ap (λ (s : State). record { state = s; outcome = (refused_of S k).outcome }) (sym (call_refused table S bytes refused))
    ∙ ap (λ (o : Outcome). record { state = answer.state; outcome = o }) e

pub refusal_keeps : (table : Table) (S : State) (bytes : List ℕ) → is_accepted (step_at table S bytes) ≡ false → (step_at table S bytes).state ≡ S
refusal_keeps table S bytes a = rw step_is_call (call_refused table S bytes (rw step_is_call at a))

-- ---- 12 is for a frame and a state that pass 1 to 6 and a time that is less

-- none of 1 to 6 is 12
first_of_6 : (long two three four five finite : Bool)
    → let k = first_of long two three four five in eqb (cond (eqb k 0) (cond finite 0 6) k) 12 ≡ false
first_of_6 false b c d e f = refl
first_of_6 true true c d e f = refl
first_of_6 true false true d e f = refl
first_of_6 true false false true e f = refl
first_of_6 true false false false true f = refl
first_of_6 true false false false false true = refl
first_of_6 true false false false false false = refl

not_12 : (S : State) (bytes : List ℕ) → eqb (refusal_of bytes S) 12 ≡ false
unfolding refusal_of frame_refusal state_refusal
not_12 S bytes =
    first_of_6 (eqb (length bytes) 416) (any_shows 2 bytes 104) (any_shows 3 bytes 104) (any_shows 4 bytes 104) (any_shows 5 bytes 104) (is_state_finite S)

-- with the first refusal k of 1 to 6, whether it is none, and whether the time is less
twelve_by : (k : ℕ) (passes back : Bool) → eqb k 12 ≡ false → eqb (cond passes (cond back 12 0) k) 12 ≡ (passes && back)
twelve_by k true true h = refl
twelve_by k true false h = refl
twelve_by k false back h = h

called_12 : (S : State) (outputs : Answer) (r : ℕ) (passes blocked finite : Bool) → is_accepted outputs ≡ true → eqb r 0 ≡ passes
    → eqb (called S outputs r passes blocked finite).outcome.refusal 12 ≡ eqb r 12
unfolding refused_of
called_12 S outputs r true true finite o h = sym (ap (λ (n : ℕ). eqb n 12) (eqb-true r 0 h))
called_12 S outputs r true false true o h =
    ap (λ (n : ℕ). eqb n 12) (eqb-true outputs.outcome.refusal 0 o ∙ sym (eqb-true r 0 h))
called_12 S outputs r true false false o h = sym (ap (λ (n : ℕ). eqb n 12) (eqb-true r 0 h))
called_12 S outputs r false blocked finite o h = refl

pub twelve : (table : Table) (S : State) (bytes : List ℕ)
    → eqb (step_at table S bytes).outcome.refusal 12 ≡ (eqb (refusal_of bytes S) 0 && is_back bytes S)
unfolding outputs_at ended_at begun_at call_under run_of refusal_before7 clock_refusal
twelve table S bytes =
    ap (λ (r : Answer). eqb r.outcome.refusal 12) (step_is_call table S bytes)
    ∙ called_12 S (outputs_at table S bytes) (refusal_before7 bytes S) (eqb (refusal_before7 bytes S) 0) (is_press_blocked (ended_at table S bytes))
    (is_answer_finite (outputs_at table S bytes)) (outputs_accepted table S bytes) refl
    ∙ twelve_by (refusal_of bytes S) (eqb (refusal_of bytes S) 0) (is_back bytes S) (not_12 S bytes)

-- ---- an accepted frame

-- on axis d the offset stored and the maximum offset are finite
pub record IsFiniteOn (e : Ended) (d : ℕ) : Type 0 where
  pub offset : is_finite (ended_on e d).offset ≡ true
  pub maximum : is_finite (extent_on e d).max_offset ≡ true

pub record Accepted (table : Table) (S : State) (bytes : List ℕ) : Type 0 where
  pub state : (step_at table S bytes).state ≡ next_state (frame_of bytes) (ended_at table S bytes)
  pub unrefused : refusal_of bytes S ≡ 0
  pub in_time : is_back bytes S ≡ false
  pub remembers : (step_at table S bytes).state.remembered_time ≡ time_no bytes At.time
  pub time_finite : is_finite (time_no bytes At.time) ≡ true
  pub finite : is_state_finite (next_state (frame_of bytes) (ended_at table S bytes)) ≡ true
  pub x : IsFiniteOn (ended_at table S bytes) 0
  pub y : IsFiniteOn (ended_at table S bytes) 1

first_two : (a b c d e f g : Bool) → (a && b && c && d && e && f && g) ≡ true → (a ≡ true) × (b ≡ true)
first_two true true c d e f g h = (refl, refl)
first_two true false c d e f g h = absurd (false≢true h)
first_two false b c d e f g h = absurd (false≢true h)

offsets_finite : (t : State) → is_state_finite t ≡ true → (is_pair_finite t.offset ≡ true) × (is_pair_finite t.max_offset ≡ true)
unfolding is_state_finite
offsets_finite t h =
    first_two (is_pair_finite t.offset) (is_pair_finite t.max_offset) (are_targets_finite t.offset_target) (is_pair_finite t.vel)
    (are_presses_finite t.scroll_start_offset_from_top_left) (is_rect_finite t.interact_rect) (is_finite t.remembered_time) h

remembered_finite : (t : State) → is_state_finite t ≡ true → is_finite t.remembered_time ≡ true
unfolding is_state_finite
remembered_finite t h =
    and_right (is_pair_finite t.offset && is_pair_finite t.max_offset && are_targets_finite t.offset_target && is_pair_finite t.vel
    && are_presses_finite t.scroll_start_offset_from_top_left && is_rect_finite t.interact_rect) (is_finite t.remembered_time) h

pair_finite : (v : List Float) → is_pair_finite v ≡ true → (is_finite (num v 0) ≡ true) × (is_finite (num v 1) ≡ true)
unfolding is_pair_finite
pair_finite v h = (and_left (is_finite (num v 0)) (is_finite (num v 1)) h, and_right (is_finite (num v 0)) (is_finite (num v 1)) h)

ended_finite : (f : Frame) (e : Ended) → is_state_finite (next_state f e) ≡ true → IsFiniteOn e 0 × IsFiniteOn e 1
unfolding next_state
ended_finite f e h =
    let both = offsets_finite (next_state f e) h in
    let offset = pair_finite (next_state f e).offset both.0 in
    let maximum = pair_finite (next_state f e).max_offset both.1 in
    (record { offset = offset.0; maximum = maximum.0 }, record { offset = offset.1; maximum = maximum.1 })

outputs_finite : (table : Table) (S : State) (bytes : List ℕ) → is_answer_finite (outputs_at table S bytes) ≡ true
    → is_state_finite (next_state (frame_of bytes) (ended_at table S bytes)) ≡ true
unfolding is_answer_finite outputs_at answer_of
outputs_finite table S bytes h = and_left (is_state_finite (outputs_at table S bytes).state) (is_outcome_finite (outputs_at table S bytes).outcome) h

outputs_state : (table : Table) (S : State) (bytes : List ℕ) → (outputs_at table S bytes).state ≡ next_state (frame_of bytes) (ended_at table S bytes)
unfolding outputs_at answer_of
outputs_state table S bytes = refl

time_stored : (bytes : List ℕ) (e : Ended) → (next_state (frame_of bytes) e).remembered_time ≡ time_no bytes At.time
unfolding next_state frame_of host_of
time_stored bytes e = refl

call_accepted : (table : Table) (S : State) (bytes : List ℕ) → is_accepted (call_under table S bytes) ≡ true
    → (call_under table S bytes ≡ outputs_at table S bytes) × (is_answer_finite (outputs_at table S bytes) ≡ true) × (refusal_before7 bytes S ≡ 0)
unfolding outputs_at ended_at begun_at call_under run_of
call_accepted table S bytes a =
    accepted_by S (outputs_at table S bytes) (refusal_before7 bytes S) (eqb (refusal_before7 bytes S) 0) (is_press_blocked (ended_at table S bytes))
    (is_answer_finite (outputs_at table S bytes)) refl a

pub accepted : (table : Table) (S : State) (bytes : List ℕ) → is_accepted (step_at table S bytes) ≡ true → Accepted table S bytes
accepted table S bytes a =
    let c = call_accepted table S bytes (rw step_is_call at a) in
    let finite = outputs_finite table S bytes c.1 in
    let n = ended_finite (frame_of bytes) (ended_at table S bytes) finite in
    let passed = passed_before_7 S bytes c.2 in
    let is = ap (λ (r : Answer). r.state) (step_is_call table S bytes ∙ c.0) ∙ outputs_state table S bytes in
    let time = time_stored bytes (ended_at table S bytes) in
    record {
      state = is;
      unrefused = passed.0;
      in_time = passed.1;
      remembers = ap (λ (s : State). s.remembered_time) is ∙ time;
      time_finite = ap is_finite (sym time) ∙ remembered_finite (next_state (frame_of bytes) (ended_at table S bytes)) finite;
      finite = finite;
      x = n.0;
      y = n.1;
    }
