-- A settling run is the list of its frames, and what holds of every run. Assumes nothing.
use Rattle.std.specs.Prelude.{◌≡◌, ℕ, zero, suc, ◌+◌, ◌≤◌, Bool, true, false, cond, ◌&&◌, eqb, List, [], ◌∷◌, length}
use native.Mathlib.Numerals.{add-one}
use native.Mathlib.Omega.{arith}
use mathlib.Core.Path.{refl, sym, ap, ◌∙◌}
use mathlib.Core.Bool.{true≢false}
use borrow.Author.Tests.{eqb-true, eqb-false, eq-eqb}
use lib.Ieee.{Float}
use Rattle.numbers.specs.Table.{Table}
use Rattle.area.specs.Clock.{is_back}
use Rattle.area.specs.Checks.{refusal_of}
use Rattle.area.specs.Steps.{Fed, fed_frame, step_at, answers_from, state_from, is_accepted, accepted_from}
use Rattle.area.specs.SettlingRun.{is_no_increment, run_refusal, settle_refusal, advanced, ended_with, counted, settle_from, settle_under}
use Rattle.area.specs.SettlingRun.{frames_from, frames_of, last_refusal, settled_by, is_inside, FramesInside, RunHolds}
use Rattle.area.specs.declared.state.State.{State}
use Rattle.area.specs.Outcome.{Answer}
use Rattle.area.specs.SettlingRun.{Settled}
use Rattle.numbers.proofs.TestLaws.{fails_right}
use Rattle.area.proofs.CallLaws.{step_is_call, refusal_keeps, twelve, accepted}
use Rattle.area.proofs.SettlingRunLaws.{passes_first}
use Rattle.area.proofs.InsideLaws.{Inner, is_late, inner_next, inner_first, early_first, some_increment, next_in_time, frame_inside}

-- ---- what the steps on a list of frames come to
abbrev come : State → List Fed → Settled
come S frames = record { refusal = last_refusal (answers_from S frames); used = length (accepted_from S frames); state = state_from S frames }

-- a refused frame
come_refused : (table : Table) (S : State) (bytes : List ℕ) → is_accepted (step_at table S bytes) ≡ false
    → come S (fed_frame table bytes ∷ []) ≡ ended_with (step_at table S bytes).outcome.refusal S
come_refused table S bytes a =
    let fed = fed_frame table bytes in
    let none : length (accepted_from S (fed ∷ [])) ≡ 0 = ap (λ (t : Bool). length (cond t (fed ∷ []) [])) a in
    let kept = refusal_keeps table S bytes a in
    λ i. record { refusal = (step_at table S bytes).outcome.refusal; used = none i; state = kept i }

-- an accepted one, ahead of others
last_of : (r : Answer) (answers : List Answer) → r.outcome.refusal ≡ 0 → last_refusal (r ∷ answers) ≡ last_refusal answers
last_of r [] h = h
last_of r (q ∷ answers) h = refl

come_accepted : (table : Table) (S : State) (bytes : List ℕ) (rest : List Fed) → is_accepted (step_at table S bytes) ≡ true
    → come S (fed_frame table bytes ∷ rest) ≡ counted (come (step_at table S bytes).state rest)
come_accepted table S bytes rest a =
    let fed = fed_frame table bytes in
    let r = step_at table S bytes in
    let others = accepted_from r.state rest in
    let last = last_of r (answers_from r.state rest) (eqb-true r.outcome.refusal 0 a) in
    let one_more : length (accepted_from S (fed ∷ rest)) ≡ length others + 1 =
    ap (λ (t : Bool). length (cond t (fed ∷ others) others)) a ∙ sym (add-one (length others)) in
    λ i. record { refusal = last i; used = one_more i; state = state_from r.state rest }

-- ---- how a run of at most n frames goes, with what it answers and the frames that it tries
module _ (table : Table) (increment : Float) where
  pub data Goes : ℕ → State → List ℕ → Settled → List Fed → Type 0 where
    ends : {S : State} {bytes : List ℕ} → Goes zero S bytes (ended_with 0 S) []
    refused : {n : ℕ} {S : State} {bytes : List ℕ} → is_accepted (step_at table S bytes) ≡ false
        → Goes (suc n) S bytes (ended_with (step_at table S bytes).outcome.refusal S) (fed_frame table bytes ∷ [])
    rests : {n : ℕ} {S : State} {bytes : List ℕ} → is_accepted (step_at table S bytes) ≡ true
        → Goes (suc n) S bytes (counted (ended_with 0 (step_at table S bytes).state)) (fed_frame table bytes ∷ [])
    on : {n : ℕ} {S : State} {bytes : List ℕ} {r : Settled} {frames : List Fed} → is_accepted (step_at table S bytes) ≡ true
        → Goes n (step_at table S bytes).state (advanced increment bytes) r frames
        → Goes (suc n) S bytes (counted r) (fed_frame table bytes ∷ frames)

  goes_by : (n : ℕ) (S : State) (bytes : List ℕ) (t p : Bool)
      → let r = step_at table S bytes in
      let next = advanced increment bytes in
      is_accepted r ≡ t → r.outcome.repaint ≡ p
      → Goes n r.state next (settle_from table increment n r.state next) (frames_from table increment n r.state next)
      → Goes (suc n) S bytes (settle_from table increment (suc n) S bytes) (frames_from table increment (suc n) S bytes)
  unfolding settle_from
  goes_by n S bytes false p a q rest = rw (← step_is_call table S bytes, a) (refused a)
  goes_by n S bytes true false a q rest = rw (← step_is_call table S bytes, a, q) (rests a)
  goes_by n S bytes true true a q rest = rw (← step_is_call table S bytes, a, q) (on a rest)

  pub goes : (n : ℕ) (S : State) (bytes : List ℕ) → Goes n S bytes (settle_from table increment n S bytes) (frames_from table increment n S bytes)
  unfolding settle_from
  goes zero S bytes = ends
  goes (suc n) S bytes = goes_by n S bytes _ _ refl refl (goes n _ _)

  -- ---- what holds of each
  -- it is its frames' steps
  by_steps : {n : ℕ} {S : State} {bytes : List ℕ} {r : Settled} {frames : List Fed} → Goes n S bytes r frames → r ≡ come S frames
  by_steps ends = refl
  by_steps (refused a) = sym (come_refused table _ _ a)
  by_steps (rests a) = sym (come_accepted table _ _ [] a)
  by_steps (on {n} {S} {bytes} {r} {frames} a run) = ap counted (by_steps run) ∙ sym (come_accepted table S bytes frames a)

  at_most : {n : ℕ} {S : State} {bytes : List ℕ} {r : Settled} {frames : List Fed} → Goes n S bytes r frames → r.used ≤ n
  at_most ends = omega arith
  at_most (refused a) = omega arith
  at_most (rests a) = omega arith
  at_most (on a run) = omega (arith, at_most run)

  at_least : {n : ℕ} {S : State} {bytes : List ℕ} {r : Settled} {frames : List Fed} → Goes n S bytes r frames → 1 ≤ n → r.refusal ≡ 0 → 1 ≤ r.used
  at_least ends some h = some
  at_least (refused a) some h = absurd (eqb-false _ 0 a h)
  at_least (rests a) some h = omega arith
  at_least (on a run) some h = omega arith

  -- with none used the state is the one given
  pub none_used : {n : ℕ} {S : State} {bytes : List ℕ} {r : Settled} {frames : List Fed} → Goes n S bytes r frames → r.used ≡ 0 → r.state ≡ S
  none_used ends h = refl
  none_used (refused a) h = refl
  none_used (rests a) h = absurd (omega (arith, h))
  none_used (on a run) h = absurd (omega (arith, h))

  -- inside: each frame, and the number that ends the run
  frames_inside : {n : ℕ} {S : State} {bytes : List ℕ} {r : Settled} {frames : List Fed} → Goes n S bytes r frames → Inner S bytes → FramesInside S frames
  frames_inside ends i = tt
  frames_inside (refused a) i = (frame_inside table _ _ i, tt)
  frames_inside (rests a) i = (frame_inside table _ _ i, tt)
  frames_inside (on a run) i = (frame_inside table _ _ i, frames_inside run (inner_next table increment _ _ i a))

  inside : {n : ℕ} {S : State} {bytes : List ℕ} {r : Settled} {frames : List Fed} → Goes n S bytes r frames → Inner S bytes → is_inside r.refusal ≡ true
  inside ends i = refl
  inside (refused a) i = (frame_inside table _ _ i).refused
  inside (rests a) i = refl
  inside (on a run) i = inside run (inner_next table increment _ _ i a)

  not_first : {n : ℕ} {S : State} {bytes : List ℕ} {r : Settled} {frames : List Fed} → Goes n S bytes r frames → Inner S bytes → is_late bytes ≡ false → r.refusal ≡ 3 → 1 ≤ r.used
  not_first ends i early h = absurd (omega (arith, h))
  not_first (refused a) i early h = absurd (true≢false (sym (eq-eqb _ 3 h) ∙ (frame_inside table _ _ i).late ∙ early))
  not_first (rests a) i early h = omega arith
  not_first (on a run) i early h = omega arith

  -- 12: not after the first frame, and at it where the clock has run back
  forward : {n : ℕ} {S : State} {bytes : List ℕ} {r : Settled} {frames : List Fed} → Goes n S bytes r frames → is_no_increment increment ≡ false
      → Inner S bytes → is_back bytes S ≡ false → eqb r.refusal 12 ≡ false
  forward ends lawful i h = refl
  forward (refused {n} {S} {bytes} a) lawful i h = twelve table S bytes ∙ fails_right (eqb (refusal_of bytes S) 0) (is_back bytes S) h
  forward (rests a) lawful i h = refl
  forward (on a run) lawful i h = forward run lawful (inner_next table increment _ _ i a) (next_in_time table increment _ _ lawful i a)

  back : {n : ℕ} {S : State} {bytes : List ℕ} {r : Settled} {frames : List Fed} → Goes n S bytes r frames → 1 ≤ n → is_no_increment increment ≡ false
      → Inner S bytes → refusal_of bytes S ≡ 0 → eqb r.refusal 12 ≡ is_back bytes S
  back ends one lawful i passes = absurd (omega (arith, one))
  back (refused {n} {S} {bytes} a) one lawful i passes = twelve table S bytes ∙ ap (λ (k : ℕ). eqb k 0 && is_back bytes S) passes
  back (rests a) one lawful i passes = sym (accepted table _ _ a).in_time
  back (on a run) one lawful i passes =
      forward run lawful (inner_next table increment _ _ i a) (next_in_time table increment _ _ lawful i a) ∙ sym (accepted table _ _ a).in_time

  only_first : {n : ℕ} {S : State} {bytes : List ℕ} {r : Settled} {frames : List Fed} → Goes n S bytes r frames → is_no_increment increment ≡ false
      → Inner S bytes → r.refusal ≡ 12 → r ≡ ended_with 12 S
  only_first ends lawful i h = absurd (omega (arith, h))
  only_first (refused {n} {S} a) lawful i h = ap (λ (k : ℕ). ended_with k S) h
  only_first (rests a) lawful i h = absurd (omega (arith, h))
  only_first (on a run) lawful i h =
      let none = forward run lawful (inner_next table increment _ _ i a) (next_in_time table increment _ _ lawful i a) in
      absurd (true≢false (sym (eq-eqb _ 12 h) ∙ none))

-- ---- the whole run

-- a limit of 0 is turned back
some_frames : (S : State) (bytes : List ℕ) (increment : Float) (limit : ℕ) → settle_refusal S bytes increment limit ≡ 0 → 1 ≤ limit
unfolding run_refusal
some_frames S bytes increment zero h =
    let nine : ◌≡◌ {A = ℕ} 9 0 = (passes_first S bytes increment 0 h).1 in
    absurd (omega (arith, nine))
some_frames S bytes increment (suc n) h = omega arith

module _ (table : Table) (S : State) (bytes : List ℕ) (increment : Float) (limit : ℕ) where
  abbrev refusal : ℕ
  refusal = settle_refusal S bytes increment limit

  holds_by : (t : Bool) → eqb refusal 0 ≡ t → RunHolds table S bytes increment limit (settle_under table S bytes increment limit)
  unfolding settle_under settled_by frames_of
  holds_by true h =
      let none = eqb-true refusal 0 h in
      let run = goes table increment limit S bytes in
      let first = inner_first S bytes increment limit none in
      let lawful = some_increment S bytes increment limit none in
      rw h
      (record {
        at_most = at_most table increment run;
        at_least = at_least table increment run (some_frames S bytes increment limit none);
        up_front = λ no. absurd (no none);
        inside = λ _. inside table increment run first;
        not_first = λ _. not_first table increment run first (early_first S bytes increment limit none);
        back = λ _. back table increment run (some_frames S bytes increment limit none) lawful first (passes_first S bytes increment limit none).0;
        only_first = λ _. only_first table increment run lawful first;
        frames_inside = rw h (frames_inside table increment run first);
        by_steps = rw h (by_steps table increment run);
      })
  holds_by false h =
      let some = eqb-false refusal 0 h in
      rw h
      (record {
        at_most = omega arith;
        at_least = λ none. absurd (some none);
        up_front = λ no. refl;
        inside = λ none. absurd (some none);
        not_first = λ none. absurd (some none);
        back = λ none. absurd (some none);
        only_first = λ none. absurd (some none);
        frames_inside = rw h tt;
        by_steps = rw h;
      })

  pub run_holds : RunHolds table S bytes increment limit (settle_under table S bytes increment limit)
  run_holds = holds_by _ refl
