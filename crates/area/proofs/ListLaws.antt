-- "one claim about the whole list, not one for each call": each law of one frame, carried along a list. Assumes nothing.
use Rattle.std.specs.Prelude.{◌≡◌, ℕ, Bool, true, false, List, [], ◌∷◌, ◌++◌}
use mathlib.Core.Path.{refl, sym, ap, subst, ◌∙◌}
use mathlib.Core.Bool.{true≢false}
use Rattle.numbers.specs.Table.{Table}
use Rattle.area.specs.Pair.{flag}
use Rattle.area.specs.State.{default}
use Rattle.area.specs.Clock.{reset_of}
use Rattle.area.specs.Steps.{Fed, fed_frame, fed_reset, step_at, state_after, state_from, is_taken, accepted_from}
use Rattle.area.specs.Moved.{is_moved, is_moved_by_words}
use Rattle.area.specs.SettlingRun.{frames_of, settled_by}
use Rattle.area.specs.Lists.{Call, by_value, lent, settle, reset, Told, of_frame, of_run, of_reset}
use Rattle.area.specs.Lists.{Run, ends, returned, left, settled, cleared, feed_from, told_from}
use Rattle.area.specs.Lists.{RangeAlong, EndAlong, DistancesAlong, Whole, AllLists}
use Rattle.area.specs.declared.state.State.{State}
use Rattle.area.specs.Outcome.{Answer}
use Rattle.area.specs.SettlingRun.{Settled}
use Rattle.numbers.proofs.TestLaws.{chosen}
use Rattle.area.proofs.CallLaws.{step_is_call, refusal_keeps}
use Rattle.area.proofs.RangeLaws.{in_range}
use Rattle.area.proofs.EndLaws.{StaysOnEnd, stays_x, stays_y}
use Rattle.area.proofs.MovedLaws.{stays_by_words_x, stays_by_words_y}
use Rattle.area.proofs.RunLaws.{run_holds}
use Rattle.area.proofs.ClockLaws.{clock_along}
use Rattle.area.proofs.ListingLaws.{listing_shown}

-- ---- "answers and state equal document 01's steps"

-- the steps on frames, and then on others
pub state_append : (S : State) (frames others : List Fed) → state_from S (frames ++ others) ≡ state_from (state_from S frames) others
state_append S [] others = refl
state_append S (fed ∷ frames) others = state_append (state_after S fed) frames others

record Same (s : State) (calls : List Call) (answers : List Told) (t : State) : Type 0 where
  pub answers_same : answers ≡ told_from s calls
  pub state_same : t ≡ state_from s (feed_from s calls)

same : {s : State} {calls : List Call} {answers : List Told} {t : State} → Run s calls answers t → Same s calls answers t
unfolding settled_by
same ends = record { answers_same = refl; state_same = refl }
same (returned {table} {s} {bytes} {r} {calls} {answers} {t} says run) =
    let is_step = says ∙ sym (step_is_call table s bytes) in
    let rest = subst (λ (a : Answer). Same a.state calls answers t) is_step (same run) in
    record { answers_same = λ i. of_frame (is_step i) ∷ rest.answers_same i; state_same = rest.state_same }
same (left {table} {s} {bytes} {o} {u} {calls} {answers} {t} says run) =
    let is_left = says.leaves ∙ ap (λ (a : Answer). a.state) (sym (step_is_call table s bytes)) in
    let is_told = says.answers ∙ ap (λ (a : Answer). a.outcome) (sym (step_is_call table s bytes)) in
    let rest = subst (λ (v : State). Same v calls answers t) is_left (same run) in
    record { answers_same = λ i. of_frame (record { state = is_left i; outcome = is_told i }) ∷ rest.answers_same i; state_same = rest.state_same }
same (settled {table} {s} {bytes} {increment} {limit} {r} {calls} {answers} {t} says run) =
    let is_run = says ∙ (run_holds table s bytes increment limit).by_steps in
    let rest = subst (λ (z : Settled). Same z.state calls answers t) is_run (same run) in
    record {
      answers_same = λ i. of_run (is_run i) ∷ rest.answers_same i;
      state_same = rest.state_same ∙ sym (state_append s (frames_of table s bytes increment limit) _);
    }
same (cleared {s} {u} {calls} {answers} {t} says run) =
    let rest = subst (λ (v : State). Same v calls answers t) says (same run) in
    record { answers_same = λ i. of_reset (says i) ∷ rest.answers_same i; state_same = rest.state_same }

-- each list has a run
pub run_of : (s : State) (calls : List Call) → Run s calls (told_from s calls) (state_from s (feed_from s calls))
unfolding settled_by
run_of s [] = ends
run_of s (by_value table bytes ∷ calls) = returned (step_is_call table s bytes) (run_of (step_at table s bytes).state calls)
run_of s (lent table bytes ∷ calls) =
    let is_call = step_is_call table s bytes in
    left (record { answers = ap (λ (a : Answer). a.outcome) is_call; leaves = ap (λ (a : Answer). a.state) is_call })
    (run_of (step_at table s bytes).state calls)
run_of s (settle table bytes increment limit ∷ calls) =
    let frames = frames_of table s bytes increment limit in
    subst (Run s (settle table bytes increment limit ∷ calls) _) (sym (state_append s frames _))
    (settled (sym (run_holds table s bytes increment limit).by_steps) (run_of (state_from s frames) calls))
run_of s (reset ∷ calls) = cleared refl (run_of (reset_of s) calls)

-- ---- "the accepted frames alone reach the same state"
untaken_keeps : (S : State) (fed : Fed) → is_taken S fed ≡ false → state_after S fed ≡ S
untaken_keeps S (fed_frame table bytes) h = refusal_keeps table S bytes h
untaken_keeps S fed_reset h = absurd (true≢false h)

alone : (S : State) (frames : List Fed) → state_from S (accepted_from S frames) ≡ state_from S frames
alone S [] = refl
alone S (fed ∷ rest) =
    let after = state_after S fed in
    let others = accepted_from after rest in
    chosen (λ (frames : List Fed). state_from S frames ≡ state_from after rest) (is_taken S fed) (fed ∷ others) others
    (λ h. alone after rest)
    (λ h. subst (λ (u : State). state_from u others ≡ state_from after rest) (untaken_keeps S fed h) (alone after rest))

-- ---- "with rubber band off the stored offset lies in the range"
range_along : (S : State) (frames : List Fed) → RangeAlong S frames
range_along S [] = tt
range_along S (fed_frame table bytes ∷ rest) = (in_range table S bytes, range_along (step_at table S bytes).state rest)
range_along S (fed_reset ∷ rest) = range_along (reset_of S) rest

-- ---- "a sticking axis that nobody moves shows the list's end": from a stuck axis on, it stays stuck, over a reset too
still_stuck : (S : State) (d : ℕ) → flag (reset_of S).scroll_stuck_to_end d ≡ flag S.scroll_stuck_to_end d
unfolding reset_of
still_stuck S d = refl

end_along : (moved : Table → State → List ℕ → ℕ → Bool) (d : ℕ) → StaysOnEnd moved d → (S : State) (frames : List Fed)
    → flag S.scroll_stuck_to_end d ≡ true
    → EndAlong moved d S frames
end_along moved d stays S [] stuck = tt
end_along moved d stays S (fed_frame table bytes ∷ rest) stuck = (
  λ a sticks unmoved.
      let on_end = stays table S bytes a sticks unmoved stuck in
      (on_end.0, end_along moved d stays (step_at table S bytes).state rest on_end.1),
  λ a.
      let kept = refusal_keeps table S bytes a in
      end_along moved d stays (step_at table S bytes).state rest (ap (λ (s : State). flag s.scroll_stuck_to_end d) kept ∙ stuck),
)
end_along moved d stays S (fed_reset ∷ rest) stuck = end_along moved d stays (reset_of S) rest (still_stuck S d ∙ stuck)

-- ---- the claim, of the fresh state
fresh_stuck : (flag default.scroll_stuck_to_end 0 ≡ true) × (flag default.scroll_stuck_to_end 1 ≡ true)
unfolding default
fresh_stuck = (refl, refl)

both_along : (moved : Table → State → List ℕ → ℕ → Bool) → StaysOnEnd moved 0 → StaysOnEnd moved 1 → (frames : List Fed)
    → EndAlong moved 0 default frames × EndAlong moved 1 default frames
both_along moved x y frames = (end_along moved 0 x default frames fresh_stuck.0, end_along moved 1 y default frames fresh_stuck.1)

distances : (frames : List Fed) → DistancesAlong default frames
distances frames = record {
  in_range = range_along default frames;
  on_end = both_along is_moved stays_x stays_y frames;
  on_end_by_words = both_along (λ _ _. is_moved_by_words) stays_by_words_x stays_by_words_y frames;
}

whole_from_fresh : (calls : List Call) (answers : List Told) (t : State) → Run default calls answers t → Whole default calls answers t
whole_from_fresh calls answers t run =
    let is = same run in
    let frames = feed_from default calls in
    record {
      same_answers = is.answers_same;
      same_state = is.state_same;
      accepted_alone = alone default frames ∙ sym is.state_same;
      distances = distances frames;
      clock = clock_along frames;
    }

pub all_lists : AllLists default
all_lists = record { whole = whole_from_fresh; has_run = run_of default; listing_shown = listing_shown }
