-- What a loop over a list of calls in bytes knows before, between and after its turns. Assumes nothing.
use Rattle.std.specs.Prelude.{◌≡◌, ℕ, zero, suc, ◌+◌, ◌≤◌, Bool, true, false, cond, eqb, List, [], ◌∷◌, ◌++◌, length, take, drop, set}
use native.Mathlib.Nat.{not-suc-le-zero}
use native.Mathlib.Omega.{arith}
use mathlib.Core.Path.{refl, sym, ap, subst, ◌∙◌}
use mathlib.Core.List.{append_assoc, append-nil}
use lib.ListN.{length-append, length-drop}
use Rattle.numbers.specs.Table.{table_at}
use Rattle.area.specs.State.{default}
use Rattle.area.specs.Call.{call_under}
use Rattle.area.specs.Steps.{step_at, state_from}
use Rattle.area.specs.Lists.{Call, by_value, lent, feed_from, told_from, Run}
use Rattle.area.specs.Replay.{frame_length, call_by, call_in, form_of, calls_up_to, calls_of, refusals_from, overlay, Replayed}
use Rattle.area.specs.declared.state.State.{State}
use Rattle.area.specs.declared.replays.Form.{Form}
use Rattle.std.specs.Prelude.{Result, Ok, Err}
use Rattle.refusals.specs.Refusal.{number_in}
use Rattle.refusals.specs.declared.Refusal.{Refusal}
use Rattle.area.specs.Outcome.{answer_in, refused_of}
use Rattle.area.specs.declared.outcome.Accepted.{Accepted}
use Rattle.area.proofs.CallLaws.{step_is_call}
use Rattle.area.proofs.ListLaws.{run_of, all_lists}

-- ---- the number that an answer tells
number_told : (s : State) (r : Result Accepted Refusal) → (answer_in s r).outcome.refusal ≡ number_in r
unfolding refused_of
number_told s (Ok a) = refl
number_told s (Err r) = refl

-- ---- the calls of a list
calls_none : (n : ℕ) → calls_up_to n [] ≡ []
calls_none zero = refl
calls_none (suc n) = refl

-- two bounds that both reach the list's end
same_calls : (n m : ℕ) (bytes : List ℕ) → length bytes ≤ n → length bytes ≤ m → calls_up_to n bytes ≡ calls_up_to m bytes
same_calls n m [] h k = calls_none n ∙ sym (calls_none m)
same_calls zero m (by ∷ bytes) h k = elim (not-suc-le-zero h) [ ]
same_calls (suc n) zero (by ∷ bytes) h k = elim (not-suc-le-zero k) [ ]
same_calls (suc n) (suc m) (by ∷ bytes) h k =
    let rest : List ℕ = drop frame_length bytes in
    let far : length rest ≤ n = omega (arith, length-drop frame_length bytes, h) in
    let far_too : length rest ≤ m = omega (arith, length-drop frame_length bytes, k) in
    ap (λ (calls : List Call). call_by by (take frame_length bytes) ∷ calls) (same_calls n m rest far far_too)

named : (is_by_value : Bool) (frame : List ℕ)
    → call_in (cond is_by_value Form.ByValue Form.Lent) frame ≡ cond is_by_value (by_value table_at frame) (lent table_at frame)
named true frame = refl
named false frame = refl

-- the first one, and those behind its frame
pub first_call : (by : ℕ) (bytes : List ℕ)
    → calls_of (by ∷ bytes) ≡ call_in (form_of by) (take frame_length bytes) ∷ calls_of (drop frame_length bytes)
unfolding calls_of
first_call by bytes =
    let rest : List ℕ = drop frame_length bytes in
    let far : length rest ≤ length bytes = omega (arith, length-drop frame_length bytes) in
    let end : length rest ≤ length rest = omega arith in
    (λ i. sym (named (eqb by 0) (take frame_length bytes)) i ∷ same_calls (length bytes) (length rest) rest far end i)

pub no_calls : (bytes : List ℕ) → length bytes ≡ 0 → calls_of bytes ≡ []
unfolding calls_of
no_calls bytes e = ap (λ (n : ℕ). calls_up_to n bytes) e

at_most_calls : (n : ℕ) (bytes : List ℕ) → length (calls_up_to n bytes) ≤ n
at_most_calls zero bytes = omega arith
at_most_calls (suc n) [] = omega arith
at_most_calls (suc n) (by ∷ bytes) = omega (arith, at_most_calls n (drop frame_length bytes))

-- no more calls than bytes
pub few_calls : (bytes : List ℕ) → length (calls_of bytes) ≤ length bytes
unfolding calls_of
few_calls bytes = at_most_calls (length bytes) bytes

-- where calls lead
abbrev reached : State → List Call → State
reached S calls = state_from S (feed_from S calls)

-- either form of a call is one step
record OneStep (S : State) (frame : List ℕ) (call : Call) (rest : List Call) : Type 0 where
  pub state : reached S (call ∷ rest) ≡ reached (step_at table_at S frame).state rest
  pub refusals : refusals_from S (call ∷ rest) ≡ (step_at table_at S frame).outcome.refusal ∷ refusals_from (step_at table_at S frame).state rest

one_step : (S : State) (form : Form) (frame : List ℕ) (rest : List Call) → OneStep S frame (call_in form frame) rest
one_step S Form.ByValue frame rest = record { state = refl; refusals = refl }
one_step S Form.Lent frame rest = record { state = refl; refusals = refl }

-- ---- what is laid over a list, with one more behind those that stand there
put_next : (xs places : List ℕ) (v : ℕ) → set (overlay xs places) (length xs) v ≡ overlay (xs ++ v ∷ []) places
put_next [] [] v = refl
put_next [] (y ∷ places) v = refl
put_next (x ∷ xs) [] v = refl
put_next (x ∷ xs) (y ∷ places) v = ap (λ (l : List ℕ). x ∷ l) (put_next xs places v)

-- ---- the loop's invariant: from `state`, the calls that are left lead to the state that all of them lead to from a default state, and to
-- their refusals, once those so far, `done`, are put in front
pub record Upto (calls : List Call) (before : List ℕ) (state : State) (rest : List Call) (i : ℕ) (now : List ℕ) : Type 0 where
  pub done : List ℕ
  pub long : length done ≡ i
  pub same_state : reached state rest ≡ reached default calls
  pub same_refusals : done ++ refusals_from state rest ≡ refusals_from default calls
  pub here : now ≡ overlay done before

pub begins : (calls : List Call) (before : List ℕ) (state : State) (rest : List Call) (i : ℕ) → state ≡ default → rest ≡ calls → i ≡ 0
    → Upto calls before state rest i before
begins calls before state rest i e f k = record {
  done = [];
  long = sym k;
  same_state = (λ j. reached (e j) (f j));
  same_refusals = (λ j. refusals_from (e j) (f j));
  here = refl;
}

-- a turn, on what the code gave: an answer, and the state after it
pub turns : (calls : List Call) (before : List ℕ) (state : State) (form : Form) (frame : List ℕ) (whole rest : List Call) (i : ℕ) (now : List ℕ)
    (answer : Result Accepted Refusal) (left : State) (next : ℕ) (after : List ℕ)
    → whole ≡ call_in form frame ∷ rest → answer_in state answer ≡ call_under table_at state frame → left ≡ (answer_in state answer).state
    → after ≡ set now i (number_in answer) → next ≡ i + 1 → Upto calls before state whole i now → Upto calls before left rest next after
turns calls before state form frame whole rest i now answer left next after w e l a k u =
    let given = e ∙ sym (step_is_call table_at state frame) in
    let step = one_step state form frame rest in
    let refusal : ℕ = number_in answer in
    let told : refusal ≡ (step_at table_at state frame).outcome.refusal = sym (number_told state answer) ∙ ap (λ r. r.outcome.refusal) given in
    let goes : left ≡ (step_at table_at state frame).state = l ∙ ap (λ r. r.state) given in
    record {
      done = u.done ++ refusal ∷ [];
      long = omega (arith, length-append u.done (refusal ∷ []), u.long, k);
      same_state = ap (λ (s : State). reached s rest) goes ∙ sym step.state ∙ ap (reached state) (sym w) ∙ u.same_state;
      same_refusals =
          append_assoc u.done (refusal ∷ []) _ ∙ (λ j. u.done ++ told j ∷ refusals_from (goes j) rest)
          ∙ ap (λ (l : List ℕ). u.done ++ l) (sym step.refusals ∙ ap (refusals_from state) (sym w)) ∙ u.same_refusals;
      here = a ∙ (λ j. set (u.here j) (sym u.long j) refusal) ∙ put_next u.done before refusal;
    }

pub finishes : (calls : List ℕ) (before : List ℕ) (state : State) (rest : List Call) (i : ℕ) (now : List ℕ) → rest ≡ []
    → Upto (calls_of calls) before state rest i now → Replayed calls state before now
finishes calls before state rest i now f u =
    let all : u.done ≡ refusals_from default (calls_of calls) =
    sym (append-nil u.done) ∙ ap (λ (l : List Call). u.done ++ refusals_from state l) (sym f) ∙ u.same_refusals in
    let same : state ≡ reached default (calls_of calls) = ap (reached state) (sym f) ∙ u.same_state in
    let ran = subst (Run default (calls_of calls) (told_from default (calls_of calls))) (sym same) (run_of default (calls_of calls)) in
    record {
      ran = ran;
      whole = all_lists.whole (calls_of calls) (told_from default (calls_of calls)) state ran;
      same_refusals = u.here ∙ ap (λ (xs : List ℕ). overlay xs before) all;
    }
