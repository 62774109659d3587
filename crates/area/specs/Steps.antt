-- "The steps of demand 3 are fed each call's frame bytes and nothing else, alike for both forms (a state left counts as returned)."
-- Document 02: "The steps of demand 3 take for each call the loaded table that it uses", T where it uses none; "Lists may then hold resets,
-- which the steps of demand 3 take in their places among the accepted frames".
use Rattle.std.specs.Prelude.{ℕ, Bool, true, cond, List, [], ◌∷◌, ◌==◌}
use Rattle.numbers.specs.Table.{Table}
use Rattle.area.specs.Frame.{frame_of}
use Rattle.area.specs.Clock.{reset_of}
use Rattle.area.specs.Checks.{refusal_before7}
use Rattle.area.specs.Begin.{begin_of}
use Rattle.area.specs.End.{end_of, is_press_blocked}
use Rattle.area.specs.PutOut.{answer_of}
use Rattle.area.specs.Outcome.{refused_of, is_answer_finite}
use Rattle.area.specs.declared.state.State.{State}
use Rattle.area.specs.declared.prepared.Prepared.{Prepared}
use Rattle.area.specs.declared.end.Ended.{Ended}
use Rattle.area.specs.Outcome.{Answer}

-- ---- one frame's bytes, under the table that its call uses, on the state S that the steps hold

-- what `begin`, then `end`, reach from them
unfoldable pub begun_at : Table → State → List ℕ → Prepared
begun_at table S bytes = begin_of table (frame_of bytes) S

unfoldable pub ended_at : Table → State → List ℕ → Ended
ended_at table S bytes = end_of (frame_of bytes) S (begun_at table S bytes)

-- "all their outputs"
unfoldable pub outputs_at : Table → State → List ℕ → Answer
outputs_at table S bytes = answer_of (frame_of bytes) S (begun_at table S bytes) (ended_at table S bytes)

-- "The checks but 8 are tried in order on the bytes and S, 7 on the bar and handle that `begin` and `end` reach from them", document 02's 12
-- among them: the first that applies, or 0
unfoldable pub check_at : Table → State → List ℕ → ℕ
check_at table S bytes = cond (refusal_before7 bytes S == 0) (cond (is_press_blocked (ended_at table S bytes)) 7 0) (refusal_before7 bytes S)

-- "At the first that applies, the answer is its number and S; S stays. Else `begin`, then `end`, run on S and the frame under the
-- meanings above. If a number they put out is not finite, the answer is 8 and S; S stays. Otherwise the answer is all their outputs, and S
-- becomes the state among them."
unfoldable pub step_at : Table → State → List ℕ → Answer
step_at table S bytes =
    cond (check_at table S bytes == 0)
    (cond (is_answer_finite (outputs_at table S bytes)) (outputs_at table S bytes) (refused_of S 8))
    (refused_of S (check_at table S bytes))

-- ---- a whole list

-- what the steps are fed of a call: the table that it uses with its frame's bytes, or a reset
pub data Fed : Type 0 where
  fed_frame : Table → List ℕ → Fed
  fed_reset : Fed

abbrev pub state_after : State → Fed → State
state_after S (fed_frame table bytes) = (step_at table S bytes).state
state_after S fed_reset = reset_of S

abbrev pub state_from : State → List Fed → State
state_from S [] = S
state_from S (fed ∷ rest) = state_from (state_after S fed) rest

-- the frames' answers
abbrev pub answers_from : State → List Fed → List Answer
answers_from S [] = []
answers_from S (fed_frame table bytes ∷ rest) = step_at table S bytes ∷ answers_from (step_at table S bytes).state rest
answers_from S (fed_reset ∷ rest) = answers_from (reset_of S) rest

abbrev pub is_accepted : Answer → Bool
is_accepted r = r.outcome.refusal == 0

-- an accepted frame, or a reset
abbrev pub is_taken : State → Fed → Bool
is_taken S (fed_frame table bytes) = is_accepted (step_at table S bytes)
is_taken S fed_reset = true

-- the frames that are accepted where they stand, each tried on the state that all before it, refused ones too, reached; with the resets in
-- their places among them
abbrev pub accepted_from : State → List Fed → List Fed
accepted_from S [] = []
accepted_from S (fed ∷ rest) = cond (is_taken S fed) (fed ∷ accepted_from (state_after S fed) rest) (accepted_from (state_after S fed) rest)
