-- "The frame call": the checks but 8 in order, 12 among them, 7 on the bar and handle that `begin` and `end` reach; then 8 on what they put out.
use Rattle.std.specs.Prelude.{ℕ, cond, List, ◌==◌}
use Rattle.numbers.specs.Table.{Table}
use Rattle.area.specs.Frame.{frame_of}
use Rattle.area.specs.Checks.{refusal_before7}
use Rattle.area.specs.Begin.{begin_of}
use Rattle.area.specs.End.{end_of, is_press_blocked}
use Rattle.area.specs.PutOut.{answer_of}
use Rattle.area.specs.Outcome.{refused_of, is_answer_finite}
use Rattle.area.specs.declared.state.State.{State}
use Rattle.area.specs.declared.fields.Frame.{Frame}
use Rattle.area.specs.Outcome.{Answer}

unfoldable pub run_of : Table → State → Frame → Answer
run_of table state frame =
    let prepared = begin_of table frame state in
    let ended = end_of frame state prepared in
    let answer = answer_of frame state prepared ended in
    cond (is_press_blocked ended) (refused_of state 7) (cond (is_answer_finite answer) answer (refused_of state 8))

-- under the table that the call uses; T serves where it uses none
unfoldable pub call_under : Table → State → List ℕ → Answer
call_under table state bytes =
    let refusal = refusal_before7 bytes state in
    cond (refusal == 0) (run_of table state (frame_of bytes)) (refused_of state refusal)
