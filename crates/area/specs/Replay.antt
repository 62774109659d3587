-- A list of frame calls in bytes: for each call a flag, 0 for a call by value and any other for a lent one, and the frame; the last frame
-- may be shorter. Every call is by table T.
use Rattle.std.specs.Prelude.{◌≡◌, ℕ, zero, suc, cond, List, [], ◌∷◌, map, length, take, drop, ◌==◌}
use Rattle.numbers.specs.Table.{table_at}
use Rattle.area.specs.State.{default}
use Rattle.area.specs.Lists.{Call, by_value, lent, Told, of_frame, of_run, of_reset, told_from, Run, Whole}
use Rattle.area.specs.declared.state.State.{State}
use Rattle.area.specs.declared.replays.Form.{Form}

abbrev pub frame_length : ℕ
frame_length = 416

abbrev pub call_by : ℕ → List ℕ → Call
call_by by bytes = cond (by == 0) (by_value table_at bytes) (lent table_at bytes)

-- the same of the code's own name for it
abbrev pub form_of : ℕ → Form
form_of by = cond (by == 0) Form.ByValue Form.Lent

-- a call by that name
abbrev pub call_in : Form → List ℕ → Call
call_in Form.ByValue bytes = by_value table_at bytes
call_in Form.Lent bytes = lent table_at bytes

-- "by turns"
abbrev pub other_than : Form → Form
other_than Form.ByValue = Form.Lent
other_than Form.Lent = Form.ByValue

-- at most n calls
abbrev pub calls_up_to : ℕ → List ℕ → List Call
calls_up_to zero bytes = []
calls_up_to (suc n) [] = []
calls_up_to (suc n) (by ∷ bytes) = call_by by (take frame_length bytes) ∷ calls_up_to n (drop frame_length bytes)

-- each call takes a byte at least
unfoldable pub calls_of : List ℕ → List Call
calls_of bytes = calls_up_to (length bytes) bytes

-- what the steps refuse, call by call; a reset never is
abbrev pub refusal_in : Told → ℕ
refusal_in (of_frame r) = r.outcome.refusal
refusal_in (of_run r) = r.refusal
refusal_in (of_reset s) = 0

abbrev pub refusals_from : State → List Call → List ℕ
refusals_from S calls = map refusal_in (told_from S calls)

-- a list laid over the start of another, as far as there is room
abbrev pub overlay : List ℕ → List ℕ → List ℕ
overlay [] places = places
overlay (x ∷ xs) [] = []
overlay (x ∷ xs) (y ∷ places) = x ∷ overlay xs places

-- the calls in `bytes`, from a fresh state: they gave the steps' answers and left `state`; so all of demand 3 holds of them; and `after`
-- is what `before` became
pub record Replayed (bytes : List ℕ) (state : State) (before after : List ℕ) : Type 0 where
  pub ran : Run default (calls_of bytes) (told_from default (calls_of bytes)) state
  pub whole : Whole default (calls_of bytes) (told_from default (calls_of bytes)) state
  pub same_refusals : after ≡ overlay (refusals_from default (calls_of bytes)) before
