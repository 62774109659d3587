-- The outputs besides the state, a refusal's outputs, and check 8.
use Rattle.std.specs.Prelude.{Option, Some, None, slice_index_or}
use Rattle.std.specs.Prelude.{ℕ, Bool, false, ◌&&◌, [], ◌∷◌}
use Rattle.std.specs.Prelude.{List, Result, Ok, Err, Float}
use Rattle.refusals.specs.Refusal.{number_of}
use Rattle.refusals.specs.declared.Refusal.{Refusal}
use Rattle.area.specs.declared.outcome.Outputs.{Outputs}
use Rattle.area.specs.declared.outcome.Accepted.{Accepted}
use Rattle.numbers.specs.F32.{zero}
use Rattle.numbers.specs.declared.shape.Rect.{Rect}
use Rattle.area.specs.Checks.{is_pair_finite, is_rect_finite, is_state_finite}
use Rattle.area.specs.declared.state.State.{State}

-- what a frame answers: the refusal or 0, and what it puts out besides the state; a handle is that of the second calculation, none where the
-- bar's factor is 0
pub record Outcome : Type 0 where
  pub refusal : ℕ
  pub content_size : List Float
  pub inner_rect : Rect
  pub viewport : Rect
  pub handles : List (Option Rect)
  pub wheel_delta_left : List Float
  pub scroll_delta_left : List Float
  pub repaint : Bool

pub record Answer : Type 0 where
  pub state : State
  pub outcome : Outcome

unfoldable pub no_rect : Rect
no_rect = record { min = record { x = zero; y = zero }; max = record { x = zero; y = zero } }

abbrev pub no_handle : Option Rect
no_handle = None

-- "A refusal returns the state as given and no other output."
unfoldable pub refused_of : State → ℕ → Answer
refused_of state refusal = record {
  state = state;
  outcome = record {
    refusal = refusal;
    content_size = zero ∷ zero ∷ [];
    inner_rect = no_rect;
    viewport = no_rect;
    handles = no_handle ∷ no_handle ∷ [];
    wheel_delta_left = zero ∷ zero ∷ [];
    scroll_delta_left = zero ∷ zero ∷ [];
    repaint = false;
  };
}

unfoldable pub is_outcome_finite : Outcome → Bool
is_outcome_finite o =
    is_pair_finite o.content_size
    && is_rect_finite (Some o.inner_rect)
    && is_rect_finite (Some o.viewport)
    && is_rect_finite (slice_index_or o.handles 0 no_handle)
    && is_rect_finite (slice_index_or o.handles 1 no_handle)
    && is_pair_finite o.wheel_delta_left
    && is_pair_finite o.scroll_delta_left

-- 8: no "number among the outputs is not finite"
unfoldable pub is_answer_finite : Answer → Bool
is_answer_finite a = is_state_finite a.state && is_outcome_finite a.outcome

-- ---- the answer that the code gives, in these words

-- of an accepted frame
abbrev pub outcome_in : Outputs → Outcome
outcome_in o = record {
  refusal = 0;
  content_size = o.content_size;
  inner_rect = o.inner_rect;
  viewport = o.viewport;
  handles = o.handles;
  wheel_delta_left = o.wheel_delta_left;
  scroll_delta_left = o.scroll_delta_left;
  repaint = o.repaint;
}

abbrev pub accepted_in : Accepted → Answer
accepted_in a = record { state = a.state; outcome = outcome_in a.outputs }

-- of any frame, on the state that was given
abbrev pub answer_in : State → Result Accepted Refusal → Answer
answer_in given (Ok a) = accepted_in a
answer_in given (Err refusal) = refused_of given (number_of refusal)

-- of one on a lent state, whose refusal leaves the state as it was
abbrev pub lent_outcome_in : State → Result Outputs Refusal → Outcome
lent_outcome_in given (Ok outputs) = outcome_in outputs
lent_outcome_in given (Err refusal) = (refused_of given (number_of refusal)).outcome
