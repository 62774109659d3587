-- Document 02, K5: "The clock may not run backwards." What the state remembers of it stands in State, and where a frame sets it in PutOut.
use Rattle.std.specs.Prelude.{ℕ, Bool, cond, List, Float}
use Rattle.std.specs.Float.Ieee.{lt}
use Rattle.area.specs.State.{no_time}
use Rattle.area.specs.Layout as At
use Rattle.area.specs.Frame.{time_no}
use Rattle.area.specs.declared.state.State.{State}

-- "a frame whose time is less than the remembered one"
abbrev pub is_back : List ℕ → State → Bool
is_back bytes state = lt (time_no bytes At.time) state.remembered_time

-- 12
unfoldable pub clock_refusal : List ℕ → State → ℕ
clock_refusal bytes state = cond (is_back bytes state) 12 0

-- the same of a frame's time
abbrev pub refusal_at : Float → State → ℕ
refusal_at time state = cond (lt time state.remembered_time) 12 0

-- "A reset call clears that time and nothing else."
unfoldable pub reset_of : State → State
reset_of s = record {
  offset = s.offset;
  max_offset = s.max_offset;
  offset_target = s.offset_target;
  show_scroll = s.show_scroll;
  content_is_too_large = s.content_is_too_large;
  scroll_bar_interaction = s.scroll_bar_interaction;
  vel = s.vel;
  scroll_start_offset_from_top_left = s.scroll_start_offset_from_top_left;
  scroll_stuck_to_end = s.scroll_stuck_to_end;
  interact_rect = s.interact_rect;
  bounced_this_momentum = s.bounced_this_momentum;
  remembered_time = no_time;
}
