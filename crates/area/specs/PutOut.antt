-- The answer of an accepted frame: the state that `end` stores, and ScrollAreaOutput with what the host gets back.
use Rattle.std.specs.Prelude.{Some}
use Rattle.std.specs.Prelude.{Bool, not, ◌&&◌, ◌||◌, List, [], ◌∷◌}
use Rattle.std.specs.Bool.{beq}
use Rattle.std.specs.Prelude.{Float}
use Rattle.numbers.specs.F32.{zero}
use Rattle.area.specs.Pair.{num, flag}
use Rattle.area.specs.Geometry.{pick_of}
use Rattle.area.specs.Begin.{inner_rect_of, viewport_of}
use Rattle.area.specs.End.{shrunk_rect_of}
use Rattle.area.specs.declared.state.State.{State}
use Rattle.area.specs.declared.fields.Frame.{Frame}
use Rattle.area.specs.declared.prepared.Prepared.{Prepared}
use Rattle.area.specs.declared.end.Ended.{Ended}
use Rattle.area.specs.Outcome.{Outcome}
use Rattle.area.specs.Outcome.{Answer}

-- state, as `end` stores it; "The state shall remember the time of its last accepted frame"
unfoldable pub next_state : Frame → Ended → State
next_state f e = record {
  offset = e.x.offset ∷ e.y.offset ∷ [];
  max_offset = e.x_extent.max_offset ∷ e.y_extent.max_offset ∷ [];
  offset_target = e.x.offset_target ∷ e.y.offset_target ∷ [];
  show_scroll = e.x.show_scroll ∷ e.y.show_scroll ∷ [];
  content_is_too_large = e.x_extent.content_is_too_large ∷ e.y_extent.content_is_too_large ∷ [];
  scroll_bar_interaction = e.x.scroll_bar_interaction ∷ e.y.scroll_bar_interaction ∷ [];
  vel = e.x.vel ∷ e.y.vel ∷ [];
  scroll_start_offset_from_top_left = e.x.press ∷ e.y.press ∷ [];
  scroll_stuck_to_end = e.x.scroll_stuck_to_end ∷ e.y.scroll_stuck_to_end ∷ [];
  interact_rect = Some (shrunk_rect_of e.x_extent e.y_extent);
  bounced_this_momentum = e.x.bounced_this_momentum ∷ e.y.bounced_this_momentum ∷ [];
  remembered_time = f.host.time;
}

-- end, "Clear scroll delta so no parent scroll will use it"
unfoldable pub wheel_delta_left : Frame → Ended → List Float
wheel_delta_left f e =
    let both = e.wheel.always_scroll_enabled_direction && (e.x.consumed || e.y.consumed) in
    pick_of (both || e.x.consumed) zero (num f.host.smooth_scroll_delta 0) ∷ pick_of (both || e.y.consumed) zero (num f.host.smooth_scroll_delta 1) ∷ []

-- end, "core::mem::take(&mut state.scroll_delta.0[d])"
unfoldable pub scroll_delta_left : Frame → List Float
scroll_delta_left f =
    pick_of (flag f.settings.direction_enabled 0) zero (num f.content.scroll_delta 0)
    ∷ pick_of (flag f.settings.direction_enabled 1) zero (num f.content.scroll_delta 1)
    ∷ []

-- request_repaint: a step, a target under way, an adjustment, "show_scroll_this_frame != state.show_scroll"
unfoldable pub wants_repaint : State → Prepared → Ended → Bool
wants_repaint s p e =
    p.x.repaint
    || p.y.repaint
    || e.x.had_explicit_scroll_adjustment
    || e.y.had_explicit_scroll_adjustment
    || not (beq e.x.show_scroll (flag s.show_scroll 0))
    || not (beq e.y.show_scroll (flag s.show_scroll 1))

-- "Outputs: state, content size, inner rectangle, viewport, both handle rectangles, wheel delta left, scroll delta left, repaint wanted"
unfoldable pub outcome_of : Frame → State → Prepared → Ended → Outcome
outcome_of f s p e = record {
  refusal = 0;
  content_size = f.content.size;
  inner_rect = inner_rect_of p;
  viewport = viewport_of f s p;
  handles = e.x.handle ∷ e.y.handle ∷ [];
  wheel_delta_left = wheel_delta_left f e;
  scroll_delta_left = scroll_delta_left f;
  repaint = wants_repaint s p e;
}

unfoldable pub answer_of : Frame → State → Prepared → Ended → Answer
answer_of f s p e = record { state = next_state f e; outcome = outcome_of f s p e }
