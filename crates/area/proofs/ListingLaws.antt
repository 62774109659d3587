-- The listing is run by computation: what its frame reads is opened, and the rest stays shut. Assumes nothing.
use mathlib.Core.Path.{refl}
use lib.Ieee.{of_bits, neg, add, sub, mul, div, lt, le, eq, ne}
use Rattle.words.specs.Words.{word_at}
use Rattle.numbers.specs.Table.{Table}
use Rattle.numbers.specs.Scalar.{abs_of, is_finite, max_of, min_of, flag_of}
use Rattle.numbers.specs.Range.{clamp_of}
use Rattle.numbers.specs.Shape.{from_min_size_of}
use Rattle.axis.specs.Limits.{exceeds_limit, is_decay_time_outside}
use Rattle.axis.specs.Physics.{scroll_bounds_of, is_rubber_banding}
use Rattle.axis.specs.Step.{step_of, coast_of}
use Rattle.area.specs.State.{default, clamped_to, clamped_offset}
use Rattle.area.specs.Layout.{layout, rows, row_at, row_no}
use Rattle.area.specs.Frame.{word_no, number_no, flag_no, time_no, pair_no, flags_no, pos2_no, rect_no, option_no, kind_no}
use Rattle.area.specs.Frame.{settings_of, style_of, host_of, content_of, frame_of}
use Rattle.area.specs.Clock.{clock_refusal}
use Rattle.area.specs.Checks.{is_heeded, shows2, shows3, shows4, shows5, is_shown, shows_no, any_shows, frame_refusal}
use Rattle.area.specs.Checks.{is_pair_finite, are_targets_finite, are_presses_finite, is_rect_finite, is_state_finite}
use Rattle.area.specs.Checks.{state_refusal, refusal_of, refusal_before7}
use Rattle.numbers.specs.Shape.{along_of, from_x_y_ranges_of}
use Rattle.area.specs.Geometry.{pick_of, shows_bar}
use Rattle.area.specs.AxisPhysics.{physics_of}
use Rattle.area.specs.Space.{bar_use_of, current_bar_use_of, side_of, space_by, space_of, inner_rect}
use Rattle.area.specs.Space as Space
use Rattle.area.specs.Drive.{given_offset_or, opened_of, before_of, released_of, stepped_of, driven_of}
use Rattle.area.specs.Follow.{followed_of}
use Rattle.area.specs.Begin.{drag_enabled, has_background_drag, input_of, last_physics_of, begun_from, inner_rect_of, viewport_of, prepared_of, begin_of}
use Rattle.area.specs.Adjust.{asked_of, asked_at, adjusted_by, adjusted_of}
use Rattle.area.specs.Extent.{inner_size_of, extent_by, extent_of}
use Rattle.area.specs.WheelTurn.{heard_of, turned_of}
use Rattle.area.specs.Stick.{stick_of}
use Rattle.area.specs.Handle.{show_factor_of}
use Rattle.area.specs.Bar.{turn_bar, bar_of}
use Rattle.area.specs.FinalClamp.{final_clamp_of}
use Rattle.area.specs.End.{ended_by, finished_of, axis_ended_of, shrunk_rect_of, end_of, is_press_blocked}
use Rattle.area.specs.Outcome.{is_outcome_finite, is_answer_finite}
use Rattle.area.specs.PutOut.{next_state, wheel_delta_left, scroll_delta_left, outcome_of, answer_of}
use Rattle.area.specs.Steps.{begun_at, ended_at, outputs_at, check_at, step_at}
use Rattle.area.specs.Moved.{is_moved_by_words, is_drag_heeded, is_press_heeded, is_moved_in, is_moved}
use Rattle.area.specs.Listing.{listing, ListingShown}

pub listing_shown : (table : Table) → ListingShown table default
unfolding
    of_bits neg add sub mul div lt le eq ne
    word_at abs_of is_finite max_of min_of flag_of clamp_of from_min_size_of
    exceeds_limit is_decay_time_outside scroll_bounds_of is_rubber_banding step_of coast_of
    default clamped_to clamped_offset
    layout rows row_at row_no
    word_no number_no flag_no time_no pair_no flags_no pos2_no rect_no option_no kind_no
    settings_of style_of host_of content_of frame_of
    is_heeded shows2 shows3 shows4 shows5 is_shown shows_no any_shows frame_refusal
    is_pair_finite are_targets_finite are_presses_finite is_rect_finite is_state_finite state_refusal refusal_of clock_refusal refusal_before7
    along_of from_x_y_ranges_of pick_of shows_bar physics_of
    bar_use_of current_bar_use_of side_of Space.inner_size_of space_by space_of inner_rect
    given_offset_or opened_of before_of released_of stepped_of driven_of followed_of
    drag_enabled has_background_drag input_of last_physics_of begun_from inner_rect_of viewport_of prepared_of begin_of
    asked_of asked_at adjusted_by adjusted_of
    inner_size_of extent_by extent_of
    heard_of turned_of stick_of show_factor_of turn_bar bar_of final_clamp_of
    ended_by finished_of axis_ended_of shrunk_rect_of end_of is_press_blocked
    is_outcome_finite is_answer_finite
    next_state wheel_delta_left scroll_delta_left outcome_of answer_of
    begun_at ended_at outputs_at check_at step_at
    is_moved_by_words is_drag_heeded is_press_heeded is_moved_in is_moved
    listing
listing_shown table = record {
  accepted = refl;
  stores = refl;
  rests = refl;
  stuck = refl;
  no_rubber_band = refl;
  sticks = refl;
  unmoved = (refl, refl);
  unmoved_by_words = (refl, refl);
  shows = refl;
}
