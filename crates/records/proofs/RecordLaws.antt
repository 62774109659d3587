-- The parts that the words of a state, and of what a frame puts out besides it, are put in.
use Rattle.std.specs.Prelude.{Option}
use Rattle.numbers.specs.declared.shape.Rect.{Rect}
use Rattle.area.specs.declared.state.ScrollingToTarget.{ScrollingToTarget}
use mathlib.Core.Path.{◌≡◌, refl, ◌∙◌}
use mathlib.Core.List.{List, [], ◌∷◌, ◌++◌}
use Prim.Native.Nat.{ℕ}
use lib.ListN.{length, get_or}
use lib.Ieee.{Float}
use Rattle.words.specs.Words.{bytes_of}
use Rattle.area.specs.State.{no_target, no_press}
use Rattle.area.specs.Frame.{time_words}
use Rattle.area.specs.Outcome.{no_handle}
use Rattle.area.specs.declared.state.State.{State}
use Rattle.area.specs.Outcome.{Outcome}
use Rattle.records.specs.Record.{option_counted, span_words, number_word, flag_word, number_words, flag_words, target_words, press_words, rect_words, maybe_rect_words, state_words, record_of, out_words}
use Rattle.records.proofs.PartLaws.{Part, Right, right_append, words_of, put_parts_lem, Puts, puts}

-- an option has as many words in either case
abbrev pub target_long : (t : Option ScrollingToTarget) → length (target_words t) ≡ 6
target_long = option_counted 5 span_words (λ t. refl)

abbrev pub press_long : (p : Option Float) → length (press_words p) ≡ 2
press_long = option_counted 1 (λ x. number_word x ∷ []) (λ x. refl)

abbrev pub rect_long : (r : Option Rect) → length (maybe_rect_words r) ≡ 5
rect_long = option_counted 4 rect_words (λ r. refl)

-- the Rust's own fields, and the remembered time behind them
abbrev pub field_parts : State → List Part
field_parts s =
    (2, number_words s.offset)
    ∷ (2, number_words s.max_offset)
    ∷ (6, target_words (get_or s.offset_target 0 no_target))
    ∷ (6, target_words (get_or s.offset_target 1 no_target))
    ∷ (2, flag_words s.show_scroll)
    ∷ (2, flag_words s.content_is_too_large)
    ∷ (2, flag_words s.scroll_bar_interaction)
    ∷ (2, number_words s.vel)
    ∷ (2, press_words (get_or s.scroll_start_offset_from_top_left 0 no_press))
    ∷ (2, press_words (get_or s.scroll_start_offset_from_top_left 1 no_press))
    ∷ (2, flag_words s.scroll_stuck_to_end)
    ∷ (5, maybe_rect_words s.interact_rect)
    ∷ (2, flag_words s.bounced_this_momentum)
    ∷ []

abbrev pub time_parts : Float → List Part
time_parts t = (2, time_words t) ∷ []

abbrev pub state_parts : State → List Part
state_parts s = field_parts s ++ time_parts s.remembered_time

pub field_right : (s : State) → Right (field_parts s)
field_right s = (
  refl,
  (
    refl,
    (
      target_long (get_or s.offset_target 0 no_target),
      (
        target_long (get_or s.offset_target 1 no_target),
        (
          refl,
          (
            refl,
            (
              refl,
              (
                refl,
                (
                  press_long (get_or s.scroll_start_offset_from_top_left 0 no_press),
                  (
                    press_long (get_or s.scroll_start_offset_from_top_left 1 no_press),
                    (refl, (rect_long s.interact_rect, (refl, tt))),
                  ),
                ),
              ),
            ),
          ),
        ),
      ),
    ),
  ),
)

pub state_right : (s : State) → Right (state_parts s)
state_right s = right_append (field_parts s) (time_parts s.remembered_time) (field_right s) (refl, tt)

pub state_words_lem : (s : State) → words_of (state_parts s) ≡ state_words s
unfolding state_words
state_words_lem s = refl

abbrev pub out_parts : Outcome → List Part
out_parts o =
    (2, number_words o.content_size)
    ∷ (4, rect_words o.inner_rect)
    ∷ (4, rect_words o.viewport)
    ∷ (5, maybe_rect_words (get_or o.handles 0 no_handle))
    ∷ (5, maybe_rect_words (get_or o.handles 1 no_handle))
    ∷ (2, number_words o.wheel_delta_left)
    ∷ (2, number_words o.scroll_delta_left)
    ∷ (1, flag_word o.repaint ∷ [])
    ∷ []

out_right : (o : Outcome) → Right (out_parts o)
out_right o = (
  refl,
  (
    refl,
    (
      refl,
      (
        rect_long (get_or o.handles 0 no_handle),
        (
          rect_long (get_or o.handles 1 no_handle),
          (refl, (refl, (refl, tt))),
        ),
      ),
    ),
  ),
)

pub state_put : (s : State) {b t : List ℕ} → length b ≡ 156 → Puts 0 (state_parts s) b t → t ≡ record_of s
unfolding state_words
state_put s {b} whole calls = puts calls ∙ put_parts_lem (state_parts s) b (state_right s) whole

pub out_put : (o : Outcome) {b t : List ℕ} → length b ≡ 100 → Puts 0 (out_parts o) b t → t ≡ bytes_of (out_words o)
unfolding out_words
out_put o {b} whole calls = puts calls ∙ put_parts_lem (out_parts o) b (out_right o) whole
