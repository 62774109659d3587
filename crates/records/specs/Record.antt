-- A state, and what a frame puts out besides it, in 32-bit words "written as a frame writes its own": the fields in the Rust's
-- order and the remembered time; an absent option is zeros when written and ignored when read.
use Rattle.std.specs.Prelude.{Option, Some, None}
use Rattle.area.specs.declared.state.ScrollingToTarget.{ScrollingToTarget}
use Rattle.std.specs.Prelude.{◌≡◌, ℕ, suc, ◌+◌, ◌*◌, ◌<◌, ◌≤◌, Bool, cond, ◌||◌, List, [], ◌∷◌, ◌++◌, ltb, length, get_or, replicate, Float}
use Rattle.std.specs.Float.{binary32}
use Rattle.std.proofs.Common.{ap, ◌∙◌}
use Rattle.std.proofs.Math.Numerals.{suc-eq-add-one}
use Rattle.std.proofs.lemmas.List.{length-replicate}
use Rattle.std.specs.Float.Ieee.{to_bits}
use Rattle.words.specs.Words.{bytes_of}
use Rattle.numbers.specs.declared.shape.Rect.{Rect}
use Rattle.area.specs.Pair.{num, flag}
use Rattle.area.specs.State.{no_target, no_press}
use Rattle.area.specs.Frame.{time_no, time_words, pair_no, flags_no, option_no, maybe_number_no, maybe_rect_no}
use Rattle.area.specs.Parts.{target_no}
use Rattle.area.specs.Outcome.{no_handle}
use Rattle.area.specs.declared.state.State.{State}
use Rattle.area.specs.Outcome.{Outcome}

-- ---- written
abbrev pub number_word : Float → ℕ
number_word x = to_bits binary32 x

abbrev pub flag_word : Bool → ℕ
flag_word b = cond b 1 0

abbrev pub number_words : List Float → List ℕ
number_words v = number_word (num v 0) ∷ number_word (num v 1) ∷ []

abbrev pub flag_words : List Bool → List ℕ
flag_words v = flag_word (flag v 0) ∷ flag_word (flag v 1) ∷ []

-- of what is so many words: flag, and the words; absent, zeros
abbrev pub option_words : {A : Type 0} → ℕ → (A → List ℕ) → Option A → List ℕ
option_words count words None = 0 ∷ replicate count 0
option_words count words (Some a) = 1 ∷ words a

-- as many in either case
pub option_counted : {A : Type 0} (count : ℕ) (words : A → List ℕ) → ((a : A) → length (words a) ≡ count) → (o : Option A)
    → length (option_words count words o) ≡ count + 1
option_counted count words counted None = ap suc (length-replicate count 0) ∙ suc-eq-add-one count
option_counted count words counted (Some a) = ap suc (counted a) ∙ suc-eq-add-one count

-- start, end, goal
abbrev pub span_words : ScrollingToTarget → List ℕ
span_words t = time_words t.start ++ (time_words t.end ++ (number_word t.target_offset ∷ []))

abbrev pub target_words : Option ScrollingToTarget → List ℕ
target_words = option_words 5 span_words

abbrev pub press_words : Option Float → List ℕ
press_words = option_words 1 (λ x. number_word x ∷ [])

abbrev pub rect_words : Rect → List ℕ
rect_words r = number_word r.min.x ∷ number_word r.min.y ∷ number_word r.max.x ∷ number_word r.max.y ∷ []

abbrev pub maybe_rect_words : Option Rect → List ℕ
maybe_rect_words = option_words 4 rect_words

-- the 39 words of a state
unfoldable pub state_words : State → List ℕ
state_words s =
    number_words s.offset
    ++ (number_words s.max_offset
    ++ (target_words (get_or s.offset_target 0 no_target)
    ++ (target_words (get_or s.offset_target 1 no_target)
    ++ (flag_words s.show_scroll
    ++ (flag_words s.content_is_too_large
    ++ (flag_words s.scroll_bar_interaction
    ++ (number_words s.vel
    ++ (press_words (get_or s.scroll_start_offset_from_top_left 0 no_press)
    ++ (press_words (get_or s.scroll_start_offset_from_top_left 1 no_press)
    ++ (flag_words s.scroll_stuck_to_end
    ++ (maybe_rect_words s.interact_rect
    ++ (flag_words s.bounced_this_momentum
    ++ time_words s.remembered_time))))))))))))

-- its record, in bytes
abbrev pub record_of : State → List ℕ
record_of s = bytes_of (state_words s)

-- "Out of the frame, 25 words: content size 2, inner rectangle 4, viewport 4, each axis's handle as flag and 4 (zeros if none), wheel
-- delta left 2, scroll delta left 2, repaint."
unfoldable pub out_words : Outcome → List ℕ
out_words o =
    number_words o.content_size
    ++ (rect_words o.inner_rect
    ++ (rect_words o.viewport
    ++ (maybe_rect_words (get_or o.handles 0 no_handle)
    ++ (maybe_rect_words (get_or o.handles 1 no_handle)
    ++ (number_words o.wheel_delta_left
    ++ (number_words o.scroll_delta_left
    ++ (flag_word o.repaint ∷ [])))))))

-- ---- read; words are numbered from 1
abbrev pub maybe_target_no : List ℕ → ℕ → Option ScrollingToTarget
maybe_target_no = option_no target_no

-- the state that the bytes of a record stand for
unfoldable pub state_of : List ℕ → State
state_of s = record {
  offset = pair_no s 1;
  max_offset = pair_no s 3;
  offset_target = maybe_target_no s 5 ∷ maybe_target_no s 11 ∷ [];
  show_scroll = flags_no s 17;
  content_is_too_large = flags_no s 19;
  scroll_bar_interaction = flags_no s 21;
  vel = pair_no s 23;
  scroll_start_offset_from_top_left = maybe_number_no s 25 ∷ maybe_number_no s 27 ∷ [];
  scroll_stuck_to_end = flags_no s 29;
  interact_rect = maybe_rect_no s 31;
  bounced_this_momentum = flags_no s 36;
  remembered_time = time_no s 38;
}

-- ---- damaged; from here on a record is one that begins at word at, and w gives the words by their number from 0

-- "A state flag that is not 0 or 1 is a damaged state"
abbrev pub is_no_flag : (ℕ → ℕ) → ℕ → Bool
is_no_flag w i = ltb 1 (w i)

-- either of two
abbrev pub is_no_flags : (ℕ → ℕ) → ℕ → ℕ → Bool
is_no_flags w i j = is_no_flag w i || is_no_flag w j

-- the flags in a state's record, as state_words has them: both targets', three pairs, both presses', a pair, the rectangle's, a pair
unfoldable pub is_damaged : (ℕ → ℕ) → ℕ → Bool
is_damaged w at =
    is_no_flags w (at + 4) (at + 10)
    || is_no_flags w (at + 16) (at + 17)
    || is_no_flags w (at + 18) (at + 19)
    || is_no_flags w (at + 20) (at + 21)
    || is_no_flags w (at + 24) (at + 26)
    || is_no_flags w (at + 28) (at + 29)
    || is_no_flag w (at + 30)
    || is_no_flags w (at + 35) (at + 36)

-- the 39 words are all there; the bound on at keeps their numbers within 32 bits
abbrev pub HasRecord : List ℕ → ℕ → Type 0
HasRecord s at = (4 * at + 156 ≤ length s) × (at < 1073741000)
