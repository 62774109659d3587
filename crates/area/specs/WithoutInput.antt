-- What a host runs after a refusal: the same frame without its input.
use Rattle.std.specs.Prelude.{◌≡◌, ℕ, suc, ◌+◌, ◌/◌, Bool, true, false, cond, ◌||◌, List, [], ◌∷◌, ◌==◌}
use Rattle.std.specs.Prelude.{refl}
use Rattle.numbers.specs.Table.{Table}
use Rattle.area.specs.Pair.{flag}
use Rattle.area.specs.Layout as At
use Rattle.area.specs.Frame.{word_no}
use Rattle.area.specs.Steps.{step_at, is_accepted}
use Rattle.area.specs.Moved.{is_moved_by_words}
use Rattle.area.specs.Lists.{IsOnEnd}
use Rattle.area.specs.declared.state.State.{State}

-- what a hand or a program asks of the list: explicit offsets, the pointer with its delta and velocity, a drag and its end, the wheel
-- delta, presses on the bars, the scroll delta, scroll targets
abbrev pub input_words : List ℕ
input_words =
    At.offset_x
    ∷ At.offset_y
    ∷ At.pointer
    ∷ At.pointer_delta
    ∷ (At.pointer_delta + 1)
    ∷ At.pointer_velocity
    ∷ (At.pointer_velocity + 1)
    ∷ At.dragged
    ∷ At.drag_stopped
    ∷ At.smooth_scroll_delta
    ∷ (At.smooth_scroll_delta + 1)
    ∷ (At.bar_x + 2)
    ∷ (At.bar_y + 2)
    ∷ At.scroll_delta
    ∷ (At.scroll_delta + 1)
    ∷ At.target_x
    ∷ At.target_y
    ∷ []

-- as the header has them
input_words_are : input_words ≡ 15 ∷ 17 ∷ 54 ∷ 57 ∷ 58 ∷ 59 ∷ 60 ∷ 61 ∷ 62 ∷ 64 ∷ 65 ∷ 74 ∷ 79 ∷ 86 ∷ 87 ∷ 91 ∷ 98 ∷ []
input_words_are = refl

abbrev is_among : List ℕ → ℕ → Bool
is_among [] n = false
is_among (m ∷ words) n = m == n || is_among words n

unfoldable pub is_input : ℕ → Bool
is_input n = is_among input_words n

-- bytes from byte i of a frame on, with 0 in those of its input
abbrev pub cleared_from : ℕ → List ℕ → List ℕ
cleared_from i [] = []
cleared_from i (b ∷ bytes) = cond (is_input (i / 4 + 1)) 0 b ∷ cleared_from (suc i) bytes

unfoldable pub without_input : List ℕ → List ℕ
without_input bytes = cleared_from 0 bytes

-- no word of it moves axis d; and where the frame is to stick there, and it is accepted, under whichever table, a stuck axis shows the
-- list's end and stays stuck
pub record ShowsWithoutInput (d : ℕ) : Type 0 where
  pub unmoved : (bytes : List ℕ) → is_moved_by_words (without_input bytes) d ≡ false
  pub on_end : (table : Table) (S : State) (bytes : List ℕ) → word_no bytes (At.stick_to_end + d) ≡ 1 → flag S.scroll_stuck_to_end d ≡ true
      → is_accepted (step_at table S (without_input bytes)) ≡ true
      → IsOnEnd table S (without_input bytes) (step_at table S (without_input bytes)).state d
      × (flag (step_at table S (without_input bytes)).state.scroll_stuck_to_end d ≡ true)
