-- Whatever the bytes, the state that they stand for is one that the code can hold.
use Rattle.std.specs.Prelude.{Option, None}
use Rattle.numbers.specs.declared.shape.Rect.{Rect}
use Rattle.area.specs.declared.state.ScrollingToTarget.{ScrollingToTarget}
use Rattle.std.specs.Prelude.{Float}
use mathlib.Core.Bool.{Bool, true, false, cond}
use mathlib.Core.List.{List}
use Prim.Native.Nat.{ℕ, ◌+◌}
use lib.Ieee.{binary32, binary64}
use lib.Ieee.Bits.{of_bits-fits}
use Rattle.area.specs.Frame.{word_no, number_no, flag_no, time_no, pair_no, flags_no, pos2_no, rect_no, option_no, maybe_number_no, maybe_rect_no}
use Rattle.area.specs.Parts.{target_no}
use Rattle.records.specs.Record.{maybe_target_no, state_of}
use Rattle.records.specs.Held.{Is32, Is64, ArePair, AreFlags, IsTarget, IsPress, IsRect, IsHeld}

number : (s : List ℕ) (n : ℕ) → Is32 (number_no s n)
unfolding number_no
number s n = of_bits-fits binary32 (word_no s n)

time : (s : List ℕ) (n : ℕ) → Is64 (time_no s n)
unfolding time_no
time s n = of_bits-fits binary64 _

pair : (s : List ℕ) (n : ℕ) → ArePair (pair_no s n)
unfolding pair_no
pair s n = (number s n, number s (n + 1))

flags : (s : List ℕ) (n : ℕ) → AreFlags (flags_no s n)
unfolding flags_no
flags s n = tt

any_target : (given : Bool) (t : Option ScrollingToTarget) → IsTarget t → IsTarget (cond given t None)
any_target true t held = held
any_target false t held = tt

target : (s : List ℕ) (n : ℕ) → IsTarget (maybe_target_no s n)
unfolding option_no target_no
target s n = any_target (flag_no s n) _ (time s (n + 1), time s (n + 1 + 2), number s (n + 1 + 4))

any_press : (given : Bool) (p : Option Float) → IsPress p → IsPress (cond given p None)
any_press true p held = held
any_press false p held = tt

press : (s : List ℕ) (n : ℕ) → IsPress (maybe_number_no s n)
unfolding option_no
press s n = any_press (flag_no s n) _ (number s (n + 1))

any_rect : (given : Bool) (r : Option Rect) → IsRect r → IsRect (cond given r None)
any_rect true r held = held
any_rect false r held = tt

rect : (s : List ℕ) (n : ℕ) → IsRect (maybe_rect_no s n)
unfolding option_no rect_no pos2_no
rect s n = any_rect (flag_no s n) _ (number s (n + 1), number s (n + 1 + 1), number s (n + 1 + 2), number s (n + 1 + 2 + 1))

pub read_is_held : (s : List ℕ) → IsHeld (state_of s)
unfolding state_of
read_is_held s = record {
  offset = pair s 1;
  max_offset = pair s 3;
  offset_target = (target s 5, target s 11);
  show_scroll = flags s 17;
  content_is_too_large = flags s 19;
  scroll_bar_interaction = flags s 21;
  vel = pair s 23;
  scroll_start_offset_from_top_left = (press s 25, press s 27);
  scroll_stuck_to_end = flags s 29;
  interact_rect = rect s 31;
  bounced_this_momentum = flags s 36;
  remembered_time = time s 38;
}
