-- The state that a frame reaches from one that the code can hold is one that the code can hold, and such a state is read back as it is written.
-- Assumes nothing.
use Rattle.std.specs.Prelude.{Option}
use Rattle.area.specs.declared.state.ScrollingToTarget.{ScrollingToTarget}
use Rattle.std.specs.Prelude.{Float}
use mathlib.Core.Path.{◌≡◌}
use mathlib.Core.Logic.{∥∥₁_elim}
use mathlib.Core.List.{List, [], ◌∷◌}
use Prim.Native.Nat.{ℕ, zero, suc}
use lib.Ieee.{Float, binary32}
use lib.Ieee.Fits.{nan-fits}
use base.Stored.{Coded-set}
use Rattle.std.specs.Prelude.{length, slice_index_or}
use Rattle.numbers.specs.Table.{table_of}
use Rattle.area.specs.Pair.{num}
use Rattle.area.specs.State.{no_target, no_press}
use Rattle.area.specs.Drive.{before_of}
use Rattle.area.specs.PutOut.{next_state}
use Rattle.numbers.specs.Shape.{from_x_y_ranges_of}
use Rattle.area.specs.End.{shrunk_rect_of}
use Rattle.area.specs.Call.{call_under}
use Rattle.area.specs.declared.state.State.{State}
use Rattle.area.specs.contracts.state.State as state
use Rattle.area.proofs.HeldLaws.{Opens, stored_held}
use Rattle.records.specs.Record.{record_of, state_of}
use Rattle.records.specs.Held.{Is32, ArePair, AreTargets, IsTarget, ArePresses, IsPress, IsHeld}
use Rattle.host.specs.Lists.{AreBytes, AreTable}
use Rattle.records.proofs.BackLaws.{written_is_read}

-- ---- an axis of a pair; no number stands past it
num_held : (v : List Float) → ArePair v → (d : ℕ) → Is32 (num v d)
num_held [] are d = absurd are
num_held (x ∷ []) are d = absurd are
num_held (x ∷ y ∷ []) are zero = are.0
num_held (x ∷ y ∷ []) are (suc zero) = are.1
num_held (x ∷ y ∷ []) are (suc (suc d)) = nan-fits binary32
num_held (x ∷ y ∷ z ∷ v) are d = absurd are

target_held : (v : List (Option ScrollingToTarget)) → AreTargets v → (d : ℕ) → IsTarget (slice_index_or v d no_target)
target_held [] are d = absurd are
target_held (t ∷ []) are d = absurd are
target_held (t ∷ u ∷ []) are zero = are.0
target_held (t ∷ u ∷ []) are (suc zero) = are.1
target_held (t ∷ u ∷ []) are (suc (suc d)) = tt
target_held (t ∷ u ∷ v ∷ w) are d = absurd are

press_held : (v : List (Option Float)) → ArePresses v → (d : ℕ) → IsPress (slice_index_or v d no_press)
press_held [] are d = absurd are
press_held (p ∷ []) are d = absurd are
press_held (p ∷ q ∷ []) are zero = are.0
press_held (p ∷ q ∷ []) are (suc zero) = are.1
press_held (p ∷ q ∷ []) are (suc (suc d)) = tt
press_held (p ∷ q ∷ r ∷ v) are d = absurd are

opens : (s : State) → IsHeld s → Opens s
unfolding before_of
opens s held = record {
  before = λ d. record {
    max_offset = num_held s.max_offset held.max_offset d;
    press = press_held s.scroll_start_offset_from_top_left held.scroll_start_offset_from_top_left d;
  };
  offset = num_held s.offset held.offset;
  vel = num_held s.vel held.vel;
  target = target_held s.offset_target held.offset_target;
}

-- ---- a frame
frame_is_held : (s : State) → IsHeld s → (frame table : List ℕ) → IsHeld (call_under (table_of table) s frame).state
unfolding next_state shrunk_rect_of from_x_y_ranges_of
frame_is_held s held frame table =
    stored_held IsHeld (table_of table) s frame held (opens s held) (λ e left now. record {
      offset = (left.x.offset, left.y.offset);
      max_offset = (left.x_extent.max_offset, left.y_extent.max_offset);
      offset_target = (left.x.target, left.y.target);
      show_scroll = tt;
      content_is_too_large = tt;
      scroll_bar_interaction = tt;
      vel = (left.x.vel, left.y.vel);
      scroll_start_offset_from_top_left = (left.x.press, left.y.press);
      scroll_stuck_to_end = tt;
      interact_rect = (left.x_extent.min, left.y_extent.min, left.x_extent.max, left.y_extent.max);
      bounced_this_momentum = tt;
      remembered_time = now;
    })

-- the state that a frame reaches from one that the code can hold is one that the code can hold
pub call_is_held : (s : State) → IsHeld s → (frame table : List ℕ) → AreBytes frame → AreTable table → length frame ≡ 416
    → ∥ IsHeld (call_under (table_of table) s frame).state ∥₁
call_is_held s held frame table are lent count = ∣ frame_is_held s held frame table ∣₁

-- and such a state is read back as it is written
pub held_is_read_back : (s : State) → ∥ IsHeld s ∥₁ → state_of (record_of s) ≡ s
held_is_read_back s held = ∥∥₁_elim held (Coded-set (state.the_row).coded (state_of (record_of s)) s) (written_is_read s)
