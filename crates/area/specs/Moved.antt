-- When an axis "is moved by hand or program", read twice: by the frame's words alone, as document 01 names them, and in the
-- narrowest way, where only a move that the steps heed counts. Axis d is 0 for x and 1 for y.
use Rattle.std.specs.Prelude.{Option, Some, None}
use Rattle.numbers.specs.declared.shape.Pos2.{Pos2}
use Rattle.std.specs.Prelude.{◌≡◌, ℕ, ◌+◌, Bool, true, false, cond, not, ◌&&◌, ◌||◌, List, ◌==◌, slice_index_or}
use Rattle.std.specs.Float.Ieee.{eq, ne}
use Rattle.numbers.specs.Table.{Table}
use Rattle.numbers.specs.F32.{zero}
use Rattle.area.specs.Pair.{num, flag}
use Rattle.area.specs.Layout as At
use Rattle.area.specs.Frame.{flag_no, number_no, frame_of}
use Rattle.area.specs.Handle.{show_factor_of}
use Rattle.area.specs.Bar.{no_response}
use Rattle.area.specs.Steps.{begun_at, ended_at, step_at, is_accepted}
use Rattle.area.specs.declared.state.State.{State}
use Rattle.area.specs.declared.fields.Frame.{Frame}
use Rattle.area.specs.declared.prepared.Prepared.{Prepared}
use Rattle.area.specs.declared.extent.AxisExtent.{AxisExtent}
use Rattle.area.specs.declared.end.AxisEnded.{AxisEnded}
use Rattle.area.specs.declared.end.Ended.{Ended}

-- ---- by the words alone

-- the word of a field that x and y have apart
abbrev pub word_on : ℕ → ℕ → ℕ → ℕ
word_on d x y = cond (d == 0) x y

abbrev pub is_other_than_zero : List ℕ → ℕ → Bool
is_other_than_zero bytes n = ne (number_no bytes n) zero

-- "when a frame gives it an explicit offset, a background drag or its end, a press on its bar, a scroll target, or a scroll delta or
-- wheel delta (on either axis) other than 0"
unfoldable pub is_moved_by_words : List ℕ → ℕ → Bool
is_moved_by_words bytes d =
    flag_no bytes (word_on d At.offset_x At.offset_y)
    || flag_no bytes At.dragged
    || flag_no bytes At.drag_stopped
    || flag_no bytes (word_on d At.bar_x At.bar_y + 2)
    || flag_no bytes (word_on d At.target_x At.target_y)
    || is_other_than_zero bytes (At.scroll_delta + d)
    || is_other_than_zero bytes At.smooth_scroll_delta
    || is_other_than_zero bytes (At.smooth_scroll_delta + 1)

-- ---- by what the steps heed

abbrev pub ended_on : Ended → ℕ → AxisEnded
ended_on e d = cond (d == 0) e.x e.y

abbrev pub extent_on : Ended → ℕ → AxisExtent
extent_on e d = cond (d == 0) e.x_extent e.y_extent

abbrev pub is_some_pos2 : Option Pos2 → Bool
is_some_pos2 None = false
is_some_pos2 (Some p) = true

-- a background drag that counts, on an axis that is enabled
unfoldable pub is_drag_heeded : Frame → Prepared → ℕ → Bool
is_drag_heeded f p d = (p.has_background_drag && f.host.dragged) && flag f.settings.direction_enabled d

-- a press while the bar's factor is not 0
unfoldable pub is_press_heeded : Frame → ℕ → Bool → Bool
is_press_heeded f d show_scroll =
    not (eq (show_factor_of show_scroll (num f.host.bar_factors d) (num f.host.opening_factors d)) zero)
    && is_some_pos2 (slice_index_or f.host.bars d no_response).press

-- a drag, a wheel delta that is taken, a target or a scroll delta that asks for a move, a press; an explicit offset and a drag's end
-- do not count, as a stuck list is put on its end after them
unfoldable pub is_moved_in : Frame → Prepared → ℕ → AxisEnded → Bool
is_moved_in f p d e = is_drag_heeded f p d || (e.consumed || (e.had_explicit_scroll_adjustment || is_press_heeded f d e.show_scroll))

unfoldable pub is_moved : Table → State → List ℕ → ℕ → Bool
is_moved table S bytes d = is_moved_in (frame_of bytes) (begun_at table S bytes) d (ended_on (ended_at table S bytes) d)

-- ---- the narrowest reading lies in the one by words: no accepted frame moves axis d without a word that names the move
abbrev pub MovesAreNamed : ℕ → Type 0
MovesAreNamed d =
    (table : Table) (S : State) (bytes : List ℕ) → is_accepted (step_at table S bytes) ≡ true → is_moved table S bytes d ≡ true
    → is_moved_by_words bytes d ≡ true
