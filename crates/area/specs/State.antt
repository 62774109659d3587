-- `State::default`, document 02's remembered time, and the offset readers.
use Rattle.std.specs.Prelude.{Option, None}
use Rattle.area.specs.declared.state.ScrollingToTarget.{ScrollingToTarget}
use Rattle.std.specs.Prelude.{◌≡◌, true, false, List, [], ◌∷◌, pos}
use Rattle.std.specs.Prelude.{refl, Float}
use Rattle.std.specs.Float.{binary64}
use Rattle.std.specs.Float.Ieee.{of_bits, of_int}
use Rattle.numbers.specs.F32.{minus, zero}
use Rattle.numbers.specs.Range.{clamp_of}
use Rattle.axis.specs.Physics.{scroll_bounds_of}
use Rattle.area.specs.Pair.{num}
use Rattle.area.specs.declared.state.State.{State}

abbrev pub no_target : Option ScrollingToTarget
no_target = None

abbrev pub no_press : Option Float
no_press = None

-- "0 in a fresh one"
abbrev pub no_time : Float
no_time = of_bits binary64 0

no_time_is : no_time ≡ of_int binary64 (pos 0)
unfolding of_bits of_int
no_time_is = refl

-- State::default, and the remembered time
unfoldable pub default : State
default = record {
  offset = zero ∷ zero ∷ [];
  max_offset = zero ∷ zero ∷ [];
  offset_target = no_target ∷ no_target ∷ [];
  show_scroll = false ∷ false ∷ [];
  content_is_too_large = false ∷ false ∷ [];
  scroll_bar_interaction = false ∷ false ∷ [];
  vel = zero ∷ zero ∷ [];
  scroll_start_offset_from_top_left = no_press ∷ no_press ∷ [];
  scroll_stuck_to_end = true ∷ true ∷ [];
  interact_rect = None;
  bounced_this_momentum = false ∷ false ∷ [];
  remembered_time = no_time;
}

-- scroll_bounds(max_offset).clamp(offset)
unfoldable pub clamped_to : Float → Float → Float
clamped_to offset max_offset = let b = scroll_bounds_of max_offset in clamp_of offset b.min b.max

-- clamped_offset, and offset
unfoldable pub clamped_offset : State → List Float
clamped_offset s = clamped_to (num s.offset 0) (num s.max_offset 0) ∷ clamped_to (num s.offset 1) (num s.max_offset 1) ∷ []

-- overscroll
unfoldable pub overscroll : State → List Float
overscroll s = minus (num s.offset 0) (num (clamped_offset s) 0) ∷ minus (num s.offset 1) (num (clamped_offset s) 1) ∷ []
