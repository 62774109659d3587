-- "Turned back, in checking order", 1 to 6, and document 02's 12. "For a frame, checks 1 to 5 read the frame alone, never the state."
use Rattle.std.specs.Prelude.{Option}
use Rattle.numbers.specs.declared.shape.Rect.{Rect}
use Rattle.area.specs.declared.state.ScrollingToTarget.{ScrollingToTarget}
use Rattle.std.specs.Prelude.{ℕ, zero, suc, ◌-◌, Bool, false, cond, not, ◌&&◌, ◌||◌, None, List, length, slice_index_or, ◌==◌, from_bits, nat_lt}
use Rattle.std.specs.Prelude.{Float}
use Rattle.std.specs.Float.{binary64}
use Rattle.std.specs.Float.Ieee.{lt, le, ne}
use Rattle.numbers.specs.F32.{over, one}
use Rattle.numbers.specs.F32 as F32
use Rattle.numbers.specs.Scalar.{is_finite}
use Rattle.numbers.specs.Finite.{option_finite, rect_finite}
use Rattle.axis.specs.Limits.{exceeds_limit, is_decay_time_outside}
use Rattle.area.specs.declared.state.State.{State}
use Rattle.area.specs.State.{no_time}
use Rattle.area.specs.Layout as At
use Rattle.area.specs.Layout.{Row, row_no}
use Rattle.area.specs.Pair.{num}
use Rattle.area.specs.Frame.{word_no, number_no, time_no}
use Rattle.area.specs.Clock.{clock_refusal}

-- "A word inside an option whose flag is 0" is not heeded
unfoldable pub is_heeded : List ℕ → Row → Bool
is_heeded s r = r.option == 0 || word_no s r.option == 1

-- 2: "A flag word is not 0 or 1, or a kind is outside its values"
unfoldable pub shows2 : Row → ℕ → Bool
shows2 r w = r.how == At.whole && nat_lt r.most w

abbrev pub infinity : Float
infinity = over one F32.zero

-- "time is from 0 to 2^32"
abbrev pub is_time_outside : Float → Bool
is_time_outside t = not (le no_time t && le t (from_bits binary64 0x41f0_0000_0000_0000))

-- 3: "A number outside an ignored option is not finite or exceeds 1,048,576 in magnitude (`max_size` and points per second may be
-- +infinity; time is from 0 to 2^32)"
unfoldable pub shows3 : Row → Float → Float → Bool
shows3 r x time =
    (r.how == At.number && exceeds_limit x)
    || (r.how == At.number_or_infinity && exceeds_limit x && ne x infinity)
    || (r.how == At.time_high && is_time_outside time)

-- 4: "A rectangle, bounds, duration or target range has its end below its start, a size, length, width, margin or dt is negative ..,
-- or a bar or hover factor is outside 0 to 1"
unfoldable pub shows4 : Row → Float → Float → Bool
shows4 r x start =
    (not (r.start == 0) && lt x start)
    || (r.bound == At.not_negative && lt x F32.zero)
    || (r.bound == At.from_zero_to_one && not (le F32.zero x && le x one))

-- 5: "`decay_time` is outside 1/1,024 to 1,024, `stop_distance` is negative, or points per second is not above 0"
unfoldable pub shows5 : Row → Float → Bool
shows5 r x =
    (r.bound == At.decay_time && is_decay_time_outside x)
    || (r.bound == At.stop_distance && lt x F32.zero)
    || (r.bound == At.above_zero && not (lt F32.zero x))

-- word n, whose row is r, shows the number k
unfoldable pub is_shown : ℕ → List ℕ → ℕ → Row → Bool
is_shown k s n r =
    cond (k == 2) (shows2 r (word_no s n))
    (cond (k == 3) (shows3 r (number_no s n) (time_no s (n - 1)))
    (cond (k == 4) (shows4 r (number_no s n) (number_no s r.start))
    (shows5 r (number_no s n))))

unfoldable pub shows_no : ℕ → List ℕ → ℕ → Bool
shows_no k s n = let r = row_no n in is_heeded s r && is_shown k s n r

-- one of the first n words shows the number k
unfoldable pub any_shows : ℕ → List ℕ → ℕ → Bool
any_shows k s zero = false
any_shows k s (suc n) = any_shows k s n || shows_no k s (suc n)

-- the lowest of 2 to 5 that is shown, or 0
abbrev pub lowest_where : Bool → Bool → Bool → Bool → ℕ
lowest_where two three four five = cond two 2 (cond three 3 (cond four 4 (cond five 5 0)))

-- 1: "The frame bytes are not exactly 416 long", and then 2 to 5, each tried on the whole frame before the next
unfoldable pub frame_refusal : List ℕ → ℕ
frame_refusal s =
    cond (not (length s == 416)) 1
    (cond (any_shows 2 s 104) 2
    (cond (any_shows 3 s 104) 3
    (cond (any_shows 4 s 104) 4
    (cond (any_shows 5 s 104) 5 0))))

-- 6: "A number in the given state is not finite"; an absent option holds none
unfoldable pub is_pair_finite : List Float → Bool
is_pair_finite v = is_finite (num v 0) && is_finite (num v 1)

abbrev pub is_span_finite : ScrollingToTarget → Bool
is_span_finite t = is_finite t.start && is_finite t.end && is_finite t.target_offset

unfoldable pub are_targets_finite : List (Option ScrollingToTarget) → Bool
are_targets_finite t = option_finite is_span_finite (slice_index_or t 0 None) && option_finite is_span_finite (slice_index_or t 1 None)

unfoldable pub are_presses_finite : List (Option Float) → Bool
are_presses_finite p = option_finite is_finite (slice_index_or p 0 None) && option_finite is_finite (slice_index_or p 1 None)

unfoldable pub is_rect_finite : Option Rect → Bool
is_rect_finite r = option_finite rect_finite r

unfoldable pub is_state_finite : State → Bool
is_state_finite s =
    is_pair_finite s.offset
    && is_pair_finite s.max_offset
    && are_targets_finite s.offset_target
    && is_pair_finite s.vel
    && are_presses_finite s.scroll_start_offset_from_top_left
    && is_rect_finite s.interact_rect
    && is_finite s.remembered_time

unfoldable pub state_refusal : State → ℕ
state_refusal s = cond (is_state_finite s) 0 6

-- the lowest of 1 to 6 that applies, or 0
unfoldable pub refusal_of : List ℕ → State → ℕ
refusal_of s state = cond (frame_refusal s == 0) (state_refusal state) (frame_refusal s)

-- document 02's 12, "after 6 .. and before 7": the first that applies of 1 to 6 and 12, or 0
unfoldable pub refusal_before7 : List ℕ → State → ℕ
refusal_before7 s state = cond (refusal_of s state == 0) (clock_refusal s state) (refusal_of s state)
