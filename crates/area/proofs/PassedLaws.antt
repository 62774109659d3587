-- What a frame that no check turns back tells of its numbers. Assumes nothing.
use Rattle.std.specs.Prelude.{◌≡◌, ℕ, zero, suc, ◌+◌, ◌<◌, ◌≤◌, Bool, true, false, cond, not, ◌||◌, eqb, List, length}
use mathlib.Core.Path.{refl, ap, ◌∙◌}
use mathlib.Core.Logic.{inl, inr}
use native.Mathlib.Nat.{eq-or-lt_of_le}
use native.Mathlib.Omega.{arith}
use lib.Ieee.{Float, binary64, of_bits, lt, le}
use lib.Ieee.Bits.{of_bits-fits}
use Rattle.numbers.specs.F32 as F32
use Rattle.numbers.specs.Scalar.{min_of, is_finite}
use Rattle.axis.specs.Limits.{exceeds_limit}
use Rattle.axis.proofs.LimitLaws.{within_limit}
use Rattle.area.specs.Layout as At
use Rattle.area.specs.Layout.{layout, rows, row_at, row_no}
use Rattle.area.specs.Frame.{number_no, time_no, host_of, frame_of}
use Rattle.area.specs.Checks.{is_heeded, is_time_outside, shows3, shows4, is_shown, shows_no, any_shows, frame_refusal, state_refusal, refusal_of}
use Rattle.area.specs.Begin.{tenth, dt_of}
use Rattle.area.specs.Corners.{FrameTimesHold}
use Rattle.area.specs.declared.state.State.{State}
use Rattle.numbers.proofs.TestLaws.{not_left, not_right, either, both_zero}
use Rattle.area.proofs.OrderLaws.{of_not_below}

-- ---- none of checks 2 to 5 has shown
pub none_shows : (k : ℕ) (s : List ℕ) (n m : ℕ) → any_shows k s n ≡ false → m < n → shows_no k s (suc m) ≡ false
unfolding any_shows
none_shows k s zero m h l = absurd (omega arith)
none_shows k s (suc n) m h l =
    let at_most : m ≤ n = omega arith in
    elim (eq-or-lt_of_le at_most) [
      | inl e ↦ ap (λ (i : ℕ). shows_no k s (suc i)) e ∙ not_right (any_shows k s n) (shows_no k s (suc n)) h
      | inr b ↦ none_shows k s n m (not_left (any_shows k s n) (shows_no k s (suc n)) h) b
    ]

abbrev pub first_of : Bool → Bool → Bool → Bool → Bool → ℕ
first_of long two three four five = cond (not long) 1 (cond two 2 (cond three 3 (cond four 4 (cond five 5 0))))

none_first : (long two three four five : Bool) → first_of long two three four five ≡ 0
    → (two ≡ false) × (three ≡ false) × (four ≡ false) × (five ≡ false)
none_first false a b c d h = absurd (omega (arith, h))
none_first true true b c d h = absurd (omega (arith, h))
none_first true false true c d h = absurd (omega (arith, h))
none_first true false false true d h = absurd (omega (arith, h))
none_first true false false false true h = absurd (omega (arith, h))
none_first true false false false false h = (refl, refl, refl, refl)

-- of a frame that no check turns back, and of the state
pub unrefused : (bytes : List ℕ) (S : State) → refusal_of bytes S ≡ 0 → (frame_refusal bytes ≡ 0) × (state_refusal S ≡ 0)
unfolding refusal_of
unrefused bytes S h = both_zero (frame_refusal bytes) (state_refusal S) _ refl h

-- none of 2 to 5
pub unshown : (bytes : List ℕ) → frame_refusal bytes ≡ 0
    → (any_shows 2 bytes 104 ≡ false) × (any_shows 3 bytes 104 ≡ false) × (any_shows 4 bytes 104 ≡ false) × (any_shows 5 bytes 104 ≡ false)
unfolding frame_refusal
unshown bytes h = none_first (eqb (length bytes) 416) (any_shows 2 bytes 104) (any_shows 3 bytes 104) (any_shows 4 bytes 104) (any_shows 5 bytes 104) h

-- check 3 of a row that asks for a number, outside any option
limited_row : (x : Float) → (exceeds_limit x || false || false) ≡ false → exceeds_limit x ≡ false
limited_row x h = not_left (exceeds_limit x) false (not_left (exceeds_limit x || false) false h)

number_row : (x : Float) → (exceeds_limit x || false || false) ≡ false → is_finite x ≡ true
number_row x h = within_limit x (limited_row x h)

-- ---- the wheel's deltas and multipliers do not exceed the limit
pub record WheelLimited (bytes : List ℕ) : Type 0 where
  pub multiplier_x : exceeds_limit (number_no bytes At.wheel_scroll_multiplier) ≡ false
  pub multiplier_y : exceeds_limit (number_no bytes (At.wheel_scroll_multiplier + 1)) ≡ false
  pub delta_x : exceeds_limit (number_no bytes At.smooth_scroll_delta) ≡ false
  pub delta_y : exceeds_limit (number_no bytes (At.smooth_scroll_delta + 1)) ≡ false

pub wheel_limited : (bytes : List ℕ) → frame_refusal bytes ≡ 0 → WheelLimited bytes
unfolding shows_no is_heeded is_shown shows3 row_no row_at rows layout
wheel_limited bytes h =
    let third = (unshown bytes h).1 in record {
      multiplier_x = limited_row _ (none_shows 3 bytes 104 21 third (omega arith));
      multiplier_y = limited_row _ (none_shows 3 bytes 104 22 third (omega arith));
      delta_x = limited_row _ (none_shows 3 bytes 104 63 third (omega arith));
      delta_y = limited_row _ (none_shows 3 bytes 104 64 third (omega arith));
    }

-- the multipliers are finite
pub multiplier_finite : (bytes : List ℕ) (S : State) → refusal_of bytes S ≡ 0
    → (is_finite (number_no bytes At.wheel_scroll_multiplier) ≡ true) × (is_finite (number_no bytes (At.wheel_scroll_multiplier + 1)) ≡ true)
multiplier_finite bytes S h =
    let limited = wheel_limited bytes (unrefused bytes S h).0 in
    (within_limit _ limited.multiplier_x, within_limit _ limited.multiplier_y)

-- ---- the time is from 0 to 2^32
pub passed_time : (bytes : List ℕ) → frame_refusal bytes ≡ 0 → is_time_outside (time_no bytes At.time) ≡ false
unfolding shows_no is_heeded is_shown shows3 row_no row_at rows layout
passed_time bytes h = none_shows 3 bytes 104 52 (unshown bytes h).1 (omega arith)

-- ---- stable_dt is finite and not below 0, and so dt is not below 0
dt_finite : (bytes : List ℕ) (S : State) → refusal_of bytes S ≡ 0 → is_finite (number_no bytes At.stable_dt) ≡ true
unfolding shows_no is_heeded is_shown shows3 row_no row_at rows layout
dt_finite bytes S h = number_row _ (none_shows 3 bytes 104 50 (unshown bytes (unrefused bytes S h).0).1 (omega arith))

dt_not_negative : (bytes : List ℕ) (S : State) → refusal_of bytes S ≡ 0 → lt (number_no bytes At.stable_dt) F32.zero ≡ false
unfolding shows_no is_heeded is_shown shows4 row_no row_at rows layout
dt_not_negative bytes S h = not_left (lt (number_no bytes At.stable_dt) F32.zero) false (none_shows 4 bytes 104 50 (unshown bytes (unrefused bytes S h).0).2 (omega arith))

zero_finite : is_finite F32.zero ≡ true
unfolding is_finite of_bits
zero_finite = refl

tenth_not_below_0 : le F32.zero tenth ≡ true
unfolding le lt of_bits
tenth_not_below_0 = refl

smaller_not_below_0 : (x : Float) → is_finite x ≡ true → lt x F32.zero ≡ false → le F32.zero (dt_of x) ≡ true
unfolding dt_of min_of
smaller_not_below_0 x p h =
    either (λ (y : Float). le F32.zero y ≡ true) (lt x tenth) x tenth (of_not_below x F32.zero p zero_finite h) tenth_not_below_0

pub frame_times_hold : FrameTimesHold
unfolding frame_of host_of time_no
frame_times_hold S bytes h = (of_bits-fits binary64 _, smaller_not_below_0 _ (dt_finite bytes S h) (dt_not_negative bytes S h))
