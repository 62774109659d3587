-- The order of finite numbers, the clamp to the range of offsets, and the list's end. Assumes nothing.
use Rattle.std.specs.Prelude.{◌≡◌, Bool, true, false, cond, ◌||◌}
use mathlib.Core.Path.{refl, sym, ap, ◌∙◌}
use mathlib.Core.Bool.{true≢false}
use lib.Ieee.{Float, of_bits, lt, le, eq}
use lib.Ieee.Bits.{is_true}
use Rattle.numbers.specs.F32.{zero}
use Rattle.numbers.specs.Scalar.{max_of, is_finite}
use Rattle.numbers.specs.Range.{clamp_of}
use Rattle.axis.specs.Physics.{scroll_bounds_of}
use Rattle.area.specs.State.{clamped_to}
use Rattle.numbers.proofs.WithinLaws as Numbers
use Rattle.numbers.proofs.ClampLaws as Clamp
use Rattle.numbers.proofs.ClampLaws.{finite_number, clamp_number, clamp_between}
use Rattle.numbers.proofs.TestLaws.{or_left, or_right, chosen}

-- ---- of finite numbers
pub of_not_below : (x y : Float) → is_finite x ≡ true → is_finite y ≡ true → lt x y ≡ false → le y x ≡ true
of_not_below x y p q h = Clamp.of_not_below x y (finite_number x p) (finite_number y q) h

pub equals_itself : (x : Float) → is_finite x ≡ true → eq x x ≡ true
equals_itself x p = Clamp.equals_itself x (finite_number x p)

pub at_most_itself : (x : Float) → is_finite x ≡ true → le x x ≡ true
at_most_itself x p = Clamp.at_most_itself x (finite_number x p)

of_below : (x y : Float) → lt x y ≡ true → le x y ≡ true
of_below x y h = is_true (le x y) (Numbers.le_of_lt x y h)

-- neither is below the other
of_neither : (x y : Float) → is_finite x ≡ true → is_finite y ≡ true → lt x y ≡ false → lt y x ≡ false → eq y x ≡ true
unfolding le
of_neither x y p q h k = ap (λ (t : Bool). t || eq y x) (sym k) ∙ of_not_below x y p q h

not_both_below : (x y : Float) → lt x y ≡ true → lt y x ≡ false
not_both_below x y h = Numbers.not_below x y (Numbers.le_of_lt x y h)

zero_finite : is_finite zero ≡ true
unfolding is_finite of_bits
zero_finite = refl

-- ---- the range from 0 to the larger of 0 and the maximum offset
abbrev pub IsWithin : Float → Float → Type 0
IsWithin offset max_offset = (le zero offset ≡ true) × (le offset (max_of max_offset zero) ≡ true)

pub range_ordered : (max_offset : Float) → le zero (max_of max_offset zero) ≡ true
unfolding max_of
range_ordered max_offset =
    chosen (λ (x : Float). le zero x ≡ true) (lt zero max_offset) max_offset zero (of_below zero max_offset) (λ h. at_most_itself zero zero_finite)

-- an offset that is clamped and finite lies there
pub clamped_within : (offset max_offset : Float) → is_finite (clamped_to offset max_offset) ≡ true → IsWithin (clamped_to offset max_offset) max_offset
unfolding clamped_to scroll_bounds_of
clamped_within offset max_offset n =
    clamp_between offset zero (max_of max_offset zero) (clamp_number offset zero (max_of max_offset zero) n) (range_ordered max_offset)

-- ---- where the clamp puts the maximum offset: 0 if it is below 0, else itself, a zero of either sign too
abbrev pub end_at : Float → Float
end_at max_offset = cond (lt max_offset zero) zero max_offset

same_arms : (t : Bool) (x : Float) → cond t x x ≡ x
same_arms true x = refl
same_arms false x = refl

clamps_at : (max_offset : Float) (below above : Bool) → lt zero max_offset ≡ above
    → cond below zero (cond (lt (cond above max_offset zero) max_offset) (cond above max_offset zero) max_offset) ≡ cond below zero max_offset
clamps_at max_offset true above h = refl
clamps_at max_offset false true h = same_arms (lt max_offset max_offset) max_offset
clamps_at max_offset false false h = ap (λ (t : Bool). cond t zero max_offset) h

pub clamps_to_end : (max_offset : Float) → clamped_to max_offset max_offset ≡ end_at max_offset
unfolding clamped_to scroll_bounds_of clamp_of max_of
clamps_to_end max_offset = clamps_at max_offset (lt max_offset zero) (lt zero max_offset) refl

clamps_zero : (max_offset : Float) → lt zero max_offset ≡ false → clamped_to zero max_offset ≡ zero
unfolding clamped_to scroll_bounds_of clamp_of max_of
clamps_zero max_offset h =
    ap (λ (t : Bool). cond (lt zero zero) zero (cond (lt (cond t max_offset zero) zero) (cond t max_offset zero) zero)) h
    ∙ ap (cond (lt zero zero) zero) (same_arms (lt zero zero) zero)
    ∙ same_arms (lt zero zero) zero

pub clamp_keeps_end : (max_offset : Float) → is_finite max_offset ≡ true → clamped_to (end_at max_offset) max_offset ≡ end_at max_offset
clamp_keeps_end max_offset p = go (lt max_offset zero) refl
  where
    go : (t : Bool) → lt max_offset zero ≡ t → clamped_to (cond t zero max_offset) max_offset ≡ cond t zero max_offset
    go true h = clamps_zero max_offset (not_both_below max_offset zero h)
    go false h = clamps_to_end max_offset ∙ ap (λ (t : Bool). cond t zero max_offset) h

-- it compares equal to the list's end
pub end_is_larger : (max_offset : Float) → is_finite max_offset ≡ true → eq (end_at max_offset) (max_of max_offset zero) ≡ true
unfolding max_of
end_is_larger max_offset p = go (lt max_offset zero) (lt zero max_offset) refl refl
  where
    go : (below above : Bool) → lt max_offset zero ≡ below → lt zero max_offset ≡ above
        → eq (cond below zero max_offset) (cond above max_offset zero) ≡ true
    go true true h k = absurd (true≢false (sym k ∙ not_both_below max_offset zero h))
    go true false h k = equals_itself zero zero_finite
    go false true h k = equals_itself max_offset p
    go false false h k = of_neither zero max_offset zero_finite p k h

-- and counts as the end where the stuck flag is set
pub end_sticks : (max_offset : Float) → is_finite max_offset ≡ true → (eq (end_at max_offset) max_offset || lt max_offset zero) ≡ true
end_sticks max_offset p = go (lt max_offset zero)
  where
    go : (t : Bool) → (eq (cond t zero max_offset) max_offset || t) ≡ true
    go true = or_right (eq zero max_offset) true refl
    go false = or_left (eq max_offset max_offset) false (equals_itself max_offset p)
