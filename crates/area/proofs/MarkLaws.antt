-- What a word's bits tell at once of the numbers that it shows. Assumes nothing.
use Rattle.std.specs.Prelude.{◌≡◌, ℕ, ◌%◌, ◌^◌, ◌<◌, ◌≤◌, Bool, true, false, not, ◌&&◌, ◌==◌, eqb, leb}
use mathlib.Core.Path.{refl, sym, ap, ◌∙◌}
use native.Mathlib.Omega.{arith}
use lib.Ieee.{binary32, of_bits, to_bits, lt, le, ne, eq, div}
use borrow.Author.Tests.{eqb-false, leb-true, le-ltb, ne_eqb}
use Rattle.numbers.specs.F32 as F32
use Rattle.numbers.specs.Scalar.{is_finite}
use Rattle.numbers.proofs.NegativeLaws.{word_below_zero}
use Rattle.axis.specs.Limits.{exceeds_limit}
use Rattle.axis.proofs.WordLaws.{word_outside}
use Rattle.area.specs.Layout.{size_or_infinity, points_per_second, size}
use Rattle.area.specs.Checks.{infinity, shows2, shows3, shows4, shows5}
use Rattle.refusals.specs.Refusal.{number_of}
use Rattle.refusals.specs.declared.Refusal.{Refusal}
use Rattle.area.specs.declared.marks.shown.Shown.{Shown}
use Rattle.area.specs.Marks.{mark_of, shown_of}
use Rattle.numbers.proofs.TestLaws.{or_false, and_true}
use Rattle.area.proofs.InfinityLaws.{word_not_infinity}

-- at most the limit, a pattern is that of a number from 0 to it
pub fits_limit : (w : ℕ) → leb w 0x4980_0000 ≡ true → (exceeds_limit (of_bits binary32 w) ≡ false) × (lt (of_bits binary32 w) F32.zero ≡ false)
fits_limit w fits =
    let l = leb-true w 0x4980_0000 fits in (
      sym (word_outside w) ∙ le-ltb 0x4980_0000 (w % 2 ^ 31) (omega (arith, l)),
      sym (word_below_zero w (omega (arith, l))) ∙ ap (λ (b : Bool). b && leb w 0xff80_0000) (le-ltb 0x8000_0000 w (omega (arith, l))),
    )

-- +infinity shows nothing where it may stand
pub infinite_size : shown_of size_or_infinity 0x7f80_0000 0 ≡ 0
unfolding shown_of shows2 shows3 shows4 shows5 exceeds_limit is_finite lt le ne eq div of_bits to_bits
infinite_size = refl

pub infinite_speed : shown_of points_per_second 0x7f80_0000 0 ≡ 0
unfolding shown_of shows2 shows3 shows4 shows5 exceeds_limit is_finite lt le ne eq div of_bits to_bits
infinite_speed = refl

-- any other pattern is not that of +infinity
pub finite : (w : ℕ) → w < 2 ^ 32 → eqb w 0x7f80_0000 ≡ false → ne (of_bits binary32 w) infinity ≡ true
finite w fits e = sym (word_not_infinity w fits) ∙ ap not e

pub finite_size : (w : ℕ) → w < 2 ^ 32 → eqb w 0x7f80_0000 ≡ false → shown_of size_or_infinity w 0 ≡ shown_of size w 0
unfolding shown_of shows2 shows3 shows4 shows5
finite_size w fits e = rw (finite w fits e) (simp (or_false, and_true) refl)

-- no refusal has the number 0, and none a number above 15
pub some_number : (r : Refusal) → number_of r == 0 ≡ false
some_number Refusal.FrameLength = refl
some_number Refusal.FlagOrKind = refl
some_number Refusal.Exceeds = refl
some_number Refusal.Outside = refl
some_number Refusal.Style = refl
some_number Refusal.State = refl
some_number Refusal.PressBlocked = refl
some_number Refusal.Outcome = refl
some_number Refusal.Run = refl
some_number Refusal.TableLength = refl
some_number Refusal.TableOrder = refl
some_number Refusal.Clock = refl
some_number Refusal.NoDrawer = refl
some_number Refusal.NoEntry = refl
some_number Refusal.DrawerFull = refl

-- so that no mark of a word that shows one is 0
pub some_mark : (m : Shown) → mark_of m == 0 ≡ false
some_mark m = ne_eqb (mark_of m) 0 (λ z. eqb-false (number_of m.refusal) 0 (some_number m.refusal) (omega (arith, z)))

pub at_most_15 : (r : Refusal) → number_of r ≤ 15
at_most_15 Refusal.FrameLength = omega arith
at_most_15 Refusal.FlagOrKind = omega arith
at_most_15 Refusal.Exceeds = omega arith
at_most_15 Refusal.Outside = omega arith
at_most_15 Refusal.Style = omega arith
at_most_15 Refusal.State = omega arith
at_most_15 Refusal.PressBlocked = omega arith
at_most_15 Refusal.Outcome = omega arith
at_most_15 Refusal.Run = omega arith
at_most_15 Refusal.TableLength = omega arith
at_most_15 Refusal.TableOrder = omega arith
at_most_15 Refusal.Clock = omega arith
at_most_15 Refusal.NoDrawer = omega arith
at_most_15 Refusal.NoEntry = omega arith
at_most_15 Refusal.DrawerFull = omega arith
