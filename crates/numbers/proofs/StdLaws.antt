-- The definitions of the document are what the clauses of std's methods on floats say. Assumes nothing.
use mathlib.Core.Bool.{false≢true}
use Rattle.std.proofs.Common.{◌≡◌, ℕ, ◌+◌, ◌-◌, ◌*◌, ◌/◌, ◌<◌, arith, Bool, true, false, pos, refl, sym, ap}
use Rattle.std.specs.Int.{from_bool}
use Rattle.std.specs.Float.{float_with_sign, float_is_finite, is_sign_negative, round_with, ceil, round_to_format}
use lib.Ieee.{Float, nan, inf, fin, binary32, is_nan, up, down, round, of_int}
use lib.Ieee.Fits.{down_pos}
use Rattle.numbers.specs.F32.{zero_is, one_is}
use Rattle.numbers.specs.Scalar.{sign_bit, with_sign, flag_of, is_finite}
use Rattle.numbers.specs.Convert.{ceil_of, narrow_of}

pub sign_is : (x : Float) → is_sign_negative x ≡ sign_bit x
unfolding is_sign_negative
sign_is nan = refl
sign_is (inf s) = refl
sign_is (fin s m e) = refl

pub nan_clear : (x : Float) → is_nan x ≡ true → sign_bit x ≡ false
unfolding is_nan
nan_clear nan h = refl
nan_clear (inf s) h = absurd (false≢true h)
nan_clear (fin s m e) h = absurd (false≢true h)

pub with_sign_is : (s : Bool) (x : Float) → float_with_sign s x ≡ with_sign s x
unfolding float_with_sign
with_sign_is s nan = refl
with_sign_is s (inf t) = refl
with_sign_is s (fin t m e) = refl

pub flag_is : (flag : Bool) → of_int binary32 (pos (from_bool flag)) ≡ flag_of flag
unfolding flag_of
flag_is true = sym one_is
flag_is false = sym zero_is

pub finite_is : (x : Float) → float_is_finite x ≡ is_finite x
unfolding float_is_finite is_finite
finite_is nan = refl
finite_is (inf s) = refl
finite_is (fin s m e) = refl

up_is : (n d : ℕ) → 0 < d → (n + d - 1) / d ≡ (n + (d - 1)) / d
up_is n d h = ap (λ (a : ℕ). a / d) (omega arith)

pub ceil_is : (x : Float) → ceil binary32 x ≡ ceil_of x
unfolding ceil_of round_with
ceil_is nan = refl
ceil_is (inf s) = refl
ceil_is (fin true m e) = refl
ceil_is (fin false m e) = ap (λ (n : ℕ). round binary32 false n 1) (up_is (m * up e) (down e) (down_pos e))

pub narrow_is : (x : Float) → round_to_format binary32 x ≡ narrow_of x
unfolding round_to_format narrow_of
narrow_is nan = refl
narrow_is (inf s) = refl
narrow_is (fin s m e) = refl

pub ruleset floats = (sign_is, nan_clear, with_sign_is, flag_is, finite_is, ceil_is, narrow_is)
