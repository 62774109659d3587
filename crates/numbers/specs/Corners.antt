-- Document 01, "Beginning a frame": the corners of interpolation_factor, whose formula has no case for them.
use Rattle.std.specs.Prelude.{◌≡◌, true, false, T, refl, Float}
use Rattle.std.specs.Float.{binary32, binary64}
use Rattle.std.specs.Float.Ieee.{of_bits, neg, sub, mul, div, lt, le, eq, fits}
use Rattle.numbers.specs.F32.{zero, one}
use Rattle.numbers.specs.Scalar.{sign_bit, is_finite}
use Rattle.numbers.specs.Range.{clamp_of}
use Rattle.numbers.specs.Convert.{narrow_of}
use Rattle.numbers.specs.Blend.{lerp_of, ease_of, interpolation_factor_of}

-- "the differences .. read as narrowed": since the start up to the end, a span's length, and up to a time
abbrev pub since_of : Float → Float → Float
since_of start time = narrow_of (sub binary64 time start)

-- "a zero-length span from its start on gives factor 1" (proofs/FactorLaws.antt, as what follows unless said)
abbrev pub ZeroLengthGives1 : Type 0
ZeroLengthGives1 = (start end time dt : Float) → since_of start end ≡ zero → lt (since_of start time) zero ≡ false →
    interpolation_factor_of start end time dt ≡ one

-- such a span is one that ends where it starts
abbrev pub NoSpanGives1 : Type 0
NoSpanGives1 = (start time dt : Float) → is_finite start ≡ true → lt (since_of start time) zero ≡ false →
    interpolation_factor_of start start time dt ≡ one

-- "time before the start", of a time that is an f64 and a dt that is not below 0; of "the differences" only the length has to be finite
pub record IsBeforeStart (start end time dt : Float) : Type 0 where
  pub held : T (fits binary64 time)
  pub onward : le zero dt ≡ true
  pub finite : is_finite (since_of start end) ≡ true
  pub forward : sign_bit (since_of start end) ≡ false
  pub before : lt (since_of start time) zero ≡ true

-- it "gives factor 0"
abbrev pub BeforeStartGives0 : Type 0
BeforeStartGives0 = (start end time dt : Float) → IsBeforeStart start end time dt → interpolation_factor_of start end time dt ≡ zero

-- by which an f32 moves nowhere towards a finite goal (proofs/LerpLaws.antt)
abbrev pub LerpBy0Stays : Type 0
LerpBy0Stays = (a b : Float) → T (fits binary32 a) → is_finite a ≡ true → is_finite b ≡ true → eq (lerp_of a b zero) a ≡ true

-- the sign bit is clear where the start is before the end
abbrev pub StartBeforeEndIsForward : Type 0
StartBeforeEndIsForward = (start end : Float) → lt start end ≡ true → sign_bit (since_of start end) ≡ false

-- a length of -0 turns the quotient's sign round, so neither sentence holds of it: at 1 the factor is 0, at -1 it is 1
pub length_minus_0 :
    (since_of zero (neg zero) ≡ neg zero)
    × (interpolation_factor_of zero (neg zero) one zero ≡ zero)
    × (interpolation_factor_of zero (neg zero) (neg one) zero ≡ one)
unfolding interpolation_factor_of ease_of clamp_of narrow_of of_bits neg sub mul div lt
length_minus_0 = (refl, refl, refl)
