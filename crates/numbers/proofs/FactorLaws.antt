-- The corners of interpolation_factor. Assumes nothing.
use Rattle.std.proofs.Common.{◌≡◌, ℕ, zero, suc, ◌+◌, ◌-◌, ◌*◌, ◌^◌, ◌<◌, ◌≤◌, Bool, true, false, cond, not, T, ltb, ℤ, sym, refl, ap, ◌∙◌, subst, inl, inr, true≢false, le_refl, zero-lt-suc, mul-pos, arith, pow_pos, ltb-false, ltb-true, le-ltb, lt-ltb}
use mathlib.Core.Bool.{false≢true}
use lib.Dec.{eqb-suc-zero}
use lib.Ieee.{Float, Format, nan, inf, fin, binary32, binary64, up, down, odd, units, round, sum, add, sub, neg, mul, div, below, lt, le, fits, of_bits}
use lib.Ieee.Fits.{up_pos, down_pos, round_is}
use lib.Ieee.Exact.{odd_sign}
use Rattle.numbers.specs.F32 as F32
use Rattle.numbers.specs.Scalar.{sign_bit, is_finite}
use Rattle.numbers.specs.Range.{clamp_of}
use Rattle.numbers.specs.Convert.{narrow_of}
use Rattle.numbers.specs.Blend.{ease_of, interpolation_factor_of}
use Rattle.numbers.specs.Corners.{since_of, ZeroLengthGives1, NoSpanGives1, BeforeStartGives0, StartBeforeEndIsForward}
use Rattle.numbers.proofs.NegativeLaws.{by_size}
use Rattle.numbers.proofs.HeldLaws.{round_0}
use Rattle.numbers.proofs.MonotoneLaws.{above, beneath, IsSigned, IsRounded, round_signed, sum_rounded, narrow_mono, sub_mono, sub_less, still_below}

-- ---- a zero-length span

abbrev NotBelow1 : Float → Type 0
NotBelow1 x = lt (ease_of x) F32.one ≡ false

past_1 : NotBelow1 (inf false)
unfolding ease_of clamp_of mul sub lt of_bits
past_1 = refl

no_number : NotBelow1 nan
unfolding ease_of clamp_of mul sub lt of_bits
no_number = refl

none : (a d : ℕ) → 0 < a → a * 1 + 0 * 1 * d ≤ 0 → ⊥
none a d p h = omega arith

from_start_on : (x : Float) → lt x F32.zero ≡ false → NotBelow1 (div binary32 x F32.zero)
unfolding div lt of_bits
from_start_on nan h = no_number
from_start_on (inf true) h = absurd (true≢false h)
from_start_on (inf false) h = past_1
from_start_on (fin s zero e) h = no_number
from_start_on (fin true (suc m) e) h =
    absurd (none (suc m * up e) (down e) (mul-pos (zero-lt-suc m) (up_pos e)) (ltb-false 0 (suc m * up e * 1 + 0 * 1 * down e) h))
from_start_on (fin false (suc m) e) h = rw (eqb-suc-zero m) past_1

pub zero_length_gives_1 : ZeroLengthGives1
unfolding interpolation_factor_of
zero_length_gives_1 start end time dt h k = rw (h, from_start_on (since_of start time) k)

-- ---- a span that ends where it starts

itself : (s : Bool) (a c : ℕ) → 0 < c → sum binary64 s a (not s) a c ≡ F32.zero
unfolding sum of_bits
itself true a c p = rw (le-ltb a a (le_refl a)) (round_0 binary64 false (a - a) c (omega arith) p)
itself false a c p = rw (le-ltb a a (le_refl a)) (round_0 binary64 false (a - a) c (omega arith) p)

difference_0 : (x : Float) → is_finite x ≡ true → sub binary64 x x ≡ F32.zero
unfolding is_finite sub add neg
difference_0 nan h = absurd (false≢true h)
difference_0 (inf s) h = absurd (false≢true h)
difference_0 (fin s m e) h = itself s (m * up e * down e) (down e * down e) (mul-pos (down_pos e) (down_pos e))

length_0 : (start : Float) → is_finite start ≡ true → since_of start start ≡ F32.zero
unfolding narrow_of of_bits
length_0 start h = ap narrow_of (difference_0 start h)

pub no_span_gives_1 : NoSpanGives1
no_span_gives_1 start time dt h = zero_length_gives_1 start start time dt (length_0 start h)

-- ---- time before the start

below_0 : (x : Float) → lt x F32.zero ≡ true → ease_of x ≡ F32.zero
unfolding ease_of clamp_of mul sub lt of_bits
below_0 x h = rw h

ease_infinite : ease_of (inf true) ≡ F32.zero
unfolding ease_of clamp_of mul sub lt of_bits
ease_infinite = refl

ease_odd : (q k : ℕ) → ease_of (odd 25 true q k 149) ≡ F32.zero
unfolding odd ease_of clamp_of mul sub lt of_bits
ease_odd zero k = refl
ease_odd (suc q) k =
    below_0 (odd 25 true (suc q) k 149)
    (by_size (odd 25 true (suc q) k 149) true (suc q * 2 ^ k) (odd_sign 25 true (suc q) k 149) ∙ lt-ltb 0 (suc q * 2 ^ k) (mul-pos (zero-lt-suc q) (pow_pos k)))

ease_units : (q k : ℕ) → ease_of (units binary32 true q k) ≡ F32.zero
unfolding units
ease_units q k = go (ltb (q * 2 ^ k) (2 ^ (149 + 128)))
  where
    go : (b : Bool) → ease_of (cond b (odd 25 true q k 149) (inf true)) ≡ F32.zero
    go true = ease_odd q k
    go false = ease_infinite

ease_round : (a c : ℕ) → ease_of (round binary32 true a c) ≡ F32.zero
ease_round a c = ap ease_of (round_is binary32 true a c) ∙ ease_units _ _

no_less : (a d : ℕ) → a * 1 < 0 * 1 * d → ⊥
no_less a d h = omega arith

no_zero : (u d : ℕ) → 0 < 0 * u * 1 + 0 * 1 * d → ⊥
no_zero u d h = omega arith

ease_over : (x : Float) (n : ℕ) (d : ℤ) → lt x F32.zero ≡ true → ease_of (div binary32 x (fin false n d)) ≡ F32.zero
unfolding div lt of_bits
ease_over nan n d h = absurd (false≢true h)
ease_over (inf true) n d h = ease_infinite
ease_over (inf false) n d h = absurd (false≢true h)
ease_over (fin false m e) n d h = absurd (no_less (m * up e) (down e) (ltb-true (m * up e * 1) (0 * 1 * down e) h))
ease_over (fin true zero e) n d h = absurd (no_zero (up e) (down e) (ltb-true 0 (0 * up e * 1 + 0 * 1 * down e) h))
ease_over (fin true (suc m) e) zero d h = rw (eqb-suc-zero m) ease_infinite
ease_over (fin true (suc m) e) (suc n) d h = rw (eqb-suc-zero n) (ease_round (suc m * up e * down d) (suc n * up d * down e))

ease_before : (x length : Float) → is_finite length ≡ true → sign_bit length ≡ false → lt x F32.zero ≡ true → ease_of (div binary32 x length) ≡ F32.zero
unfolding is_finite
ease_before x nan p q h = absurd (false≢true p)
ease_before x (inf s) p q h = absurd (false≢true p)
ease_before x (fin true n d) p q h = absurd (true≢false q)
ease_before x (fin false n d) p q h = ease_over x n d h

start_finite : (start end : Float) → is_finite (since_of start end) ≡ true → is_finite start ≡ true
unfolding is_finite narrow_of sub add neg
start_finite (fin s m e) end h = refl
start_finite nan nan h = h
start_finite nan (inf t) h = h
start_finite nan (fin t n d) h = h
start_finite (inf s) nan h = h
start_finite (inf true) (inf true) h = h
start_finite (inf true) (inf false) h = h
start_finite (inf false) (inf true) h = h
start_finite (inf false) (inf false) h = h
start_finite (inf s) (fin t n d) h = h

not_at_end : (start time : Float) → is_finite start ≡ true → lt (since_of start time) F32.zero ≡ true → lt time (inf false) ≡ true
unfolding is_finite narrow_of sub add neg lt of_bits
not_at_end nan time p h = absurd (false≢true p)
not_at_end (inf s) time p h = absurd (false≢true p)
not_at_end (fin s m e) nan p h = h
not_at_end (fin s m e) (inf true) p h = refl
not_at_end (fin s m e) (inf false) p h = h
not_at_end (fin s m e) (fin t n d) p h = refl

-- what has elapsed is below 0 a dt before too
earlier : (start time dt : Float) → T (fits binary64 time) → le F32.zero dt ≡ true → is_finite start ≡ true → lt (since_of start time) F32.zero ≡ true
    → lt (since_of start (sub binary64 time dt)) F32.zero ≡ true
earlier start time dt t d f h =
    still_below _ (since_of start time)
    (narrow_mono _ _ (sub_mono binary64 _ time start f (sub_less binary64 time dt t (not_at_end start time f h) (subst T (sym d) tt)))) h

pub before_start_gives_0 : BeforeStartGives0
unfolding interpolation_factor_of div sub lt of_bits
before_start_gives_0 start end time dt b =
    let f = start_finite start end b.finite in
    rw (
      ease_before (since_of start time) (since_of start end) b.finite b.forward b.before,
      ease_before (since_of start (sub binary64 time dt)) (since_of start end) b.finite b.forward
          (earlier start time dt b.held b.onward f b.before),
    )

-- ---- a start before the end

narrow_forward : (x : Float) → IsSigned false x → sign_bit (narrow_of x) ≡ false
unfolding narrow_of
narrow_forward nan h = absurd h
narrow_forward (inf s) h = h
narrow_forward (fin true m e) h = absurd (true≢false h)
narrow_forward (fin false m e) h = sign (round binary32 false (m * up e) (down e)) (round_signed binary32 false (m * up e) (down e))
  where
    sign : (x : Float) → IsSigned false x → sign_bit x ≡ false
    sign nan h = absurd h
    sign (inf s) h = h
    sign (fin s m e) h = h

forward : (f : Format) (p n c : ℕ) (x : Float) → n < p → IsRounded f p n c x → IsSigned false x
forward f p n c x h (inl (k, i)) = absurd (clash p n h k)
  where
    clash : (p n : ℕ) → n < p → p ≤ n → ⊥
    clash p n h k = omega arith
forward f p n c x h (inr (k, i)) = subst (IsSigned false) (sym i) (round_signed f false (p - n) c)

ahead : (s t : Bool) (a b : ℕ) → below s a t b ≡ true → beneath t b + beneath (not s) a < above t b + above (not s) a
ahead false false a b h = let l = ltb-true a b h in omega arith
ahead false true a b h = absurd (false≢true h)
ahead true false a b h = let l = ltb-true 0 (a + b) h in omega arith
ahead true true a b h = let l = ltb-true b a h in omega arith

pub start_before_end_is_forward : StartBeforeEndIsForward
unfolding lt sub add neg narrow_of
start_before_end_is_forward nan end h = absurd (false≢true h)
start_before_end_is_forward (inf s) nan h = absurd (false≢true h)
start_before_end_is_forward (inf true) (inf true) h = absurd (false≢true h)
start_before_end_is_forward (inf true) (inf false) h = refl
start_before_end_is_forward (inf false) (inf t) h = absurd (false≢true h)
start_before_end_is_forward (inf true) (fin t n d) h = refl
start_before_end_is_forward (inf false) (fin t n d) h = absurd (false≢true h)
start_before_end_is_forward (fin s m e) nan h = absurd (false≢true h)
start_before_end_is_forward (fin s m e) (inf true) h = absurd (false≢true h)
start_before_end_is_forward (fin s m e) (inf false) h = refl
start_before_end_is_forward (fin s m e) (fin t n d) h =
    let a = m * up e * down d in
    let b = n * up d * down e in
    narrow_forward (sum binary64 t b (not s) a (down d * down e))
    (forward binary64 _ _ (down d * down e) _ (ahead s t a b h) (sum_rounded binary64 t b (not s) a (down d * down e)))
