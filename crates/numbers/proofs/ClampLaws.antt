-- Numbers, infinities among them: what two that compare are, and that a clamp to bounds in order puts every one inside. Assumes nothing.
use Rattle.std.proofs.Common.{◌≡◌, ℕ, ◌+◌, ◌-◌, ◌*◌, Bool, true, false, cond, ◌&&◌, eqb, ltb, refl, true≢false, eq-eqb}
use mathlib.Core.Bool.{beq, false≢true}
use lib.Ieee.{Float, Format, nan, inf, fin, up, down, round, sum, add, lt, le, eq, is_nan}
use lib.Ieee.Bits.{is_true}
use Rattle.numbers.specs.Scalar.{is_finite}
use Rattle.numbers.specs.Range.{clamp_of}
use Rattle.numbers.proofs.TestLaws.{or_right, and_both, either}
use Rattle.numbers.proofs.MonotoneLaws.{IsSigned, round_signed}
use Rattle.numbers.proofs.WithinLaws as Within

abbrev pub IsNumber : Float → Type 0
IsNumber x = is_nan x ≡ false

-- ---- what is a number
pub finite_number : (x : Float) → is_finite x ≡ true → IsNumber x
unfolding is_finite is_nan
finite_number nan h = absurd (false≢true h)
finite_number (inf s) h = refl
finite_number (fin s m e) h = refl

pub lesser_number : (x y : Float) → lt x y ≡ true → IsNumber x
unfolding lt is_nan
lesser_number nan y h = absurd (false≢true h)
lesser_number (inf s) y h = refl
lesser_number (fin s m e) y h = refl

pub greater_number : (x y : Float) → lt x y ≡ true → IsNumber y
unfolding lt is_nan
greater_number nan y h = absurd (false≢true h)
greater_number (inf s) nan h = absurd (false≢true h)
greater_number (inf s) (inf t) h = refl
greater_number (inf s) (fin t n d) h = refl
greater_number (fin s m e) nan h = absurd (false≢true h)
greater_number (fin s m e) (inf t) h = refl
greater_number (fin s m e) (fin t n d) h = refl

round_number : (f : Format) (s : Bool) (a c : ℕ) → IsNumber (round f s a c)
unfolding is_nan
round_number f s a c = signed s (round f s a c) (round_signed f s a c)
  where
    signed : (s : Bool) (x : Float) → IsSigned s x → IsNumber x
    signed s nan h = absurd h
    signed s (inf t) h = refl
    signed s (fin t m e) h = refl

sum_number : (f : Format) (s : Bool) (a : ℕ) (t : Bool) (b c : ℕ) → IsNumber (sum f s a t b c)
unfolding sum
sum_number f s a t b c =
    either IsNumber (beq s t) (round f s (a + b) c) (cond (ltb a b) (round f t (b - a) c) (round f (s && ltb b a) (a - b) c))
    (round_number f s (a + b) c)
    (either IsNumber (ltb a b) (round f t (b - a) c) (round f (s && ltb b a) (a - b) c) (round_number f t (b - a) c) (round_number f (s && ltb b a) (a - b) c))

-- a number and a finite one
pub add_number : (f : Format) (x y : Float) → IsNumber x → is_finite y ≡ true → IsNumber (add f x y)
unfolding add is_finite is_nan
add_number f nan y p q = absurd (true≢false p)
add_number f (inf s) nan p q = absurd (false≢true q)
add_number f (inf s) (inf t) p q = absurd (false≢true q)
add_number f (inf s) (fin t n d) p q = refl
add_number f (fin s m e) nan p q = absurd (false≢true q)
add_number f (fin s m e) (inf t) p q = absurd (false≢true q)
add_number f (fin s m e) (fin t n d) p q = sum_number f s (m * up e * down d) t (n * up d * down e) (down e * down d)

-- ---- their order
itself : (a : ℕ) → (eqb a a && true) ≡ true
itself a = and_both (eqb a a) true (eq-eqb a a refl) refl

pub equals_itself : (x : Float) → IsNumber x → eq x x ≡ true
unfolding is_nan eq
equals_itself nan p = absurd (true≢false p)
equals_itself (inf true) p = refl
equals_itself (inf false) p = refl
equals_itself (fin true m e) p = itself (m * up e * down e)
equals_itself (fin false m e) p = itself (m * up e * down e)

pub at_most_itself : (x : Float) → IsNumber x → le x x ≡ true
unfolding le
at_most_itself x p = or_right (lt x x) (eq x x) (equals_itself x p)

pub of_not_below : (x y : Float) → IsNumber x → IsNumber y → lt x y ≡ false → le y x ≡ true
unfolding is_finite is_nan le lt
of_not_below nan y p q h = absurd (true≢false p)
of_not_below (inf s) nan p q h = absurd (true≢false q)
of_not_below (inf true) (inf true) p q h = refl
of_not_below (inf true) (inf false) p q h = absurd (true≢false h)
of_not_below (inf false) (inf true) p q h = refl
of_not_below (inf false) (inf false) p q h = refl
of_not_below (inf true) (fin t n d) p q h = absurd (true≢false h)
of_not_below (inf false) (fin t n d) p q h = refl
of_not_below (fin s m e) nan p q h = absurd (true≢false q)
of_not_below (fin s m e) (inf true) p q h = refl
of_not_below (fin s m e) (inf false) p q h = absurd (true≢false h)
of_not_below (fin s m e) (fin t n d) p q h = is_true (le (fin t n d) (fin s m e)) (Within.of_not_below (fin s m e) (fin t n d) refl refl h)

-- ---- the clamp
at_most_numbers : (x y : Float) → le x y ≡ true → IsNumber x × IsNumber y
unfolding is_nan le lt eq
at_most_numbers nan y h = absurd (false≢true h)
at_most_numbers (inf s) nan h = absurd (false≢true h)
at_most_numbers (inf s) (inf t) h = (refl, refl)
at_most_numbers (inf s) (fin t n d) h = (refl, refl)
at_most_numbers (fin s m e) nan h = absurd (false≢true h)
at_most_numbers (fin s m e) (inf t) h = (refl, refl)
at_most_numbers (fin s m e) (fin t n d) h = (refl, refl)

abbrev pub IsBetween : Float → Float → Float → Type 0
IsBetween min max x = (le min x ≡ true) × (le x max ≡ true)

clamped : (x min max : Float) → IsNumber x → IsNumber min → IsNumber max → le min max ≡ true → (below above : Bool) → lt x min ≡ below
    → lt max x ≡ above
    → IsBetween min max (cond below min (cond above max x))
clamped x min max n p q o true above h k = (at_most_itself min p, o)
clamped x min max n p q o false true h k = (o, at_most_itself max q)
clamped x min max n p q o false false h k = (of_not_below x min n p h, of_not_below max x q n k)

pub clamp_between : (x min max : Float) → IsNumber x → le min max ≡ true → IsBetween min max (clamp_of x min max)
unfolding clamp_of
clamp_between x min max n o =
    let numbers = at_most_numbers min max o in
    clamped x min max n numbers.0 numbers.1 o (lt x min) (lt max x) refl refl

-- a finite outcome comes of a number
nan_highest : (max : Float) → lt max nan ≡ false
unfolding lt
nan_highest nan = refl
nan_highest (inf s) = refl
nan_highest (fin s m e) = refl

pub clamp_number : (x min max : Float) → is_finite (clamp_of x min max) ≡ true → IsNumber x
unfolding clamp_of is_finite is_nan lt
clamp_number nan min max h = absurd (false≢true (rw (nan_highest max) at h))
clamp_number (inf s) min max h = refl
clamp_number (fin s m e) min max h = refl
