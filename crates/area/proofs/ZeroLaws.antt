-- A sum of zeros, a zero times a finite number and a zero negated are zeros, of either sign. Assumes nothing.
use Rattle.std.specs.Prelude.{◌≡◌, ℕ, zero, suc, ◌+◌, ◌-◌, ◌*◌, ◌^◌, ◌<◌, Bool, true, false, cond, not, ◌&&◌, ◌||◌, eqb, ltb}
use mathlib.Core.Path.{refl, sym, ap, ◌∙◌}
use mathlib.Core.Bool.{beq, false≢true}
use native.Mathlib.Nat.{mul-pos, zero-mul, zero-lt-suc}
use native.Mathlib.Omega.{arith}
use borrow.Author.Tests.{eqb-true, eq-eqb, not-false}
use lib.Pow.{pow_pos}
use lib.Ieee.{Float, Format, nan, inf, fin, prec, emax, low, of_bits, up, down, round, sum, unlike, eq, ne, neg, add, mul}
use lib.Ieee.Fits.{up_pos, down_pos}
use lib.Ieee.Exact.{HasValue, round_exact}
use Rattle.numbers.specs.F32 as F32
use Rattle.numbers.specs.Scalar.{is_finite}
use Rattle.numbers.proofs.TestLaws.{or_right, and_both, and_left, either}

abbrev pub IsZero : Float → Type 0
IsZero nan = ⊥
IsZero (inf s) = ⊥
IsZero (fin s m e) = m ≡ 0

-- ---- on magnitudes
factor_zero : (m u d : ℕ) → 0 < u → 0 < d → m * u * d ≡ 0 → m ≡ 0
factor_zero zero u d p q h = refl
factor_zero (suc m) u d p q h = absurd (above (suc m * u * d) (mul-pos (mul-pos (zero-lt-suc m) p) q) h)
  where
    above : (k : ℕ) → 0 < k → k ≡ 0 → ⊥
    above k l e = omega arith

product_zero : (m u d : ℕ) → m ≡ 0 → m * u * d ≡ 0
product_zero m u d h = ap (λ (k : ℕ). k * u * d) h ∙ ap (λ (k : ℕ). k * d) (zero-mul u) ∙ zero-mul d

sum_zero : (a b : ℕ) → a ≡ 0 → b ≡ 0 → a + b ≡ 0
sum_zero a b p q = omega arith

less_zero : (a b : ℕ) → a ≡ 0 → a - b ≡ 0
less_zero a b p = omega arith

-- ---- what is rounded
valued_zero : (x : Float) (s : Bool) (den : ℕ) → 0 < den → HasValue x s 0 den → IsZero x
valued_zero nan s den h v = v
valued_zero (inf t) s den h v = v
valued_zero (fin t m e) s den h v = factor_zero m (up e) den (up_pos e) h (v.1 ∙ zero-mul (down e))

round_zero : (f : Format) (s : Bool) (n den : ℕ) → n ≡ 0 → 0 < den → IsZero (round f s n den)
round_zero f s n den e h =
    rw e (valued_zero (round f s 0 den) s den h
    (round_exact f s 0 den 0 0 h (pow_pos (prec f)) (pow_pos (low f + suc (emax f))) (zero-mul (2 ^ low f) ∙ sym (zero-mul den))))

sums_zero : (f : Format) (s : Bool) (a : ℕ) (t : Bool) (b c : ℕ) → a ≡ 0 → b ≡ 0 → 0 < c → IsZero (sum f s a t b c)
unfolding sum
sums_zero f s a t b c p q h =
    either IsZero (beq s t) (round f s (a + b) c) (cond (ltb a b) (round f t (b - a) c) (round f (s && ltb b a) (a - b) c))
    (round_zero f s (a + b) c (sum_zero a b p q) h)
    (either IsZero (ltb a b) (round f t (b - a) c) (round f (s && ltb b a) (a - b) c)
    (round_zero f t (b - a) c (less_zero b a q) h)
    (round_zero f (s && ltb b a) (a - b) c (less_zero a b p) h))

-- ---- the operations
pub add_zeros : (f : Format) (x y : Float) → IsZero x → IsZero y → IsZero (add f x y)
unfolding add
add_zeros f nan y p q = absurd p
add_zeros f (inf s) y p q = absurd p
add_zeros f (fin s m e) nan p q = absurd q
add_zeros f (fin s m e) (inf t) p q = absurd q
add_zeros f (fin s m e) (fin t n d) p q =
    sums_zero f s (m * up e * down d) t (n * up d * down e) (down e * down d) (product_zero m (up e) (down d) p) (product_zero n (up d) (down e) q)
    (mul-pos (down_pos e) (down_pos d))

pub mul_zero : (f : Format) (x y : Float) → IsZero x → is_finite y ≡ true → IsZero (mul f x y)
unfolding mul is_finite
mul_zero f nan y p q = absurd p
mul_zero f (inf s) y p q = absurd p
mul_zero f (fin s m e) nan p q = absurd (false≢true q)
mul_zero f (fin s m e) (inf t) p q = absurd (false≢true q)
mul_zero f (fin s m e) (fin t n d) p q =
    round_zero f (unlike s t) (m * up e * (n * up d)) (down e * down d) (product_zero m (up e) (n * up d) p) (mul-pos (down_pos e) (down_pos d))

pub neg_zero : (x : Float) → IsZero x → IsZero (neg x)
unfolding neg
neg_zero nan p = p
neg_zero (inf s) p = p
neg_zero (fin s m e) p = p

-- ---- a zero is what compares equal to 0
of_equal : (x : Float) → eq x F32.zero ≡ true → IsZero x
unfolding eq of_bits
of_equal nan h = absurd (false≢true h)
of_equal (inf s) h = absurd (false≢true h)
of_equal (fin s m e) h =
    let level = eqb (m * up e * 1) (0 * 1 * down e) in
    let same = eqb-true (m * up e * 1) (0 * 1 * down e) (and_left level (beq s false || eqb (m * up e * 1) 0) h) in
    factor_zero m (up e) 1 (up_pos e) (zero-lt-suc 0) (same ∙ product_zero 0 1 (down e) refl)

pub equals_zero : (x : Float) → IsZero x → eq x F32.zero ≡ true
unfolding eq of_bits
equals_zero nan p = absurd p
equals_zero (inf s) p = absurd p
equals_zero (fin s m e) p =
    let a = product_zero m (up e) 1 p in
    and_both (eqb (m * up e * 1) (0 * 1 * down e)) (beq s false || eqb (m * up e * 1) 0)
    (eq-eqb (m * up e * 1) (0 * 1 * down e) (a ∙ sym (product_zero 0 1 (down e) refl)))
    (or_right (beq s false) (eqb (m * up e * 1) 0) (eq-eqb (m * up e * 1) 0 a))

pub of_no_other : (x : Float) → ne x F32.zero ≡ false → IsZero x
unfolding ne
of_no_other x h = of_equal x (not-false (eq x F32.zero) h)

pub no_other_than_zero : (x : Float) → IsZero x → ne x F32.zero ≡ false
unfolding ne
no_other_than_zero x p = ap not (equals_zero x p)
