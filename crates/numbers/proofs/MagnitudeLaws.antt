-- Numbers of a magnitude up to a power of 2: what rounding, a sum and a product make of them. Assumes nothing.
use Rattle.std.proofs.Common.{◌≡◌, ℕ, suc, ◌+◌, ◌-◌, ◌*◌, ◌^◌, ◌<◌, ◌≤◌, Bool, true, false, cond, ◌&&◌, T, ltb, sym, refl, ap, ◌∙◌, subst, true≢false, mul-le-mul_right, zero-lt-suc, mul_assoc, mul-le-mul, mul-pos, one-mul, pow-suc, mul-one, mul_right_comm, le_of_mul-le-mul_right, arith, pow-add}
use mathlib.Core.Bool.{beq}
use native.Mathlib.Nat.{mul-mul-mul_comm}
use lib.Pow.{pow-lt}
use lib.Ieee.{Float, Format, nan, inf, fin, emax, up, down, round, sum, unlike, neg, add, mul, le}
use lib.Ieee.Fits.{two, down_pos}
use lib.Ieee.Exact.{HasValue}
use lib.Ieee.Order.{round_mono}
use Rattle.numbers.specs.Scalar.{is_finite}
use Rattle.numbers.proofs.TestLaws.{either}
use Rattle.numbers.proofs.WholeLaws.{neg_round}
use Rattle.numbers.proofs.HeldLaws.{whole_exact}
use Rattle.numbers.proofs.MonotoneLaws.{IsSigned, of_le, round_signed}

-- at most 2 ^ k, of either sign
abbrev pub IsUpTo : ℕ → Float → Type 0
IsUpTo k nan = ⊥
IsUpTo k (inf s) = ⊥
IsUpTo k (fin s m e) = m * up e ≤ 2 ^ k * down e

pub up_to_finite : (k : ℕ) (x : Float) → IsUpTo k x → is_finite x ≡ true
unfolding is_finite
up_to_finite k nan h = absurd h
up_to_finite k (inf s) h = absurd h
up_to_finite k (fin s m e) h = refl

pub neg_up_to : (k : ℕ) (x : Float) → IsUpTo k x → IsUpTo k (neg x)
unfolding neg
neg_up_to k nan h = h
neg_up_to k (inf s) h = h
neg_up_to k (fin s m e) h = h

-- ---- what is rounded: 2 ^ k is a number of the format, and rounding keeps the order
beneath_power : (k : ℕ) (x y : Float) → IsSigned false x → HasValue y false (1 * 2 ^ k) 1 → T (le x y) → IsUpTo k x
unfolding le
beneath_power k nan y s v h = absurd s
beneath_power k (inf t) nan s v h = absurd v
beneath_power k (inf t) (inf u) s v h = absurd v
beneath_power k (inf true) (fin u n d) s v h = absurd (true≢false s)
beneath_power k (inf false) (fin u n d) s v h = absurd h
beneath_power k (fin t m e) nan s v h = absurd v
beneath_power k (fin t m e) (inf u) s v h = absurd v
beneath_power k (fin true m e) (fin u n d) s v h = absurd (true≢false s)
beneath_power k (fin false m e) (fin true n d) s v h = absurd (true≢false v.0)
beneath_power k (fin false m e) (fin false n d) s v h =
    let a = m * up e in
    let b = n * up d in
    let l = of_le false false (a * down d) (b * down e) h in
    let p : a * down d ≤ b * down e = omega arith in
    let q : b ≡ 2 ^ k * down d = sym (mul-one b) ∙ v.1 ∙ ap (λ (z : ℕ). z * down d) (one-mul (2 ^ k)) in
    le_of_mul-le-mul_right (subst (λ (z : ℕ). a * down d ≤ z) (ap (λ (z : ℕ). z * down e) q ∙ mul_right_comm (2 ^ k) (down d) (down e)) p) (down_pos d)

round_up_to : (f : Format) (s : Bool) (a c k : ℕ) → 0 < c → k ≤ emax f → a ≤ 2 ^ k * c → IsUpTo k (round f s a c)
round_up_to f s a c k C K h = go s
  where
    exact : HasValue (round f false (1 * 2 ^ k) 1) false (1 * 2 ^ k) 1
    exact = whole_exact f false 1 k (pow-lt {i = 0} (omega (arith, two f))) (subst (λ (z : ℕ). z < 2 ^ suc (emax f)) (sym (one-mul (2 ^ k))) (pow-lt (omega arith)))

    unsigned : IsUpTo k (round f false a c)
    unsigned = beneath_power k (round f false a c) (round f false (1 * 2 ^ k) 1) (round_signed f false a c) exact (round_mono f a c (1 * 2 ^ k) 1 C (zero-lt-suc 0) (omega arith))

    go : (t : Bool) → IsUpTo k (round f t a c)
    go false = unsigned
    go true = subst (IsUpTo k) (neg_round f a c) (neg_up_to k (round f false a c) unsigned)

-- ---- a sum and a product
doubled : (a : ℕ) → a * 2 ≡ a + a
doubled a = omega arith

pub add_up_to : (f : Format) (k : ℕ) (x y : Float) → k < emax f → IsUpTo k x → IsUpTo k y → IsUpTo (suc k) (add f x y)
unfolding add sum
add_up_to f k nan y K p q = absurd p
add_up_to f k (inf s) y K p q = absurd p
add_up_to f k (fin s m e) nan K p q = absurd q
add_up_to f k (fin s m e) (inf t) K p q = absurd q
add_up_to f k (fin s m e) (fin t n d) K p q =
    let a = m * up e * down d in
    let b = n * up d * down e in
    let c = down e * down d in
    let C = mul-pos (down_pos e) (down_pos d) in
    let h : a ≤ 2 ^ k * c = subst (λ (z : ℕ). a ≤ z) (mul_assoc (2 ^ k) (down e) (down d)) (mul-le-mul_right (down d) p) in
    let i : b ≤ 2 ^ k * c = subst (λ (z : ℕ). b ≤ z) (mul_right_comm (2 ^ k) (down d) (down e) ∙ mul_assoc (2 ^ k) (down e) (down d)) (mul-le-mul_right (down e) q) in
    let twice : 2 ^ suc k * c ≡ 2 ^ k * c + 2 ^ k * c = ap (λ (z : ℕ). z * c) (pow-suc 2 k) ∙ mul_right_comm (2 ^ k) 2 c ∙ doubled (2 ^ k * c) in
    let up_to : (u : Bool) (v : ℕ) → v ≤ 2 ^ k * c + 2 ^ k * c → IsUpTo (suc k) (round f u v c) =
    λ u v g. round_up_to f u v c (suc k) C K (subst (λ (z : ℕ). v ≤ z) (sym twice) g) in
    either (IsUpTo (suc k)) (beq s t) (round f s (a + b) c) (cond (ltb a b) (round f t (b - a) c) (round f (s && ltb b a) (a - b) c))
    (up_to s (a + b) (omega arith))
    (either (IsUpTo (suc k)) (ltb a b) (round f t (b - a) c) (round f (s && ltb b a) (a - b) c)
    (up_to t (b - a) (omega arith))
    (up_to (s && ltb b a) (a - b) (omega arith)))

pub mul_up_to : (f : Format) (j k : ℕ) (x y : Float) → j + k ≤ emax f → IsUpTo j x → IsUpTo k y → IsUpTo (j + k) (mul f x y)
unfolding mul
mul_up_to f j k nan y K p q = absurd p
mul_up_to f j k (inf s) y K p q = absurd p
mul_up_to f j k (fin s m e) nan K p q = absurd q
mul_up_to f j k (fin s m e) (inf t) K p q = absurd q
mul_up_to f j k (fin s m e) (fin t n d) K p q =
    let h = mul-le-mul p q in
    round_up_to f (unlike s t) (m * up e * (n * up d)) (down e * down d) (j + k) (mul-pos (down_pos e) (down_pos d)) K
    (subst (λ (z : ℕ). m * up e * (n * up d) ≤ z) (mul-mul-mul_comm (2 ^ j) (down e) (2 ^ k) (down d) ∙ ap (λ (z : ℕ). z * (down e * down d)) (sym (pow-add 2 j k))) h)
