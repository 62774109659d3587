-- A difference of two numbers of a format is 0 for equal ones alone: the least that it can else be is a number of the format. Assumes nothing.
use Rattle.std.proofs.Common.{◌≡◌, ℕ, zero, suc, ◌+◌, ◌-◌, ◌*◌, ◌^◌, ◌<◌, ◌≤◌, Bool, true, false, cond, ◌&&◌, T, eqb, ltb, leb, ℤ, pos, negsuc, sym, refl, ap, ◌∙◌, subst, inl, inr, true≢false, le_refl, le_of_lt, zero-lt-suc, mul_assoc, mul_comm, add-mul, mul-le-mul, eq-or-lt_of_le, mul-pos, sub-add_cancel, le-mul_of_pos_right, arith, eqb→eq, pow_pos, pow_mono, pow-add, ltb-false, ltb-true, eq-eqb, ne_eqb, eqb-true, leb-false, leb-true}
use mathlib.Core.Bool.{false≢true}
use native.Mathlib.Nat.{mul-sub}
use lib.Pow.{pow-lt}
use lib.Ieee.{Float, Format, nan, inf, fin, low, up, down, round, sum, add, sub, neg, below, level, lt, le, eq, fits, of_bits}
use lib.Ieee.Fits.{two, up_pos, down_pos}
use lib.Ieee.Exact.{HasValue}
use lib.Ieee.Order.{round_mono}
use Rattle.numbers.specs.F32 as F32
use Rattle.numbers.specs.Scalar.{is_finite}
use Rattle.numbers.proofs.TestLaws.{and_both, fails_left, chosen, either}
use Rattle.numbers.proofs.WholeLaws.{neg_round}
use Rattle.numbers.proofs.HeldLaws.{says, round_0, part_exact, pow_le_back}
use Rattle.numbers.proofs.MonotoneLaws.{IsSigned, of_le, round_signed}

-- ---- multiples of a power of 2
abbrev IsMultiple : ℕ → ℕ → Type 0
IsMultiple p n = (r : ℕ) × (n ≡ r * p)

sum_multiple : (p a b : ℕ) → IsMultiple p a → IsMultiple p b → IsMultiple p (a + b)
sum_multiple p a b (r, h) (s, k) = (r + s, ap (λ (n : ℕ). n + b) h ∙ ap (λ (n : ℕ). r * p + n) k ∙ sym (add-mul r s p))

less_multiple : (p a b : ℕ) → IsMultiple p a → IsMultiple p b → IsMultiple p (a - b)
less_multiple p a b (r, h) (s, k) =
    (r - s, ap (λ (n : ℕ). n - b) (h ∙ mul_comm r p) ∙ ap (λ (n : ℕ). p * r - n) (k ∙ mul_comm s p) ∙ sym (mul-sub p r s) ∙ mul_comm p (r - s))

-- one that is not 0 is at least p, and so c, which is p by at most l, is at most so many times l
reaches : (p q l k : ℕ) → 0 < k → q ≤ l → IsMultiple p k → p * q ≤ k * l
reaches p q l k K h (zero, e) = absurd (omega (arith, e))
reaches p q l k K h (suc r, e) = mul-le-mul (subst (λ (n : ℕ). p ≤ n) (mul_comm p (suc r) ∙ sym e) (le-mul_of_pos_right p (zero-lt-suc r))) h

power_multiple : (a i j : ℕ) → i ≤ j → IsMultiple (2 ^ i) (a * 2 ^ j)
power_multiple a i j h =
    (a * 2 ^ (j - i), ap (λ (n : ℕ). a * 2 ^ n) (sym (sub-add_cancel h)) ∙ ap (λ (n : ℕ). a * n) (pow-add 2 (j - i) i) ∙ sym (mul_assoc a (2 ^ (j - i)) (2 ^ i)))

own_multiple : (a p : ℕ) → IsMultiple p (a * p)
own_multiple a p = (a, refl)

-- what is made of a × 2 ^ j and b × 2 ^ i by adding or subtracting is 0, or at least 2 ^ i × 2 ^ j / 2 ^ l
least : (a b i j l k : ℕ) → i ≤ l → j ≤ l → ((p : ℕ) → IsMultiple p (a * 2 ^ j) → IsMultiple p (b * 2 ^ i) → IsMultiple p k) → 0 < k
    → 2 ^ i * 2 ^ j ≤ k * 2 ^ l
least a b i j l k I J made K = go (leb i j) refl
  where
    go : (t : Bool) → leb i j ≡ t → 2 ^ i * 2 ^ j ≤ k * 2 ^ l
    go true h = reaches (2 ^ i) (2 ^ j) (2 ^ l) k K (pow_mono J) (made (2 ^ i) (power_multiple a i j (leb-true i j h)) (own_multiple b (2 ^ i)))
    go false h =
        subst (λ (n : ℕ). n ≤ k * 2 ^ l) (mul_comm (2 ^ j) (2 ^ i))
        (reaches (2 ^ j) (2 ^ i) (2 ^ l) k K (pow_mono I) (made (2 ^ j) (own_multiple a (2 ^ j)) (power_multiple b j i (le_of_lt (leb-false i j h)))))

-- ---- what is at least the format's least number is not rounded to 0
positive : (a b e d p : ℕ) → 0 < e → 0 < d → b * p ≡ 1 * 1 * d → b * e ≤ a * d → 0 < a
positive zero zero e d p E D v h = absurd (omega (arith, v, D))
positive zero (suc b) e d p E D v h = let k = mul-pos (zero-lt-suc b) E in absurd (omega (arith, k, h))
positive (suc a) b e d p E D v h = zero-lt-suc a

-- other than 0
abbrev IsOther : Float → Type 0
IsOther nan = Unit {0}
IsOther (inf s) = Unit {0}
IsOther (fin s m e) = 0 < m * up e

other_than_0 : (x : Float) → IsOther x → eq x F32.zero ≡ false
unfolding eq of_bits
other_than_0 nan h = refl
other_than_0 (inf s) h = refl
other_than_0 (fin s m e) h = fails_left (eqb (m * up e * 1) (0 * 1 * down e)) _ (ne_eqb (m * up e * 1) (0 * 1 * down e) (λ q. omega (arith, h, q)))

neg_other : (x : Float) → IsOther x → IsOther (neg x)
unfolding neg
neg_other nan h = h
neg_other (inf s) h = h
neg_other (fin s m e) h = h

above_least : (f : Format) (x y : Float) → IsSigned false x → HasValue y false (1 * 1) (2 ^ low f) → T (le y x) → IsOther x
unfolding le
above_least f nan y s v h = tt
above_least f (inf t) y s v h = tt
above_least f (fin t m e) nan s v h = absurd v
above_least f (fin t m e) (inf u) s v h = absurd v
above_least f (fin true m e) (fin u n d) s v h = absurd (true≢false s)
above_least f (fin false m e) (fin true n d) s v h = absurd (true≢false v.0)
above_least f (fin false m e) (fin false n d) s v h =
    let l = of_le false false (n * up d * down e) (m * up e * down d) h in
    positive (m * up e) (n * up d) (down e) (down d) (2 ^ low f) (down_pos e) (down_pos d) v.1 (omega arith)

round_other : (f : Format) (s : Bool) (k c : ℕ) → 0 < c → c ≤ k * 2 ^ low f → IsOther (round f s k c)
round_other f s k c C h = go s
  where
    unsigned : IsOther (round f false k c)
    unsigned =
        above_least f (round f false k c) (round f false (1 * 1) (2 ^ low f)) (round_signed f false k c)
        (part_exact f false 1 (low f) (pow-lt {i = 0} (omega (arith, two f))) (le_refl (low f)))
        (round_mono f (1 * 1) (2 ^ low f) k c (pow_pos (low f)) C (omega arith))

    go : (t : Bool) → IsOther (round f t k c)
    go false = unsigned
    go true = subst IsOther (neg_round f k c) (neg_other (round f false k c) unsigned)

-- ---- the difference of two numbers of a format that differ
down_power : (e : ℤ) → (i : ℕ) × (down e ≡ 2 ^ i)
down_power (pos k) = (0, refl)
down_power (negsuc k) = (suc k, refl)

fits_down : (f : Format) (s : Bool) (m : ℕ) (e : ℤ) → T (fits f (fin s m e)) → down e ≤ 2 ^ low f
unfolding fits
fits_down f s zero e t =
    let one = eqb→eq (up e * down e) 1 t in
    let within = le-mul_of_pos_right (down e) (up_pos e) in
    let least = pow_pos (low f) in
    omega (arith, one, within, least, mul_comm (down e) (up e))
fits_down f s (suc m) e t = (says f s m e t).1

-- put together from the numerators of x and y over the product of their denominators
apart_other : (f : Format) (u : Bool) (a b : ℕ) (e d : ℤ) (k : ℕ) → down e ≤ 2 ^ low f → down d ≤ 2 ^ low f
    → ((p : ℕ) → IsMultiple p (a * down d) → IsMultiple p (b * down e) → IsMultiple p k) → 0 < k
    → IsOther (round f u k (down e * down d))
apart_other f u a b e d k E D made K =
    let (i, I) = down_power e in
    let (j, J) = down_power d in
    round_other f u k (down e * down d) (mul-pos (down_pos e) (down_pos d))
    (rw (I, J) (least a b i j (low f) k (pow_le_back i (low f) (rw I at E)) (pow_le_back j (low f) (rw J at D)) (rw (I, J) at made) K))

-- two magnitudes that are not equal, of one sign and of two
unequal : (a b : ℕ) (t : Bool) → (eqb a b && t) ≡ false → t ≡ true → a ≡ b → ⊥
unequal a b t h k e = true≢false (sym (and_both (eqb a b) t (eq-eqb a b e) k) ∙ h)

not_both_0 : (a b : ℕ) → (eqb a b && eqb a 0) ≡ false → 0 < a + b
not_both_0 zero zero h = absurd (true≢false h)
not_both_0 zero (suc b) h = omega arith
not_both_0 (suc a) b h = omega arith

module _ (f : Format) (m n : ℕ) (e d : ℤ) (E : down e ≤ 2 ^ low f) (D : down d ≤ 2 ^ low f) where
  abbrev first : ℕ
  first = m * up e * down d

  abbrev second : ℕ
  second = n * up d * down e

  abbrev over : ℕ
  over = down e * down d

  of_two_signs : (u : Bool) → 0 < first + second → IsOther (round f u (first + second) over)
  of_two_signs u h = apart_other f u (m * up e) (n * up d) e d (first + second) E D (λ p. sum_multiple p first second) h

  of_one_sign : (u v : Bool) → (first ≡ second → ⊥) → IsOther (cond (ltb first second) (round f u (second - first) over) (round f v (first - second) over))
  of_one_sign u v h =
      chosen IsOther (ltb first second) (round f u (second - first) over) (round f v (first - second) over)
      (λ t. let less = ltb-true first second t in apart_other f u (m * up e) (n * up d) e d (second - first) E D (λ p x y. less_multiple p second first y x) (omega (arith, less)))
      (λ t. apart_other f v (m * up e) (n * up d) e d (first - second) E D (λ p x y. less_multiple p first second x y) (more (ltb-false first second t)))
    where
      more : second ≤ first → 0 < first - second
      more l = elim (eq-or-lt_of_le l) [
        | inl q ↦ absurd (h (sym q))
        | inr g ↦ omega (arith, g)
      ]

differ_other : (f : Format) (x y : Float) → T (fits f x) → T (fits f y) → is_finite x ≡ true → is_finite y ≡ true → eq x y ≡ false → IsOther (sub f x y)
unfolding is_finite eq sub add neg sum
differ_other f nan y p q h k l = absurd (false≢true h)
differ_other f (inf s) y p q h k l = absurd (false≢true h)
differ_other f (fin s m e) nan p q h k l = absurd (false≢true k)
differ_other f (fin s m e) (inf t) p q h k l = absurd (false≢true k)
differ_other f (fin false m e) (fin true n d) p q h k l = of_two_signs f m n e d (fits_down f false m e p) (fits_down f true n d q) false (not_both_0 _ _ l)
differ_other f (fin true m e) (fin false n d) p q h k l = of_two_signs f m n e d (fits_down f true m e p) (fits_down f false n d q) true (not_both_0 _ _ l)
differ_other f (fin false m e) (fin false n d) p q h k l =
    of_one_sign f m n e d (fits_down f false m e p) (fits_down f false n d q) true false (unequal _ _ true l refl)
differ_other f (fin true m e) (fin true n d) p q h k l =
    of_one_sign f m n e d (fits_down f true m e p) (fits_down f true n d q) false (ltb (n * up d * down e) (m * up e * down d)) (unequal _ _ true l refl)

pub differ : (f : Format) (x y : Float) → T (fits f x) → T (fits f y) → is_finite x ≡ true → is_finite y ≡ true → eq x y ≡ false
    → eq (sub f x y) F32.zero ≡ false
differ f x y p q h k l = other_than_0 (sub f x y) (differ_other f x y p q h k l)

-- ---- and of a number with itself
abbrev Is0 : Float → Type 0
Is0 x = eq x F32.zero ≡ true

zero_is_0 : (s : Bool) → Is0 (fin s 0 (pos 0))
unfolding eq of_bits
zero_is_0 true = refl
zero_is_0 false = refl

nothing_left : (f : Format) (s : Bool) (a c : ℕ) → 0 < c → Is0 (round f s (a - a) c)
nothing_left f s a c C = subst Is0 (sym (round_0 f s (a - a) c (omega arith) C)) (zero_is_0 s)

pub same : (f : Format) (x : Float) → is_finite x ≡ true → eq (sub f x x) F32.zero ≡ true
unfolding is_finite sub add neg sum
same f nan h = absurd (false≢true h)
same f (inf s) h = absurd (false≢true h)
same f (fin true m e) h =
    let a = m * up e * down e in
    let C = mul-pos (down_pos e) (down_pos e) in
    either Is0 (ltb a a) (round f false (a - a) (down e * down e)) (round f (ltb a a) (a - a) (down e * down e)) (nothing_left f false a _ C) (nothing_left f (ltb a a) a _ C)
same f (fin false m e) h =
    let a = m * up e * down e in
    let C = mul-pos (down_pos e) (down_pos e) in
    either Is0 (ltb a a) (round f true (a - a) (down e * down e)) (round f false (a - a) (down e * down e)) (nothing_left f true a _ C) (nothing_left f false a _ C)

-- ---- numbers of which one is less than the other are not equal, whichever stands first
of_two : (a b : ℕ) → 0 < a + b → (eqb a b && eqb a 0) ≡ false
of_two a b h = go (eqb a b) refl
  where
    go : (t : Bool) → eqb a b ≡ t → (t && eqb a 0) ≡ false
    go true e = let equal = eqb-true a b e in ne_eqb a 0 (λ z. omega (arith, h, equal, z))
    go false e = refl

less_apart : (s t : Bool) (a b : ℕ) → below s a t b ≡ true → (level s a t b ≡ false) × (level t b s a ≡ false)
less_apart false false a b h =
    let less = ltb-true a b h in
    (fails_left (eqb a b) true (ne_eqb a b (λ e. omega (arith, less, e))), fails_left (eqb b a) true (ne_eqb b a (λ e. omega (arith, less, e))))
less_apart false true a b h = absurd (false≢true h)
less_apart true false a b h = let above = ltb-true 0 (a + b) h in (of_two a b above, of_two b a (omega (arith, above)))
less_apart true true a b h =
    let less = ltb-true b a h in
    (fails_left (eqb a b) true (ne_eqb a b (λ e. omega (arith, less, e))), fails_left (eqb b a) true (ne_eqb b a (λ e. omega (arith, less, e))))

pub less_differs : (x y : Float) → lt x y ≡ true → (eq x y ≡ false) × (eq y x ≡ false)
unfolding lt eq
less_differs nan y h = absurd (false≢true h)
less_differs (inf s) nan h = absurd (false≢true h)
less_differs (inf true) (inf true) h = absurd (false≢true h)
less_differs (inf true) (inf false) h = (refl, refl)
less_differs (inf false) (inf t) h = absurd (false≢true h)
less_differs (inf s) (fin t n d) h = (refl, refl)
less_differs (fin s m e) nan h = absurd (false≢true h)
less_differs (fin s m e) (inf t) h = (refl, refl)
less_differs (fin s m e) (fin t n d) h = less_apart s t (m * up e * down d) (n * up d * down e) h
