-- Rounding keeps the order of numbers of either sign: so does subtracting a number from both, and so does narrowing; and a number that is
-- not below 0 takes nothing away where it is added, and adds nothing where it is taken away. Assumes nothing.
use Rattle.std.proofs.Common.{◌≡◌, ℕ, zero, suc, ◌+◌, ◌-◌, ◌*◌, ◌^◌, ◌<◌, ◌≤◌, Bool, true, false, cond, not, ◌&&◌, ◌||◌, T, eqb, ltb, ◌⊎◌, ℤ, sym, refl, ap, ◌∙◌, subst, inl, inr, zero-le, le_of_eq, lt_of_lt_of_le, le_of_lt, mul-le-mul_right, mul_assoc, mul_comm, add-mul, eq-or-lt_of_le, mul-pos, mul_right_comm, le_of_mul-le-mul_right, mul_left_comm, arith, eqb→eq, ltb→lt, lt→ltb, ltb-false, ltb-true, lt-ltb}
use mathlib.Core.Bool.{false≢true}
use native.Mathlib.Nat.{mul-sub}
use lib.Ieee.{Float, Format, nan, inf, fin, binary32, prec, emax, low, up, down, odd, units, round, sum, add, sub, neg, below, level, lt, le, fits, of_bits}
use lib.Ieee.Fits.{down_pos, round_is, and_i, and_l, and_r, eq→eqb}
use lib.Ieee.Order.{round_mono}
use lib.Ieee.Exact.{HasValue}
use lib.Ieee.Positive.{first_pos}
use Rattle.numbers.specs.F32 as F32
use Rattle.numbers.specs.Scalar.{is_finite}
use Rattle.numbers.specs.Convert.{narrow_of}
use Rattle.numbers.proofs.WholeLaws.{neg_round}
use Rattle.numbers.proofs.HeldLaws.{round_0, held_exact}

-- ---- the order of two finite numbers, by what of each lies above zero and what beneath

abbrev pub above : Bool → ℕ → ℕ
above true a = 0
above false a = a

abbrev pub beneath : Bool → ℕ → ℕ
beneath true a = a
beneath false a = 0

or_le : (a b : ℕ) (q : Bool) → (a ≡ b → T q) → a ≤ b → T (ltb a b || q)
or_le a b q k h = go (ltb a b) (λ l. lt→ltb a b l) (eq-or-lt_of_le h)
  where
    go : (p : Bool) → (a < b → T p) → (a ≡ b) ⊎ (a < b) → T (p || q)
    go true l e = tt
    go false l (inl e) = k e
    go false l (inr g) = absurd (l g)

le_or : (a b : ℕ) (q : Bool) → (T q → a ≡ b) → T (ltb a b || q) → a ≤ b
le_or a b q k h = go (ltb a b) (λ t. ltb→lt a b t) h
  where
    go : (p : Bool) → (T p → a < b) → T (p || q) → a ≤ b
    go true l t = le_of_lt (l tt)
    go false l t = le_of_eq (k t)

both_zero : (a b : ℕ) → a + b ≤ 0 → T (eqb a b && eqb a 0)
both_zero a b h = and_i (eqb a b) (eqb a 0) (eq→eqb {a = a} {b = b} (omega arith)) (eq→eqb {a = a} {b = 0} (omega arith))

abbrev pub IsAtMost : Bool → ℕ → Bool → ℕ → Type 0
IsAtMost s a t b = above s a + beneath t b ≤ above t b + beneath s a

pub to_le : (s t : Bool) (a b : ℕ) → IsAtMost s a t b → T (below s a t b || level s a t b)
to_le false false a b h = or_le a b (eqb a b && true) (λ e. and_i (eqb a b) true (eq→eqb e) tt) (omega arith)
to_le true true a b h = or_le b a (eqb a b && true) (λ e. and_i (eqb a b) true (eq→eqb (sym e)) tt) (omega arith)
to_le true false a b h = or_le 0 (a + b) (eqb a b && eqb a 0) (λ e. both_zero a b (le_of_eq (sym e))) zero-le
to_le false true a b h = both_zero a b h

pub of_le : (s t : Bool) (a b : ℕ) → T (below s a t b || level s a t b) → IsAtMost s a t b
of_le false false a b h = let l = le_or a b (eqb a b && true) (λ t. eqb→eq a b (and_l (eqb a b) true t)) h in omega arith
of_le true true a b h = let l = le_or b a (eqb a b && true) (λ t. sym (eqb→eq a b (and_l (eqb a b) true t))) h in omega arith
of_le true false a b h = zero-le
of_le false true a b h =
    let p = eqb→eq a b (and_l (eqb a b) (eqb a 0) h) in
    let q = eqb→eq a 0 (and_r (eqb a b) (eqb a 0) h) in omega arith

pub above_mul : (s : Bool) (a b : ℕ) → above s (a * b) ≡ above s a * b
above_mul true a b = omega arith
above_mul false a b = refl

pub beneath_mul : (s : Bool) (a b : ℕ) → beneath s (a * b) ≡ beneath s a * b
beneath_mul true a b = refl
beneath_mul false a b = omega arith

-- ---- what is rounded has the sign given, and is no not-a-number

abbrev pub IsSigned : Bool → Float → Type 0
IsSigned s nan = ⊥
IsSigned s (inf t) = t ≡ s
IsSigned s (fin t m e) = t ≡ s

odd_signed : (d : ℕ) (s : Bool) (q k l : ℕ) → IsSigned s (odd d s q k l)
unfolding odd
odd_signed d s zero k l = refl
odd_signed d s (suc q) k l = refl

or_infinite : (b s : Bool) (x : Float) → IsSigned s x → IsSigned s (cond b x (inf s))
or_infinite true s x h = h
or_infinite false s x h = refl

units_signed : (f : Format) (s : Bool) (q k : ℕ) → IsSigned s (units f s q k)
unfolding units
units_signed f s q k =
    or_infinite (ltb (q * 2 ^ k) (2 ^ (low f + suc (emax f)))) s (odd (suc (prec f)) s q k (low f)) (odd_signed (suc (prec f)) s q k (low f))

pub round_signed : (f : Format) (s : Bool) (a c : ℕ) → IsSigned s (round f s a c)
round_signed f s a c = subst (IsSigned s) (sym (round_is f s a c)) (units_signed f s _ _)

lowest : (s : Bool) (x : Float) → IsSigned s x → T (le (inf true) x)
unfolding le
lowest s nan p = absurd p
lowest s (inf true) p = tt
lowest s (inf false) p = tt
lowest s (fin t m e) p = tt

highest : (s : Bool) (x : Float) → IsSigned s x → T (le x (inf false))
unfolding le
highest s nan p = absurd p
highest s (inf true) p = tt
highest s (inf false) p = tt
highest s (fin t m e) p = tt

apart : (x y : Float) → IsSigned true x → IsSigned false y → T (le x y)
unfolding le
apart nan y p q = absurd p
apart (inf true) y p q = lowest false y q
apart (inf false) y p q = absurd (false≢true p)
apart (fin s m e) nan p q = absurd q
apart (fin s m e) (inf true) p q = absurd (false≢true (sym q))
apart (fin s m e) (inf false) p q = tt
apart (fin true m e) (fin false n d) p q = to_le true false (m * up e * down d) (n * up d * down e) zero-le
apart (fin true m e) (fin true n d) p q = absurd (false≢true (sym q))
apart (fin false m e) (fin t n d) p q = absurd (false≢true p)

-- ---- the fraction (p - n) / c, rounded: a zero may have either sign

abbrev pub IsRounded : Format → ℕ → ℕ → ℕ → Float → Type 0
IsRounded f p n c x = ((p ≤ n) × (x ≡ round f true (n - p) c)) ⊎ ((n ≤ p) × (x ≡ round f false (p - n) c))

pub neg_le : (x y : Float) → T (le x y) → T (le (neg y) (neg x))
unfolding le neg
neg_le nan y h = absurd h
neg_le (inf s) nan h = absurd h
neg_le (inf true) (inf true) h = tt
neg_le (inf true) (inf false) h = tt
neg_le (inf false) (inf true) h = absurd h
neg_le (inf false) (inf false) h = tt
neg_le (inf true) (fin t n d) h = tt
neg_le (inf false) (fin t n d) h = absurd h
neg_le (fin s m e) nan h = absurd h
neg_le (fin s m e) (inf true) h = absurd h
neg_le (fin s m e) (inf false) h = tt
neg_le (fin s m e) (fin t n d) h =
    to_le (not t) (not s) (n * up d * down e) (m * up e * down d) (turned s t (m * up e * down d) (n * up d * down e) (of_le s t _ _ h))
  where
    turned : (s t : Bool) (a b : ℕ) → IsAtMost s a t b → IsAtMost (not t) b (not s) a
    turned true true a b h = omega arith
    turned true false a b h = omega arith
    turned false true a b h = omega arith
    turned false false a b h = omega arith

less_difference : (p n q r c d : ℕ) → p * d + r * c ≤ q * c + n * d → (p - n) * d ≤ (q - r) * c
less_difference p n q r c d h =
    let a : (p - n) * d ≡ p * d - n * d = mul_comm (p - n) d ∙ mul-sub d p n ∙ simp mul_comm in
    let b : (q - r) * c ≡ q * c - r * c = mul_comm (q - r) c ∙ mul-sub c q r ∙ simp mul_comm in
    omega arith

greater_difference : (p n q r c d : ℕ) → 0 < c → 0 < d → n ≤ p → q ≤ r → p * d + r * c ≤ q * c + n * d → (p - n ≡ 0) × (r - q ≡ 0)
greater_difference p n q r c d C D h k l =
    let a = mul-le-mul_right d h in
    let b = mul-le-mul_right c k in
    let u : p ≤ n = le_of_mul-le-mul_right (omega arith) D in
    let v : r ≤ q = le_of_mul-le-mul_right (omega arith) C in
    (omega arith, omega arith)

zeros : (f : Format) (a b c d : ℕ) → a ≡ 0 → b ≡ 0 → 0 < c → 0 < d → T (le (round f false a c) (round f true b d))
unfolding le
zeros f a b c d p q C D = rw (round_0 f false a c p C, round_0 f true b d q D) tt

pub rounded_mono : (f : Format) (p n c q r d : ℕ) (x y : Float) → 0 < c → 0 < d → p * d + r * c ≤ q * c + n * d
    → IsRounded f p n c x → IsRounded f q r d y → T (le x y)
rounded_mono f p n c q r d x y C D h (inl (k, i)) (inl (l, j)) =
    rw (i, j, ← neg_round f (n - p) c, ← neg_round f (r - q) d)
    (neg_le _ _ (round_mono f (r - q) d (n - p) c D C (less_difference r q n p d c (omega arith))))
rounded_mono f p n c q r d x y C D h (inl (k, i)) (inr (l, j)) =
    rw (i, j) (apart _ _ (round_signed f true (n - p) c) (round_signed f false (q - r) d))
rounded_mono f p n c q r d x y C D h (inr (k, i)) (inl (l, j)) =
    let z = greater_difference p n q r c d C D k l h in
    rw (i, j) (zeros f (p - n) (r - q) c d z.0 z.1 C D)
rounded_mono f p n c q r d x y C D h (inr (k, i)) (inr (l, j)) =
    rw (i, j) (round_mono f (p - n) c (q - r) d C D (less_difference p n q r c d h))

rounded_lowest : (f : Format) (p n c : ℕ) (x : Float) → IsRounded f p n c x → T (le (inf true) x)
rounded_lowest f p n c x (inl (k, i)) = rw i (lowest true _ (round_signed f true (n - p) c))
rounded_lowest f p n c x (inr (k, i)) = rw i (lowest false _ (round_signed f false (p - n) c))

rounded_highest : (f : Format) (p n c : ℕ) (x : Float) → IsRounded f p n c x → T (le x (inf false))
rounded_highest f p n c x (inl (k, i)) = rw i (highest true _ (round_signed f true (n - p) c))
rounded_highest f p n c x (inr (k, i)) = rw i (highest false _ (round_signed f false (p - n) c))

-- ---- a sum and what is narrowed are such fractions

pub sum_rounded : (f : Format) (s : Bool) (a : ℕ) (t : Bool) (b c : ℕ) → IsRounded f (above s a + above t b) (beneath s a + beneath t b) c (sum f s a t b c)
unfolding sum
sum_rounded f true a true b c = inl (zero-le, ap (λ (k : ℕ). round f true k c) (omega arith))
sum_rounded f false a false b c = inr (zero-le, ap (λ (k : ℕ). round f false k c) (omega arith))
sum_rounded f false a true b c = go (ltb a b) refl
  where
    go : (x : Bool) → ltb a b ≡ x → IsRounded f (a + 0) (0 + b) c (cond x (round f true (b - a) c) (round f false (a - b) c))
    go true h = let l = ltb-true a b h in inl (omega arith, ap (λ (k : ℕ). round f true k c) (omega arith))
    go false h = let l = ltb-false a b h in inr (omega arith, ap (λ (k : ℕ). round f false k c) (omega arith))
sum_rounded f true a false b c = go (ltb a b) (ltb b a) refl refl
  where
    go : (x y : Bool) → ltb a b ≡ x → ltb b a ≡ y → IsRounded f (0 + b) (a + 0) c (cond x (round f false (b - a) c) (round f y (a - b) c))
    go true y h k = let l = ltb-true a b h in inr (omega arith, ap (λ (k : ℕ). round f false k c) (omega arith))
    go false true h k = let l = ltb-true b a k in inl (omega arith, ap (λ (k : ℕ). round f true k c) (omega arith))
    go false false h k =
        let l = ltb-false a b h in
        let g = ltb-false b a k in inr (omega arith, ap (λ (k : ℕ). round f false k c) (omega arith))

pub one_rounded : (f : Format) (s : Bool) (a c : ℕ) → IsRounded f (above s a) (beneath s a) c (round f s a c)
one_rounded f true a c = inl (zero-le, ap (λ (k : ℕ). round f true k c) (omega arith))
one_rounded f false a c = inr (zero-le, ap (λ (k : ℕ). round f false k c) (omega arith))

-- ---- narrowing

pub at_once : (s : Bool) (a : ℕ) (t : Bool) (b c d : ℕ) → IsAtMost s (a * d) t (b * c) → above s a * d + beneath t b * c ≤ above t b * c + beneath s a * d
at_once s a t b c d h = simp (above_mul, beneath_mul) at h

pub apart_again : (s : Bool) (a : ℕ) (t : Bool) (b c d : ℕ) → above s a * d + beneath t b * c ≤ above t b * c + beneath s a * d → IsAtMost s (a * d) t (b * c)
apart_again s a t b c d h = simp (above_mul, beneath_mul) h

pub narrow_mono : (x y : Float) → T (le x y) → T (le (narrow_of x) (narrow_of y))
unfolding narrow_of le
narrow_mono nan y h = absurd h
narrow_mono (inf s) nan h = absurd h
narrow_mono (inf s) (inf t) h = h
narrow_mono (inf true) (fin t n d) h = rounded_lowest binary32 _ _ (down d) _ (one_rounded binary32 t (n * up d) (down d))
narrow_mono (inf false) (fin t n d) h = absurd h
narrow_mono (fin s m e) nan h = absurd h
narrow_mono (fin s m e) (inf true) h = absurd h
narrow_mono (fin s m e) (inf false) h = rounded_highest binary32 _ _ (down e) _ (one_rounded binary32 s (m * up e) (down e))
narrow_mono (fin s m e) (fin t n d) h =
    rounded_mono binary32 _ _ (down e) _ _ (down d) _ _ (down_pos e) (down_pos d)
    (at_once s (m * up e) t (n * up d) (down e) (down d) (of_le s t _ _ h))
    (one_rounded binary32 s (m * up e) (down e))
    (one_rounded binary32 t (n * up d) (down d))

-- ---- a difference

-- x / e ≤ y / d, each as what lies above zero less what lies beneath; both with w / g added
cross : (x⁺ x⁻ y⁺ y⁻ w⁺ w⁻ e d g : ℕ) → x⁺ * d + y⁻ * e ≤ y⁺ * e + x⁻ * d
    → (x⁺ * g + w⁺ * e) * (d * g) + (y⁻ * g + w⁻ * d) * (e * g) ≤ (y⁺ * g + w⁺ * d) * (e * g) + (x⁻ * g + w⁻ * e) * (d * g)
cross x⁺ x⁻ y⁺ y⁻ w⁺ w⁻ e d g h =
    let k = simp (add-mul, mul_assoc) at (mul-le-mul_right (g * g) h) in
    simp (add-mul, mul_assoc, mul_left_comm) (omega arith)

sums_mono : (f : Format) (s : Bool) (a : ℕ) (t : Bool) (b : ℕ) (w : Bool) (z e d g : ℕ) → 0 < e → 0 < d → 0 < g → IsAtMost s (a * d) t (b * e)
    → T (le (sum f s (a * g) w (z * e) (e * g)) (sum f t (b * g) w (z * d) (d * g)))
sums_mono f s a t b w z e d g E D G h =
    rounded_mono f _ _ (e * g) _ _ (d * g) _ _ (mul-pos E G) (mul-pos D G)
    (simp (above_mul, beneath_mul)
    (cross (above s a) (beneath s a) (above t b) (beneath t b) (above w z) (beneath w z) e d g (at_once s a t b e d h)))
    (sum_rounded f s (a * g) w (z * e) (e * g))
    (sum_rounded f t (b * g) w (z * d) (d * g))

pub sub_mono : (f : Format) (x y z : Float) → is_finite z ≡ true → T (le x y) → T (le (sub f x z) (sub f y z))
unfolding sub add neg le is_finite
sub_mono f x y nan p h = absurd (false≢true p)
sub_mono f x y (inf u) p h = absurd (false≢true p)
sub_mono f nan y (fin u q g) p h = absurd h
sub_mono f (inf s) nan (fin u q g) p h = absurd h
sub_mono f (inf s) (inf t) (fin u q g) p h = h
sub_mono f (inf true) (fin t n d) (fin u q g) p h =
    rounded_lowest f _ _ (down d * down g) _ (sum_rounded f t (n * up d * down g) (not u) (q * up g * down d) (down d * down g))
sub_mono f (inf false) (fin t n d) (fin u q g) p h = absurd h
sub_mono f (fin s m e) nan (fin u q g) p h = absurd h
sub_mono f (fin s m e) (inf true) (fin u q g) p h = absurd h
sub_mono f (fin s m e) (inf false) (fin u q g) p h =
    rounded_highest f _ _ (down e * down g) _ (sum_rounded f s (m * up e * down g) (not u) (q * up g * down e) (down e * down g))
sub_mono f (fin s m e) (fin t n d) (fin u q g) p h =
    sums_mono f s (m * up e) t (n * up d) (not u) (q * up g) (down e) (down d) (down g) (down_pos e) (down_pos d) (down_pos g) (of_le s t _ _ h)

-- ---- a number of the format less one that is not below 0

same_size : (n⁺ n⁻ r⁺ r⁻ m⁺ m⁻ e g d : ℕ) → 0 < g → r⁺ * e ≡ m⁺ * g → r⁻ * e ≡ m⁻ * g → n⁺ * g + r⁻ * d ≤ r⁺ * d + n⁻ * g
    → n⁺ * e + m⁻ * d ≤ m⁺ * d + n⁻ * e
same_size n⁺ n⁻ r⁺ r⁻ m⁺ m⁻ e g d G p q h =
    let a = mul_right_comm n⁺ e g in
    let b = mul_right_comm n⁻ e g in
    let u : m⁺ * d * g ≡ r⁺ * d * e = mul_right_comm m⁺ d g ∙ ap (λ (z : ℕ). z * d) (sym p) ∙ mul_right_comm r⁺ e d in
    let v : m⁻ * d * g ≡ r⁻ * d * e = mul_right_comm m⁻ d g ∙ ap (λ (z : ℕ). z * d) (sym q) ∙ mul_right_comm r⁻ e d in
    let k = simp add-mul at (mul-le-mul_right e h) in
    le_of_mul-le-mul_right (simp add-mul (omega arith)) G

by_value : (x r : Float) (s : Bool) (m : ℕ) (e : ℤ) → HasValue r s (m * up e) (down e) → T (le x r) → T (le x (fin s m e))
unfolding le
by_value nan r s m e v h = absurd h
by_value (inf t) nan s m e v h = absurd v
by_value (inf t) (inf u) s m e v h = absurd v
by_value (inf t) (fin u k g) s m e v h = h
by_value (fin t n d) nan s m e v h = absurd v
by_value (fin t n d) (inf u) s m e v h = absurd v
by_value (fin t n d) (fin u k g) s m e v h =
    let r = k * up g in
    let l = subst (λ (w : Bool). T (below t (n * up d * down g) w (r * down d) || level t (n * up d * down g) w (r * down d))) v.0 h in
    to_le t s (n * up d * down e) (m * up e * down d)
    (apart_again t (n * up d) s (m * up e) (down d) (down e)
    (same_size (above t (n * up d)) (beneath t (n * up d)) (above s r) (beneath s r) (above s (m * up e)) (beneath s (m * up e)) (down e) (down g) (down d) (down_pos g)
    (sym (above_mul s r (down e)) ∙ ap (above s) v.1 ∙ above_mul s (m * up e) (down g))
    (sym (beneath_mul s r (down e)) ∙ ap (beneath s) v.1 ∙ beneath_mul s (m * up e) (down g))
    (at_once t (n * up d) s r (down d) (down g) (of_le t s _ _ l))))

none_above : (v : Bool) (q e h : ℕ) → IsAtMost false (0 * 1 * h) v (q * 1) → above (not v) (q * e) ≡ 0
none_above false q e h l = refl
none_above true q e h l = let z : q ≡ 0 = omega arith in ap (λ (k : ℕ). k * e) z ∙ omega arith

taken : (a b w k e h : ℕ) → k ≡ 0 → (a * h + k) * e + b * (e * h) ≤ a * (e * h) + (b * h + w) * e
taken a b w k e h z = rw z (simp (add-mul, mul_assoc, mul_comm) (omega arith))

less : (f : Format) (s : Bool) (m : ℕ) (e : ℤ) (v : Bool) (q h : ℕ) → 0 < h → T (fits f (fin s m e)) → above (not v) (q * down e) ≡ 0
    → T (le (sum f s (m * up e * h) (not v) (q * down e) (down e * h)) (fin s m e))
less f s m e v q h H t z =
    by_value _ (round f s (m * up e) (down e)) s m e (held_exact f s m e t)
    (rounded_mono f _ _ (down e * h) _ _ (down e) _ _ (mul-pos (down_pos e) H) (down_pos e)
    (rw (above_mul s (m * up e) h, beneath_mul s (m * up e) h) (taken (above s (m * up e)) (beneath s (m * up e)) _ _ (down e) h z))
    (sum_rounded f s (m * up e * h) (not v) (q * down e) (down e * h))
    (one_rounded f s (m * up e) (down e)))

pub sub_less : (f : Format) (x y : Float) → T (fits f x) → lt x (inf false) ≡ true → T (le F32.zero y) → T (le (sub f x y) x)
unfolding sub add neg le lt of_bits
sub_less f nan y t p h = absurd (false≢true p)
sub_less f (inf false) y t p h = absurd (false≢true p)
sub_less f (inf true) nan t p h = absurd h
sub_less f (inf true) (inf true) t p h = absurd h
sub_less f (inf true) (inf false) t p h = tt
sub_less f (inf true) (fin v q g) t p h = tt
sub_less f (fin s m e) nan t p h = absurd h
sub_less f (fin s m e) (inf true) t p h = absurd h
sub_less f (fin s m e) (inf false) t p h = tt
sub_less f (fin s m e) (fin v q g) t p h =
    less f s m e v (q * up g) (down g) (down_pos g) t (none_above v (q * up g) (down e) (down g) (of_le false v _ _ h))

-- ---- and with one that is not below 0 added

value_neg : (r : Float) (s : Bool) (a c : ℕ) → HasValue r s a c → HasValue (neg r) (not s) a c
unfolding neg
value_neg nan s a c v = v
value_neg (inf t) s a c v = v
value_neg (fin t k g) s a c v = (ap not v.0, v.1)

neg_neg : (x : Float) → neg (neg x) ≡ x
unfolding neg
neg_neg nan = refl
neg_neg (inf true) = refl
neg_neg (inf false) = refl
neg_neg (fin true m e) = refl
neg_neg (fin false m e) = refl

from_value : (x r : Float) (s : Bool) (m : ℕ) (e : ℤ) → HasValue r s (m * up e) (down e) → T (le r x) → T (le (fin s m e) x)
unfolding neg
from_value x r s m e v h =
    subst (λ (z : Float). T (le z x)) (neg_neg (fin s m e))
    (subst (λ (z : Float). T (le (neg (neg (fin s m e))) z)) (neg_neg x)
    (neg_le (neg x) (neg (fin s m e)) (by_value (neg x) (neg r) (not s) m e (value_neg r s _ _ v) (neg_le r x h))))

none_beneath : (v : Bool) (q e h : ℕ) → IsAtMost false (0 * 1 * h) v (q * 1) → beneath v (q * e) ≡ 0
none_beneath false q e h l = refl
none_beneath true q e h l = let z : q ≡ 0 = omega arith in ap (λ (k : ℕ). k * e) z ∙ omega arith

given : (a b w k e h : ℕ) → k ≡ 0 → a * (e * h) + (b * h + k) * e ≤ (a * h + w) * e + b * (e * h)
given a b w k e h z = rw z (simp (add-mul, mul_assoc, mul_comm) (omega arith))

more : (f : Format) (s : Bool) (m : ℕ) (e : ℤ) (v : Bool) (q h : ℕ) → 0 < h → T (fits f (fin s m e)) → beneath v (q * down e) ≡ 0
    → T (le (fin s m e) (sum f s (m * up e * h) v (q * down e) (down e * h)))
more f s m e v q h H t z =
    from_value _ (round f s (m * up e) (down e)) s m e (held_exact f s m e t)
    (rounded_mono f _ _ (down e) _ _ (down e * h) _ _ (down_pos e) (mul-pos (down_pos e) H)
    (rw (above_mul s (m * up e) h, beneath_mul s (m * up e) h) (given (above s (m * up e)) (beneath s (m * up e)) _ _ (down e) h z))
    (one_rounded f s (m * up e) (down e))
    (sum_rounded f s (m * up e * h) v (q * down e) (down e * h)))

pub add_more : (f : Format) (x y : Float) → T (fits f x) → is_finite x ≡ true → T (le F32.zero y) → T (le x (add f x y))
unfolding add le of_bits is_finite
add_more f nan y t p h = absurd (false≢true p)
add_more f (inf s) y t p h = absurd (false≢true p)
add_more f (fin s m e) nan t p h = absurd h
add_more f (fin s m e) (inf true) t p h = absurd h
add_more f (fin s m e) (inf false) t p h = tt
add_more f (fin s m e) (fin v q g) t p h =
    more f s m e v (q * up g) (down g) (down_pos g) t (none_beneath v (q * up g) (down e) (down g) (of_le false v _ _ h))

-- ---- what is at most a number below 0 is below 0

some : (b d : ℕ) → 0 < b * 1 + 0 * 1 * d → 0 < b
some b d h = omega arith

less_stays : (s t : Bool) (a b e d : ℕ) → 0 < e → IsAtMost s (a * d) t (b * e) → below t (b * 1) false (0 * 1 * d) ≡ true → below s (a * 1) false (0 * 1 * e) ≡ true
less_stays s false a b e d E h p = absurd (no_less b d (ltb-true (b * 1) (0 * 1 * d) p))
  where
    no_less : (b d : ℕ) → b * 1 < 0 * 1 * d → ⊥
    no_less b d h = omega arith
less_stays false true a b e d E h p = absurd (omega (arith, mul-pos (some b d (ltb-true 0 (b * 1 + 0 * 1 * d) p)) E))
less_stays true true a b e d E h p =
    lt-ltb 0 (a * 1 + 0 * 1 * e) (omega (arith, first_pos a d (lt_of_lt_of_le (mul-pos (some b d (ltb-true 0 (b * 1 + 0 * 1 * d) p)) E) (omega arith))))

pub still_below : (x y : Float) → T (le x y) → lt y F32.zero ≡ true → lt x F32.zero ≡ true
unfolding le lt of_bits
still_below nan y h p = absurd h
still_below (inf true) y h p = refl
still_below (inf false) nan h p = absurd h
still_below (inf false) (inf true) h p = absurd h
still_below (inf false) (inf false) h p = absurd (false≢true p)
still_below (inf false) (fin t n d) h p = absurd h
still_below (fin s m e) nan h p = absurd h
still_below (fin s m e) (inf true) h p = absurd h
still_below (fin s m e) (inf false) h p = absurd (false≢true p)
still_below (fin s m e) (fin t n d) h p = less_stays s t (m * up e) (n * up d) (down e) (down d) (down_pos e) (of_le s t _ _ h) p
