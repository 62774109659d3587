-- Numbers between two: what a product, a quotient by a number above 0 and a difference make of them. Assumes nothing.
use Rattle.std.proofs.Common.{◌≡◌, ℕ, suc, ◌+◌, ◌-◌, ◌*◌, ◌<◌, ◌≤◌, Bool, true, false, cond, not, T, ltb, ℤ, sym, refl, ap, ◌∙◌, true≢false, zero-le, mul-le-mul_right, zero-lt-suc, mul_assoc, mul_comm, add-mul, mul-le-mul, add_comm, mul-pos, mul-zero, zero-mul, mul_right_comm, le_of_mul-le-mul_right, mul_left_comm, arith, ltb-false, ltb-true, le-ltb}
use mathlib.Core.Bool.{not-not, or-true, false≢true}
use native.Mathlib.Nat.{mul-mul-mul_comm}
use lib.Dec.{eqb-suc-zero}
use lib.Ieee.{Float, Format, nan, inf, fin, binary32, up, down, round, sum, add, sub, neg, mul, div, below, lt, le, eq, of_bits, of_int, unlike}
use lib.Ieee.Fits.{up_pos, down_pos}
use lib.Ieee.Order.{round_mono}
use Rattle.numbers.specs.F32 as F32
use Rattle.numbers.specs.Scalar.{is_finite}
use Rattle.numbers.proofs.MonotoneLaws.{above, beneath, IsAtMost, to_le, of_le, at_once, apart_again, above_mul, beneath_mul, neg_le, rounded_mono, one_rounded, sub_mono}

-- l ≤ x ≤ h; zeros of either sign are equal here
abbrev pub Within : Float → Float → Float → Type 0
Within l h x = T (le l x) × T (le x h)

-- ---- the order

onward : (a⁺ a⁻ b⁺ b⁻ c⁺ c⁻ e d g : ℕ) → 0 < d → a⁺ * d + b⁻ * e ≤ b⁺ * e + a⁻ * d → b⁺ * g + c⁻ * d ≤ c⁺ * d + b⁻ * g
    → a⁺ * g + c⁻ * e ≤ c⁺ * e + a⁻ * g
onward a⁺ a⁻ b⁺ b⁻ c⁺ c⁻ e d g D h k =
    let p = mul_right_comm a⁺ d g in
    let q = mul_right_comm a⁻ d g in
    let r = mul_right_comm b⁺ e g in
    let s = mul_right_comm b⁻ e g in
    let t = mul_right_comm c⁺ d e in
    let u = mul_right_comm c⁻ d e in
    let hg = simp add-mul at (mul-le-mul_right g h) in
    let ke = simp add-mul at (mul-le-mul_right e k) in
    le_of_mul-le-mul_right (simp add-mul (omega arith)) D

pub le_trans : (x y z : Float) → T (le x y) → T (le y z) → T (le x z)
unfolding le lt
le_trans nan y z h k = absurd h
le_trans (inf true) nan z h k = absurd h
le_trans (inf true) (inf t) nan h k = absurd k
le_trans (inf true) (inf t) (inf true) h k = tt
le_trans (inf true) (inf t) (inf false) h k = tt
le_trans (inf true) (inf t) (fin w q g) h k = tt
le_trans (inf true) (fin t n d) nan h k = absurd k
le_trans (inf true) (fin t n d) (inf true) h k = tt
le_trans (inf true) (fin t n d) (inf false) h k = tt
le_trans (inf true) (fin t n d) (fin w q g) h k = tt
le_trans (inf false) nan z h k = absurd h
le_trans (inf false) (inf true) z h k = absurd h
le_trans (inf false) (inf false) z h k = k
le_trans (inf false) (fin t n d) z h k = absurd h
le_trans (fin s m e) nan z h k = absurd h
le_trans (fin s m e) (inf true) z h k = absurd h
le_trans (fin s m e) (inf false) nan h k = absurd k
le_trans (fin s m e) (inf false) (inf true) h k = absurd k
le_trans (fin s m e) (inf false) (inf false) h k = tt
le_trans (fin s m e) (inf false) (fin w q g) h k = absurd k
le_trans (fin s m e) (fin t n d) nan h k = absurd k
le_trans (fin s m e) (fin t n d) (inf true) h k = absurd k
le_trans (fin s m e) (fin t n d) (inf false) h k = tt
le_trans (fin s m e) (fin t n d) (fin w q g) h k =
    let a = m * up e in
    let b = n * up d in
    let c = q * up g in
    to_le s w (a * down g) (c * down e)
    (apart_again s a w c (down e) (down g)
    (onward (above s a) (beneath s a) (above t b) (beneath t b) (above w c) (beneath w c) (down e) (down d) (down g) (down_pos d)
    (at_once s a t b (down e) (down d) (of_le s t _ _ h))
    (at_once t b w c (down d) (down g) (of_le t w _ _ k))))

pub wider : (l h l' h' x : Float) → T (le l' l) → T (le h h') → Within l h x → Within l' h' x
wider l h l' h' x p q w = (le_trans l' l x p w.0, le_trans x h h' w.1 q)

pub le_of_lt : (x y : Float) → lt x y ≡ true → T (le x y)
unfolding le
le_of_lt x y h = rw h tt

pub le_of_eq : (x y : Float) → eq x y ≡ true → T (le x y)
unfolding le
le_of_eq x y h = rw (h, or-true (lt x y)) tt

-- what is not less is at least, of numbers
not_less : (s t : Bool) (a b : ℕ) → below s a t b ≡ false → IsAtMost t b s a
not_less false false a b h = let l = ltb-false a b h in omega arith
not_less false true a b h = zero-le
not_less true false a b h = let l = ltb-false 0 (a + b) h in omega arith
not_less true true a b h = let l = ltb-false b a h in omega arith

pub of_not_below : (x y : Float) → is_finite x ≡ true → is_finite y ≡ true → lt x y ≡ false → T (le y x)
unfolding is_finite le lt
of_not_below nan y p q h = absurd (false≢true p)
of_not_below (inf s) y p q h = absurd (false≢true p)
of_not_below (fin s m e) nan p q h = absurd (false≢true q)
of_not_below (fin s m e) (inf t) p q h = absurd (false≢true q)
of_not_below (fin s m e) (fin t n d) p q h = to_le t s (n * up d * down e) (m * up e * down d) (not_less s t _ _ h)

-- and of an x at or below 0, -infinity too
pub at_least : (x : Float) (t : Bool) (n : ℕ) (d : ℤ) → T (le x F32.zero) → lt x (fin t n d) ≡ false → T (le (fin t n d) x)
unfolding is_finite le lt of_bits
at_least nan t n d h k = absurd h
at_least (inf true) t n d h k = absurd (true≢false k)
at_least (inf false) t n d h k = absurd h
at_least (fin s m e) t n d h k = of_not_below (fin s m e) (fin t n d) refl refl k

-- and the other way
still_less : (s t : Bool) (a b : ℕ) → IsAtMost t b s a → below s a t b ≡ false
still_less false false a b h = le-ltb a b (omega arith)
still_less false true a b h = refl
still_less true false a b h = le-ltb 0 (a + b) (omega arith)
still_less true true a b h = le-ltb b a (omega arith)

pub not_below : (y x : Float) → T (le y x) → lt x y ≡ false
unfolding le lt
not_below nan x h = absurd h
not_below (inf true) nan h = absurd h
not_below (inf true) (inf true) h = refl
not_below (inf true) (inf false) h = refl
not_below (inf true) (fin t n d) h = refl
not_below (inf false) nan h = absurd h
not_below (inf false) (inf true) h = absurd h
not_below (inf false) (inf false) h = refl
not_below (inf false) (fin t n d) h = absurd h
not_below (fin s m e) nan h = absurd h
not_below (fin s m e) (inf true) h = absurd h
not_below (fin s m e) (inf false) h = refl
not_below (fin s m e) (fin t n d) h = still_less t s (n * up d * down e) (m * up e * down d) (of_le s t _ _ h)

-- between finite numbers lie finite ones
pub finite_within : (l h x : Float) → is_finite l ≡ true → is_finite h ≡ true → Within l h x → is_finite x ≡ true
unfolding le lt is_finite
finite_within nan h x p q w = absurd (false≢true p)
finite_within (inf s) h x p q w = absurd (false≢true p)
finite_within (fin s m e) nan x p q w = absurd (false≢true q)
finite_within (fin s m e) (inf t) x p q w = absurd (false≢true q)
finite_within (fin s m e) (fin t n d) nan p q w = absurd w.0
finite_within (fin s m e) (fin t n d) (inf true) p q w = absurd w.0
finite_within (fin s m e) (fin t n d) (inf false) p q w = absurd w.1
finite_within (fin s m e) (fin t n d) (fin u k g) p q w = refl

-- ---- a product of numbers that are not below 0

-- where the sign is minus the number is 0
abbrev IsUp : Bool → ℕ → Type 0
IsUp s a = s ≡ true → a ≡ 0

is_up : (s : Bool) (a d : ℕ) → IsAtMost false (0 * 1 * d) s (a * 1) → IsUp s a
is_up true a d h p = omega arith
is_up false a d h p = absurd (false≢true p)

unlike_up : (s t : Bool) (a b : ℕ) → IsUp s a → IsUp t b → IsUp (unlike s t) (a * b)
unlike_up true true a b p q h = absurd (false≢true h)
unlike_up true false a b p q h = ap (λ (n : ℕ). n * b) (p refl) ∙ zero-mul b
unlike_up false true a b p q h = ap (λ (n : ℕ). a * n) (q refl) ∙ mul-zero a
unlike_up false false a b p q h = absurd (false≢true h)

times_up : (s : Bool) (a b : ℕ) → IsUp s a → IsUp s (a * b)
times_up s a b p h = ap (λ (n : ℕ). n * b) (p h) ∙ zero-mul b

parts : (s t : Bool) (a b c d : ℕ) → IsUp s a → IsUp t b → a * d ≤ b * c → above s a * d + beneath t b * c ≤ above t b * c + beneath s a * d
parts false false a b c d p q h = omega arith
parts false true a b c d p q h = let z = times_up true b c q refl in omega arith
parts true false a b c d p q h = let z = times_up true a d p refl in omega arith
parts true true a b c d p q h = let z = times_up true b c q refl in omega arith

round_up : (f : Format) (s t : Bool) (a b c d : ℕ) → 0 < c → 0 < d → IsUp s a → IsUp t b → a * d ≤ b * c → T (le (round f s a c) (round f t b d))
round_up f s t a b c d C D p q h =
    rounded_mono f _ _ c _ _ d _ _ C D (parts s t a b c d p q h) (one_rounded f s a c) (one_rounded f t b d)

up_le : (s t : Bool) (a b : ℕ) → IsUp s a → IsUp t b → IsAtMost s a t b → a ≤ b
up_le true t a b p q h = let z = p refl in omega arith
up_le false true a b p q h = let z = q refl in omega arith
up_le false false a b p q h = omega arith

products : (a b a' b' e d e' d' : ℕ) → a * e' ≤ a' * e → b * d' ≤ b' * d → a * b * (e' * d') ≤ a' * b' * (e * d)
products a b a' b' e d e' d' h k = rw (mul-mul-mul_comm a b e' d', mul-mul-mul_comm a' b' e d) (mul-le-mul h k)

mul_mono : (f : Format) (x y x' y' : Float) → is_finite x ≡ true → is_finite y ≡ true → is_finite x' ≡ true → is_finite y' ≡ true
    → T (le F32.zero x) → T (le F32.zero y) → T (le x x') → T (le y y') → T (le (mul f x y) (mul f x' y'))
unfolding mul le is_finite of_bits
mul_mono f nan y x' y' p q r s h k i j = absurd (false≢true p)
mul_mono f (inf u) y x' y' p q r s h k i j = absurd (false≢true p)
mul_mono f (fin u m e) nan x' y' p q r s h k i j = absurd (false≢true q)
mul_mono f (fin u m e) (inf v) x' y' p q r s h k i j = absurd (false≢true q)
mul_mono f (fin u m e) (fin v n d) nan y' p q r s h k i j = absurd (false≢true r)
mul_mono f (fin u m e) (fin v n d) (inf u') y' p q r s h k i j = absurd (false≢true r)
mul_mono f (fin u m e) (fin v n d) (fin u' m' e') nan p q r s h k i j = absurd (false≢true s)
mul_mono f (fin u m e) (fin v n d) (fin u' m' e') (inf v') p q r s h k i j = absurd (false≢true s)
mul_mono f (fin u m e) (fin v n d) (fin u' m' e') (fin v' n' d') p q r s h k i j =
    let a = is_up u (m * up e) (down e) (of_le false u _ _ h) in
    let b = is_up v (n * up d) (down d) (of_le false v _ _ k) in
    let a' = is_up u' (m' * up e') (down e') (of_le false u' _ _ (le_trans F32.zero (fin u m e) (fin u' m' e') h i)) in
    let b' = is_up v' (n' * up d') (down d') (of_le false v' _ _ (le_trans F32.zero (fin v n d) (fin v' n' d') k j)) in
    round_up f (unlike u v) (unlike u' v') (m * up e * (n * up d)) (m' * up e' * (n' * up d')) (down e * down d) (down e' * down d')
    (mul-pos (down_pos e) (down_pos d)) (mul-pos (down_pos e') (down_pos d'))
    (unlike_up u v (m * up e) (n * up d) a b)
    (unlike_up u' v' (m' * up e') (n' * up d') a' b')
    (products (m * up e) (n * up d) (m' * up e') (n' * up d') (down e) (down d) (down e') (down d')
    (up_le u u' (m * up e * down e') (m' * up e' * down e) (times_up u (m * up e) (down e') a) (times_up u' (m' * up e') (down e) a') (of_le u u' _ _ i))
    (up_le v v' (n * up d * down d') (n' * up d' * down d) (times_up v (n * up d) (down d') b) (times_up v' (n' * up d') (down d) b') (of_le v v' _ _ j)))

-- ---- a quotient by a number above 0

quotients : (a⁺ a⁻ b⁺ b⁻ e d w n : ℕ) → a⁺ * d + b⁻ * e ≤ b⁺ * e + a⁻ * d
    → a⁺ * w * (n * d) + b⁻ * w * (n * e) ≤ b⁺ * w * (n * e) + a⁻ * w * (n * d)
quotients a⁺ a⁻ b⁺ b⁻ e d w n h =
    let k = simp add-mul at (mul-le-mul_right (w * n) h) in
    rw (moved a⁺ w n d, moved b⁻ w n e, moved b⁺ w n e, moved a⁻ w n d) k
  where
    moved : (a w n d : ℕ) → a * w * (n * d) ≡ a * d * (w * n)
    moved a w n d = simp (mul_assoc, mul_comm, mul_left_comm)

same_sign : (s : Bool) → unlike s false ≡ s
same_sign true = refl
same_sign false = refl

div_mono : (f : Format) (x y : Float) (n : ℕ) (d : ℤ) → is_finite x ≡ true → is_finite y ≡ true → T (le x y)
    → T (le (div f x (fin false (suc n) d)) (div f y (fin false (suc n) d)))
unfolding div le is_finite
div_mono f nan y n d p q h = absurd (false≢true p)
div_mono f (inf s) y n d p q h = absurd (false≢true p)
div_mono f (fin s m e) nan n d p q h = absurd (false≢true q)
div_mono f (fin s m e) (inf t) n d p q h = absurd (false≢true q)
div_mono f (fin s m e) (fin t k g) n d p q h =
    let N = suc n * up d in
    let D : 0 < N = mul-pos (zero-lt-suc n) (up_pos d) in
    rw (eqb-suc-zero n, same_sign s, same_sign t)
    (rounded_mono f _ _ (N * down e) _ _ (N * down g) _ _ (mul-pos D (down_pos e)) (mul-pos D (down_pos g))
    (rw (above_mul s (m * up e) (down d), beneath_mul s (m * up e) (down d), above_mul t (k * up g) (down d), beneath_mul t (k * up g) (down d))
    (quotients (above s (m * up e)) (beneath s (m * up e)) (above t (k * up g)) (beneath t (k * up g)) (down e) (down g) (down d) N
    (at_once s (m * up e) t (k * up g) (down e) (down g) (of_le s t _ _ h))))
    (one_rounded f s (m * up e * down d) (N * down e))
    (one_rounded f t (k * up g * down d) (N * down g)))

-- ---- a difference

-- whichever number stands first
opposed : (f : Format) (a b c : ℕ) → sum f false a true b c ≡ sum f true b false a c
unfolding sum
opposed f a b c = go (ltb a b) (ltb b a) refl refl
  where
    go : (x y : Bool) → ltb a b ≡ x → ltb b a ≡ y
        → cond x (round f true (b - a) c) (round f false (a - b) c) ≡ cond y (round f false (a - b) c) (round f x (b - a) c)
    go true true p q = absurd (omega (arith, ltb-true a b p, ltb-true b a q))
    go true false p q = refl
    go false true p q = refl
    go false false p q = ap (λ (k : ℕ). round f false k c) (omega (arith, ltb-false a b p, ltb-false b a q))

sum_turned : (f : Format) (s : Bool) (a : ℕ) (t : Bool) (b c : ℕ) → sum f s a t b c ≡ sum f t b s a c
unfolding sum
sum_turned f true a true b c = ap (λ (k : ℕ). round f true k c) (add_comm a b)
sum_turned f false a false b c = ap (λ (k : ℕ). round f false k c) (add_comm a b)
sum_turned f true a false b c = sym (opposed f b a c)
sum_turned f false a true b c = opposed f a b c

neg_finite : (x : Float) → is_finite x ≡ true → is_finite (neg x) ≡ true
unfolding is_finite neg
neg_finite nan h = h
neg_finite (inf s) h = h
neg_finite (fin s m e) h = h

sub_turned : (f : Format) (z x : Float) → is_finite z ≡ true → is_finite x ≡ true → sub f z x ≡ sub f (neg x) (neg z)
unfolding sub add neg is_finite
sub_turned f nan x p q = absurd (false≢true p)
sub_turned f (inf w) x p q = absurd (false≢true p)
sub_turned f (fin w k g) nan p q = absurd (false≢true q)
sub_turned f (fin w k g) (inf s) p q = absurd (false≢true q)
sub_turned f (fin w k g) (fin s m e) p q =
    sum_turned f w (k * up g * down e) (not s) (m * up e * down g) (down g * down e)
    ∙ ap (λ (t : Bool). sum f (not s) (m * up e * down g) t (k * up g * down e) (down g * down e)) (sym (not-not w))
    ∙ ap (sum f (not s) (m * up e * down g) (not (not w)) (k * up g * down e)) (mul_comm (down g) (down e))

sub_anti : (f : Format) (z x y : Float) → is_finite z ≡ true → is_finite x ≡ true → is_finite y ≡ true → T (le x y) → T (le (sub f z y) (sub f z x))
sub_anti f z x y r p q h =
    rw (sub_turned f z y r q, sub_turned f z x r p) (sub_mono f (neg y) (neg x) (neg z) (neg_finite z r) (neg_le x y h))

-- ---- a whole number
pub num_mono : (a b : ℕ) → a ≤ b → T (le (F32.num a) (F32.num b))
unfolding of_int
num_mono a b h = round_mono binary32 a 1 b 1 (zero-lt-suc 0) (zero-lt-suc 0) (omega arith)

-- ---- between two numbers

pub record AreFinite (l h : Float) : Type 0 where
  pub low : is_finite l ≡ true
  pub high : is_finite h ≡ true

pub product : (l h x l' h' y : Float) → AreFinite l h → AreFinite l' h' → T (le F32.zero l) → T (le F32.zero l') → Within l h x → Within l' h' y
    → Within (F32.times l l') (F32.times h h') (F32.times x y)
product l h x l' h' y r r' p q w w' =
    let X = finite_within l h x r.low r.high w in
    let Y = finite_within l' h' y r'.low r'.high w' in (
      mul_mono binary32 l l' x y r.low r'.low X Y p q w.0 w'.0,
      mul_mono binary32 x y h h' X Y r.high r'.high (le_trans F32.zero l x p w.0) (le_trans F32.zero l' y q w'.0) w.1 w'.1,
    )

pub quotient : (l h x : Float) (n : ℕ) (d : ℤ) → AreFinite l h → Within l h x
    → Within (F32.over l (fin false (suc n) d)) (F32.over h (fin false (suc n) d)) (F32.over x (fin false (suc n) d))
quotient l h x n d r w =
    let X = finite_within l h x r.low r.high w in
    (div_mono binary32 l x n d r.low X w.0, div_mono binary32 x h n d X r.high w.1)

pub difference : (z l h x : Float) → is_finite z ≡ true → AreFinite l h → Within l h x → Within (F32.minus z h) (F32.minus z l) (F32.minus z x)
difference z l h x p r w =
    let X = finite_within l h x r.low r.high w in
    (sub_anti binary32 z x h p X r.high w.1, sub_anti binary32 z l x p r.low X w.0)
