-- A lerp by 0 from an f32 towards a finite number stays. Assumes nothing.
use Rattle.std.proofs.Common.{◌≡◌, ℕ, ◌-◌, ◌*◌, ◌<◌, Bool, true, false, ◌&&◌, ◌||◌, T, eqb, ltb, ◌⊎◌, ℤ, pos, sym, refl, ap, ◌∙◌, subst, inl, inr, one-mul, zero-mul, mul-one, arith, ltb-false, le-ltb, eq-eqb}
use mathlib.Core.Bool.{beq, false≢true}
use native.Mathlib.Nat.{eq_of_mul-eq-mul_right}
use lib.Ieee.{Float, nan, inf, fin, binary32, up, down, round, sum, add, sub, mul, level, eq, fits, of_bits}
use lib.Ieee.Fits.{down_pos}
use lib.Ieee.Exact.{HasValue}
use lib.Ieee.Scale.{round_same}
use Rattle.numbers.specs.F32 as F32
use Rattle.numbers.specs.Scalar.{is_finite}
use Rattle.numbers.specs.Blend.{lerp_of}
use Rattle.numbers.specs.Corners.{LerpBy0Stays}
use Rattle.numbers.proofs.HeldLaws.{round_0, held_exact}

-- ---- the factors
once : (s : Bool) (m : ℕ) (e : ℤ) → mul binary32 F32.one (fin s m e) ≡ round binary32 s (m * up e) (down e)
unfolding mul of_bits
once true m e = rw (one-mul (m * up e), one-mul (down e))
once false m e = rw (one-mul (m * up e), one-mul (down e))

nothing : (s : Bool) (m : ℕ) (e : ℤ) → mul binary32 F32.zero (fin s m e) ≡ fin s 0 (pos 0)
unfolding mul of_bits
nothing true m e = round_0 binary32 true (0 * (m * up e)) (1 * down e) (zero-mul (m * up e)) (omega (arith, down_pos e))
nothing false m e = round_0 binary32 false (0 * (m * up e)) (1 * down e) (zero-mul (m * up e)) (omega (arith, down_pos e))

-- ---- a zero added
add_nothing : (s u : Bool) (a b c : ℕ) → b ≡ 0 → 0 < c
    → (sum binary32 s a u b c ≡ round binary32 s a c) ⊎ ((a ≡ 0) × (sum binary32 s a u b c ≡ fin false 0 (pos 0)))
unfolding sum
add_nothing true true a b c z C = inl (ap (λ (k : ℕ). round binary32 true k c) (omega arith))
add_nothing false false a b c z C = inl (ap (λ (k : ℕ). round binary32 false k c) (omega arith))
add_nothing false true a b c z C = inl (rw (le-ltb a b (omega arith)) (ap (λ (k : ℕ). round binary32 false k c) (omega arith)))
add_nothing true false a b c z C = rw (le-ltb a b (omega arith)) (go (ltb b a) refl)
  where
    go : (t : Bool) → ltb b a ≡ t → (round binary32 t (a - b) c ≡ round binary32 true a c) ⊎ ((a ≡ 0) × (round binary32 t (a - b) c ≡ fin false 0 (pos 0)))
    go true h = inl (ap (λ (k : ℕ). round binary32 true k c) (omega arith))
    go false h = let l = ltb-false b a h in inr (omega arith, round_0 binary32 false (a - b) c (omega arith) C)

-- ---- what has the value compares equal
level_itself : (s : Bool) (a b : ℕ) → a ≡ b → (eqb a b && (beq s s || eqb a 0)) ≡ true
level_itself true a b h = rw (eq-eqb a b h)
level_itself false a b h = rw (eq-eqb a b h)

of_value : (x : Float) (s : Bool) (m : ℕ) (e : ℤ) → HasValue x s (m * up e) (down e) → eq x (fin s m e) ≡ true
unfolding eq
of_value nan s m e v = absurd v
of_value (inf t) s m e v = absurd v
of_value (fin t k g) s m e v =
    subst (λ (w : Bool). level w (k * up g * down e) s (m * up e * down g) ≡ true) (sym v.0) (level_itself s (k * up g * down e) (m * up e * down g) v.1)

both_zero : (s : Bool) (a b : ℕ) → a ≡ 0 → b ≡ 0 → level false a s b ≡ true
both_zero s a b p q = rw (p, q) (go s)
  where
    go : (s : Bool) → level false 0 s 0 ≡ true
    go true = refl
    go false = refl

-- ---- the sum: r / g is the number's own value
none : (m r e g : ℕ) → 0 < g → r * 1 ≡ 0 → r * e ≡ m * g → m * 1 ≡ 0
none m r e g G z h =
    let y : r ≡ 0 = omega arith in
    mul-one m ∙ eq_of_mul-eq-mul_right g G m 0 (sym h ∙ ap (λ (k : ℕ). k * e) y ∙ zero-mul e ∙ sym (zero-mul g))

same : (m r e g : ℕ) → r * e ≡ m * g → r * 1 * e ≡ m * (g * 1)
same m r e g h = rw (mul-one r, mul-one g) h

sum_stays : (s u : Bool) (m : ℕ) (e : ℤ) (r g : ℕ) → T (fits binary32 (fin s m e)) → 0 < g → r * down e ≡ m * up e * g
    → eq (sum binary32 s (r * 1) u (0 * g) (g * 1)) (fin s m e) ≡ true
unfolding eq
sum_stays s u m e r g f G h =
    let C : 0 < g * 1 = omega arith in
    elim (add_nothing s u (r * 1) (0 * g) (g * 1) (zero-mul g) C) [
      | inl i ↦
          rw (i, round_same binary32 s (r * 1) (g * 1) (m * up e) (down e) C (down_pos e) (same (m * up e) r (down e) g h))
          (of_value (round binary32 s (m * up e) (down e)) s m e (held_exact binary32 s m e f))
      | inr z ↦ rw z.1 (both_zero s (0 * down e) (m * up e * 1) (zero-mul (down e)) (none (m * up e) r (down e) g G z.0 h))
    ]

stays : (x : Float) (s : Bool) (m : ℕ) (e : ℤ) (u : Bool) → T (fits binary32 (fin s m e)) → HasValue x s (m * up e) (down e)
    → eq (add binary32 x (fin u 0 (pos 0))) (fin s m e) ≡ true
unfolding add
stays nan s m e u f v = absurd v
stays (inf t) s m e u f v = absurd v
stays (fin t k g) s m e u f v =
    subst (λ (w : Bool). eq (sum binary32 w (k * up g * 1) u (0 * down g) (down g * 1)) (fin s m e) ≡ true) (sym v.0)
    (sum_stays s u m e (k * up g) (down g) f (down_pos g) v.1)

pub lerp_by_0_stays : LerpBy0Stays
unfolding lerp_of is_finite sub of_bits
lerp_by_0_stays nan b f p q = absurd (false≢true p)
lerp_by_0_stays (inf s) b f p q = absurd (false≢true p)
lerp_by_0_stays (fin s m e) nan f p q = absurd (false≢true q)
lerp_by_0_stays (fin s m e) (inf u) f p q = absurd (false≢true q)
lerp_by_0_stays (fin s m e) (fin u n d) f p q =
    rw (once s m e, nothing u n d) (stays (round binary32 s (m * up e) (down e)) s m e u f (held_exact binary32 s m e f))
