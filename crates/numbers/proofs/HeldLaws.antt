-- A number that its format holds is what it is rounded to. Assumes nothing.
use Rattle.std.proofs.Common.{◌≡◌, ℕ, zero, suc, ◌+◌, ◌-◌, ◌*◌, ◌%◌, ◌^◌, ◌<◌, ◌≤◌, Bool, ◌&&◌, T, eqb, ltb, leb, ℤ, pos, negsuc, sym, refl, ap, ◌∙◌, subst, lt_of_lt_of_le, le_of_suc-le-suc, lt_irrefl, zero-lt-suc, mul_assoc, add_comm, lt_of_not-le, mul-one, sub-add_cancel, arith, ltb→lt, leb→le, pow_pos, pow_mono, pow-add, shl_lt}
use lib.Pow.{pow-lt}
use lib.Ieee.{Float, Format, fin, binary32, binary64, prec, emax, low, up, down, round, fits}
use lib.Ieee.Fits.{down_pos, reach, and_l, and_r}
use lib.Ieee.Exact.{HasValue, round_exact}
use lib.Ieee.Scale.{round_same}

-- what `fits` says of a number that is not 0
pub says : (f : Format) (s : Bool) (m : ℕ) (e : ℤ) → T (fits f (fin s (suc m) e))
    → (suc m < 2 ^ prec f) × (down e ≤ 2 ^ low f) × (suc m * up e < 2 ^ suc (emax f) * down e)
unfolding fits
says f s m e t =
    let A = eqb (suc m % 2) 1 in
    let B = ltb (suc m) (2 ^ prec f) in
    let C = leb (down e) (2 ^ low f) in
    let D = ltb (suc m * up e) (2 ^ suc (emax f) * down e) in
    let abc = and_l (A && B && C) D t in (
      ltb→lt (suc m) (2 ^ prec f) (and_r A B (and_l (A && B) C abc)),
      leb→le (down e) (2 ^ low f) (and_r (A && B) C abc),
      ltb→lt (suc m * up e) (2 ^ suc (emax f) * down e) (and_r (A && B && C) D t),
    )

pub round_0 : (f : Format) (s : Bool) (a c : ℕ) → a ≡ 0 → 0 < c → round f s a c ≡ fin s 0 (pos 0)
unfolding round
round_0 binary32 s a c e h = round_same binary32 s a c 0 1 h (omega arith) (omega arith)
round_0 binary64 s a c e h = round_same binary64 s a c 0 1 h (omega arith) (omega arith)

pub pow_le_back : (a l : ℕ) → 2 ^ a ≤ 2 ^ l → a ≤ l
pow_le_back a l h = le_of_suc-le-suc (lt_of_not-le (λ (g : suc l ≤ a). lt_irrefl (2 ^ l) (lt_of_lt_of_le (pow-lt g) h)))

pub whole_exact : (f : Format) (s : Bool) (m a : ℕ) → m < 2 ^ prec f → m * 2 ^ a < 2 ^ suc (emax f) → HasValue (round f s (m * 2 ^ a) 1) s (m * 2 ^ a) 1
whole_exact f s m a h k =
    let l = low f in
    let j : m * 2 ^ a * 2 ^ l ≡ m * 2 ^ (a + l) = mul_assoc m (2 ^ a) (2 ^ l) ∙ ap (λ (z : ℕ). m * z) (sym (pow-add 2 a l)) in
    let b : m * 2 ^ (a + l) < 2 ^ (l + suc (emax f)) = subst (λ (z : ℕ). m * 2 ^ (a + l) < 2 ^ z) (add_comm (suc (emax f)) l) (subst (λ (z : ℕ). z < 2 ^ (suc (emax f) + l)) j (shl_lt (suc (emax f)) l k)) in
    round_exact f s (m * 2 ^ a) 1 m (a + l) (zero-lt-suc 0) h b (j ∙ sym (mul-one (m * 2 ^ (a + l))))

pub part_exact : (f : Format) (s : Bool) (m a : ℕ) → m < 2 ^ prec f → a ≤ low f → HasValue (round f s (m * 1) (2 ^ a)) s (m * 1) (2 ^ a)
part_exact f s m a h k =
    let j = low f - a in
    let e : m * 1 * 2 ^ low f ≡ m * 2 ^ j * 2 ^ a =
    ap (λ (z : ℕ). z * 2 ^ low f) (mul-one m)
    ∙ ap (λ (z : ℕ). m * 2 ^ z) (sym (sub-add_cancel k))
    ∙ ap (λ (z : ℕ). m * z) (pow-add 2 j a)
    ∙ sym (mul_assoc m (2 ^ j) (2 ^ a)) in
    let room : prec f + j ≤ low f + suc (emax f) = omega (arith, reach f) in
    round_exact f s (m * 1) (2 ^ a) m j (pow_pos a) h (lt_of_lt_of_le (shl_lt (prec f) j h) (pow_mono room)) e

pub held_exact : (f : Format) (s : Bool) (m : ℕ) (e : ℤ) → T (fits f (fin s m e)) → HasValue (round f s (m * up e) (down e)) s (m * up e) (down e)
held_exact f s zero e t = subst (λ (x : Float). HasValue x s (0 * up e) (down e)) (sym (round_0 f s (0 * up e) (down e) (omega arith) (down_pos e))) (refl, omega arith)
held_exact f s (suc m) (pos k) t = let h = says f s m (pos k) t in whole_exact f s (suc m) k h.0 (subst (λ (z : ℕ). suc m * 2 ^ k < z) (mul-one (2 ^ suc (emax f))) h.2)
held_exact f s (suc m) (negsuc k) t = let h = says f s m (negsuc k) t in part_exact f s (suc m) (suc k) h.0 (pow_le_back (suc k) (low f) h.1)
