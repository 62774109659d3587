-- One halving: the code's, by the number of halvings left, is the definition's; and where the half lies. Assumes nothing.
use Rattle.std.proofs.Common.{◌≡◌, ℕ, zero, suc, ◌-◌, Bool, true, false, ◌&&◌, T, ltb, pos, sym, refl, ap, ◌∙◌, subst, zero-lt-suc, sub-one, lt-ltb}
use mathlib.Core.Bool.{false≢true}
use lib.Ieee.{Float, fin, neg, div, of_bits, lt, le, eq}
use lib.Ieee.Bits.{is_true}
use lib.Ieee.Fits.{and_r}
use Rattle.numbers.specs.F32.{over, two, sixteen, eighty}
use Rattle.numbers.specs.F32 as F32
use Rattle.numbers.specs.Scalar.{powi2_of, is_finite}
use Rattle.numbers.specs.Table.{Table}
use Rattle.numbers.specs.Exp.{by_table, halved_of, exp_of}
use Rattle.numbers.proofs.WithinLaws.{Within, wider, at_least, quotient}

-- ---- the code's halving

pub halves : (table : Table) (left : ℕ) (x e : Float) → (ltb 0 left && lt x (neg sixteen)) ≡ true → e ≡ halved_of table (left - 1) (over x two)
    → powi2_of e ≡ halved_of table left x
unfolding halved_of
halves table zero x e h is = absurd (false≢true h)
halves table (suc left) x e h is =
    let below = is_true (lt x (neg sixteen)) (and_r (ltb 0 (suc left)) (lt x (neg sixteen)) (subst T (sym h) tt)) in
    rw (is, sub-one (suc left), below)

pub rests : (table : Table) (left : ℕ) (x : Float) → (ltb 0 left && lt x (neg sixteen)) ≡ false → by_table table x ≡ halved_of table left x
unfolding halved_of
rests table zero x h = refl
rests table (suc left) x h = rw (sym (ap (λ (t : Bool). t && lt x (neg sixteen)) (lt-ltb 0 (suc left) (zero-lt-suc left))) ∙ h)

-- ---- the definition's

pub goes_on : (table : Table) (left : ℕ) (x : Float) → lt x (neg sixteen) ≡ true → halved_of table (suc left) x ≡ powi2_of (halved_of table left (over x two))
unfolding halved_of
goes_on table left x h = rw h

pub stops : (table : Table) (left : ℕ) (x : Float) → lt x (neg sixteen) ≡ false → halved_of table left x ≡ by_table table x
unfolding halved_of
stops table zero x h = refl
stops table (suc left) x h = rw h

-- x from -5 × 2^j to 0: -10, -20, -40, -80
abbrev pub From : ℕ → Float → Type 0
From j x = Within (fin true 5 (pos j)) F32.zero x

-- what a computation shows of each j here: half of -5 × 2^(j + 1) is -5 × 2^j
abbrev pub IsHalf : ℕ → Type 0
IsHalf j = T (le (fin true 5 (pos j)) (over (fin true 5 (pos (suc j))) two))

pub half_from : (j : ℕ) → IsHalf j → (x : Float) → From (suc j) x → From j (over x two)
unfolding is_finite div of_bits le lt eq
half_from j h x w =
    wider (over (fin true 5 (pos (suc j))) two) (over F32.zero two) (fin true 5 (pos j)) F32.zero (over x two) h tt
    (quotient (fin true 5 (pos (suc j))) F32.zero x 0 (pos 1) (record { low = refl; high = refl }) w)

pub below_80 : (table : Table) (x : Float) → lt x (neg eighty) ≡ true → exp_of table x ≡ F32.zero
unfolding exp_of
below_80 table x h = rw h

pub from_80 : (table : Table) (x : Float) → lt x (neg eighty) ≡ false → exp_of table x ≡ halved_of table 3 x
unfolding exp_of
from_80 table x h = rw h

-- x from -80 to 0
pub reached : (x : Float) → T (le x F32.zero) → lt x (neg eighty) ≡ false → From 4 x
unfolding neg of_bits
reached x l h = (at_least x true 5 (pos 4) l h, l)
