-- A whole number as a float, and the same with the other sign. Assumes nothing.
use Rattle.std.proofs.Common.{◌≡◌, ℕ, zero, suc, ◌+◌, ◌*◌, ◌^◌, ◌≤◌, Bool, true, false, cond, ltb, pos, sym, refl, ap, ◌∙◌}
use lib.Ieee.{inf, Format, binary32, prec, emax, low, odd, units, round, neg, of_int}
use lib.Ieee.Fits.{round_is}
use lib.Ieee.Exact.{HasValue}
use lib.Ieee.Back.{round_whole}

neg_odd : (d q k l : ℕ) → neg (odd d false q k l) ≡ odd d true q k l
unfolding neg odd
neg_odd d zero k l = refl
neg_odd d (suc q) k l = refl

neg_units : (f : Format) (q k : ℕ) → neg (units f false q k) ≡ units f true q k
unfolding units neg
neg_units f q k = go (ltb (q * 2 ^ k) (2 ^ (low f + suc (emax f))))
  where
    go : (b : Bool) → neg (cond b (odd (suc (prec f)) false q k (low f)) (inf false)) ≡ cond b (odd (suc (prec f)) true q k (low f)) (inf true)
    go true = neg_odd (suc (prec f)) q k (low f)
    go false = refl

pub neg_round : (f : Format) (a c : ℕ) → neg (round f false a c) ≡ round f true a c
neg_round f a c = ap neg (round_is f false a c) ∙ neg_units f _ _ ∙ sym (round_is f true a c)

pub value : (k : ℕ) → k ≤ 2 ^ 24 → HasValue (of_int binary32 (pos k)) false k 1
unfolding of_int
value k h = round_whole binary32 false k h
