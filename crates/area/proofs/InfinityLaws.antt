-- One pattern is that of +infinity. Assumes nothing.
use Rattle.std.specs.Prelude.{◌≡◌, ℕ, ◌^◌, ◌<◌, Bool, true, false, not, T, eqb}
use mathlib.Core.Path.{refl, sym, ap, ◌∙◌, subst}
use borrow.Author.Tests.{eqb-true, eqb-false}
use lib.Ieee.{Float, nan, inf, fin, binary32, div, eq, ne, is_nan, of_bits, to_bits}
use lib.Ieee.Bits.{to_bits-of_bits}
use Rattle.area.specs.Checks.{infinity}

-- what is read from a pattern as +infinity was written so
read_back : (w : ℕ) → w < 2 ^ 32 → of_bits binary32 w ≡ inf false → w ≡ 0x7f80_0000
unfolding is_nan to_bits
read_back w W e = sym (to_bits-of_bits binary32 w W (subst (λ (v : Float). T (not (is_nan v))) (sym e) tt)) ∙ ap (to_bits binary32) e

differs : (v : Float) → (v ≡ inf false → ⊥) → ne v infinity ≡ true
unfolding ne eq div of_bits
differs nan h = refl
differs (inf true) h = refl
differs (inf false) h = absurd (h refl)
differs (fin s m e) h = refl

same : ne (of_bits binary32 0x7f80_0000) infinity ≡ false
unfolding ne eq div of_bits
same = refl

pub word_not_infinity : (w : ℕ) → w < 2 ^ 32 → not (eqb w 0x7f80_0000) ≡ ne (of_bits binary32 w) infinity
word_not_infinity w W = go (eqb w 0x7f80_0000) refl
  where
    go : (b : Bool) → eqb w 0x7f80_0000 ≡ b → not b ≡ ne (of_bits binary32 w) infinity
    go true h = sym (ap (λ (y : ℕ). ne (of_bits binary32 y) infinity) (eqb-true w 0x7f80_0000 h) ∙ same)
    go false h = sym (differs (of_bits binary32 w) (λ e. eqb-false w 0x7f80_0000 h (read_back w W e)))
