-- What `{:08x}` prints of a word is its eight digits, and of a flag's number its digit. Assumes nothing.
use Rattle.std.proofs.Common.{◌≡◌, ℕ, zero, suc, ◌+◌, ◌-◌, ◌/◌, ◌%◌, ◌^◌, ◌<◌, ◌≤◌, Bool, true, false, List, [], ◌∷◌, ◌++◌, refl, sym, ap, ◌∙◌, arith, length, replicate, eq-eqb, eqb-true}
use mathlib.Core.List.{append-nil}
use mathlib.Core.Bool.{cond}
use native.Mathlib.Nat.{pow-suc, sub-zero, div-div-eq-div-mul}
use lib.Dec.{eqb}
use mir.Val.{bool_byte}
use Rattle.std.specs.Fmt.{decimal, digits, digits_onto, digit_glyph, padded_integral, format_spec, char_count}
use Rattle.std.proofs.lemmas.Fmt.{decimal_digit}
use Rattle.listing.specs.Digits.{glyph_of, digits_of_word, flag_of}

-- ---- the digits of a number, one more before those there are

module _ (n : ℕ) (acc : List ℕ) where
  by_test : (k : ℕ) (t : Bool) → eqb (n / 16) 0 ≡ t → digits_onto (suc k) 16 false n acc ≡ cond t (digit_glyph false (n % 16) ∷ acc) (digits_onto k 16 false (n / 16) (digit_glyph false (n % 16) ∷ acc))
  by_test k t e = ap (λ (b : Bool). cond b (digit_glyph false (n % 16) ∷ acc) (digits_onto k 16 false (n / 16) (digit_glyph false (n % 16) ∷ acc))) e

-- the last k digits of n, before acc
fixed : ℕ → ℕ → List ℕ → List ℕ
fixed zero n acc = acc
fixed (suc k) n acc = fixed k (n / 16) (digit_glyph false (n % 16) ∷ acc)

zeros_before : (k : ℕ) (acc : List ℕ) → replicate k 48 ++ (48 ∷ acc) ≡ (48 ∷ replicate k 48) ++ acc
zeros_before zero acc = refl
zeros_before (suc k) acc = ap (λ (l : List ℕ). 48 ∷ l) (zeros_before k acc)

fixed_zero : (k : ℕ) (acc : List ℕ) → fixed k 0 acc ≡ replicate k 48 ++ acc
unfolding fixed
fixed_zero zero acc = refl
fixed_zero (suc k) acc = fixed_zero k (48 ∷ acc) ∙ zeros_before k acc

-- zeros up to k digits, and these
abbrev filled : ℕ → List ℕ → List ℕ → List ℕ
filled k acc shown = replicate ((k + length acc) - length shown) 48 ++ shown

last : (k j n : ℕ) (acc : List ℕ) → eqb (n / 16) 0 ≡ true → filled (suc k) acc (digits_onto (suc j) 16 false n acc) ≡ fixed (suc k) n acc
unfolding fixed
last k j n acc e =
    let none : n / 16 ≡ 0 = eqb-true _ 0 e in
    let counted : (suc k + length acc) - suc (length acc) ≡ k = omega arith in
    rw (by_test n acc j true e, counted, none) (sym (fixed_zero k (digit_glyph false (n % 16) ∷ acc)))

filled_is : (k j n : ℕ) (acc : List ℕ) → n < 16 ^ suc k → k ≤ j → filled (suc k) acc (digits_onto (suc j) 16 false n acc) ≡ fixed (suc k) n acc
unfolding fixed
filled_is zero j n acc small le = last zero j n acc (eq-eqb _ 0 (omega (arith, small)))
filled_is (suc k) zero n acc small le = absurd (omega arith)
filled_is (suc k) (suc j) n acc small le =
    let front : n / 16 < 16 ^ suc k = omega (arith, small, pow-suc 16 (suc k)) in
    by_case (eqb (n / 16) 0) refl (filled_is k j (n / 16) (digit_glyph false (n % 16) ∷ acc) front (omega arith))
  where
    counted : (suc (suc k) + length acc) ≡ (suc k + suc (length acc))
    counted = omega arith

    by_case : (t : Bool) → eqb (n / 16) 0 ≡ t
        → filled (suc k) (digit_glyph false (n % 16) ∷ acc) (digits_onto (suc j) 16 false (n / 16) (digit_glyph false (n % 16) ∷ acc)) ≡ fixed (suc k) (n / 16) (digit_glyph false (n % 16) ∷ acc)
        → filled (suc (suc k)) acc (digits_onto (suc (suc j)) 16 false n acc) ≡ fixed (suc (suc k)) n acc
    by_case true e rest = last (suc k) (suc j) n acc e
    by_case false e rest = rw (by_test n acc (suc j) false e, counted) rest

-- ---- eight digits

glyph_is : (w n : ℕ) → w ≡ n → digit_glyph false (w % 16) ≡ glyph_of n
unfolding glyph_of
glyph_is w n e = rw e

digits_are : (w : ℕ) → fixed 8 w [] ≡ digits_of_word w
unfolding fixed digits_of_word
digits_are w =
    let two : w / 16 / 16 ≡ w / 256 = div-div-eq-div-mul w 16 16 in
    let three : w / 16 / 16 / 16 ≡ w / 4096 = ap (λ (x : ℕ). x / 16) two ∙ div-div-eq-div-mul w 256 16 in
    let four : w / 16 / 16 / 16 / 16 ≡ w / 65536 = ap (λ (x : ℕ). x / 16) three ∙ div-div-eq-div-mul w 4096 16 in
    let five : w / 16 / 16 / 16 / 16 / 16 ≡ w / 1048576 = ap (λ (x : ℕ). x / 16) four ∙ div-div-eq-div-mul w 65536 16 in
    let six : w / 16 / 16 / 16 / 16 / 16 / 16 ≡ w / 16777216 = ap (λ (x : ℕ). x / 16) five ∙ div-div-eq-div-mul w 1048576 16 in
    let seven : w / 16 / 16 / 16 / 16 / 16 / 16 / 16 ≡ w / 268435456 = ap (λ (x : ℕ). x / 16) six ∙ div-div-eq-div-mul w 16777216 16 in
    rw (glyph_is _ _ seven, glyph_is _ _ six, glyph_is _ _ five, glyph_is _ _ four, glyph_is _ _ three, glyph_is _ _ two, glyph_is (w / 16) _ refl, glyph_is w _ refl)

padded : (shown : List ℕ) → padded_integral (format_spec 32 0 4 8 (2 ^ 64 - 1)) false [] shown ≡ replicate (8 - length shown) 48 ++ shown
unfolding padded_integral char_count
padded shown = simp (append-nil, sub-zero)

onto : (w : ℕ) → digits 16 false w ≡ digits_onto 64 16 false w []
unfolding digits
onto w = refl

pub printed : (w : ℕ) → w < 2 ^ 32 → padded_integral (format_spec 32 0 4 8 (2 ^ 64 - 1)) false [] (digits 16 false w) ≡ digits_of_word w
printed w small = padded (digits 16 false w) ∙ ap (λ (l : List ℕ). replicate (8 - length l) 48 ++ l) (onto w) ∙ filled_is 7 63 w [] small (omega arith) ∙ digits_are w

-- ---- a flag

pub decimal_of_flag : (b : Bool) → decimal (bool_byte b) ≡ flag_of b ∷ []
unfolding flag_of
decimal_of_flag true = decimal_digit 1 (omega arith)
decimal_of_flag false = decimal_digit 0 (omega arith)
