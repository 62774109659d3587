-- The line from its parts, the refusal's two digits, four groups of eight digits and two flags; and where the refusal has one digit it begins
-- behind the first of two. Assumes nothing.
use Rattle.std.proofs.Common.{◌≡◌, ℕ, ◌/◌, ◌<◌, ◌≤◌, Bool, false, List, [], ◌∷◌, Float, get_or, slice_index_or, arith}
use borrow.Rule.Slice.PartMut.{mid_of}
use Rattle.std.specs.Float.{nan}
use Rattle.std.proofs.lemmas.Bool.Decides.{nat_tests}
use Rattle.listing.specs.Digits.{digits_of, digits_of_word, flag_of}
use Rattle.frames.specs.Line.{digit_of, decimal_of, line_of, wide_line_of}

abbrev assembled : ℕ → ℕ → List ℕ → List ℕ → List ℕ → List ℕ → ℕ → ℕ → List ℕ
assembled f g a b c d p q = f ∷ g ∷ 32 ∷ slice_index_or a 0 0 ∷ slice_index_or a 1 0 ∷ slice_index_or a 2 0 ∷ slice_index_or a 3 0 ∷ slice_index_or a 4 0 ∷ slice_index_or a 5 0 ∷ slice_index_or a 6 0 ∷ slice_index_or a 7 0 ∷ 32 ∷ slice_index_or b 0 0 ∷ slice_index_or b 1 0 ∷ slice_index_or b 2 0 ∷ slice_index_or b 3 0 ∷ slice_index_or b 4 0 ∷ slice_index_or b 5 0 ∷ slice_index_or b 6 0 ∷ slice_index_or b 7 0 ∷ 32 ∷ slice_index_or c 0 0 ∷ slice_index_or c 1 0 ∷ slice_index_or c 2 0 ∷ slice_index_or c 3 0 ∷ slice_index_or c 4 0 ∷ slice_index_or c 5 0 ∷ slice_index_or c 6 0 ∷ slice_index_or c 7 0 ∷ 32 ∷ slice_index_or d 0 0 ∷ slice_index_or d 1 0 ∷ slice_index_or d 2 0 ∷ slice_index_or d 3 0 ∷ slice_index_or d 4 0 ∷ slice_index_or d 5 0 ∷ slice_index_or d 6 0 ∷ slice_index_or d 7 0 ∷ 32 ∷ p ∷ q ∷ 10 ∷ []

pub wide_line_is : (refusal : ℕ) (offset vel : List Float) (stuck : List Bool) (f g : ℕ) (a b c d : List ℕ) (p q : ℕ)
    → f ≡ digit_of (refusal / 10) → g ≡ digit_of refusal → a ≡ digits_of (get_or offset 0 nan) → b ≡ digits_of (get_or offset 1 nan) → c ≡ digits_of (get_or vel 0 nan)
    → d ≡ digits_of (get_or vel 1 nan) → p ≡ flag_of (get_or stuck 0 false) → q ≡ flag_of (get_or stuck 1 false)
    → assembled f g a b c d p q ≡ wide_line_of refusal offset vel stuck
unfolding wide_line_of digits_of_word
wide_line_is refusal offset vel stuck f g a b c d p q hf hg ha hb hc hd hp hq = rw (hf, hg, ha, hb, hc, hd, hp, hq)

module _ (refusal : ℕ) (offset vel : List Float) (stuck : List Bool) where
  pub one_digit : (wide : List ℕ) → wide ≡ wide_line_of refusal offset vel stuck → refusal < 10 → mid_of 1 41 wide ≡ line_of refusal offset vel stuck
  unfolding wide_line_of line_of decimal_of digits_of_word
  one_digit wide is small = rw is (grind (arith, nat_tests))

  pub two_digits : 10 ≤ refusal → wide_line_of refusal offset vel stuck ≡ line_of refusal offset vel stuck
  unfolding wide_line_of line_of decimal_of
  two_digits large = grind (arith, nat_tests)
