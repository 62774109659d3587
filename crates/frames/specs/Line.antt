-- "prints a line each ..: refusal or 0; offset x, y and velocity x, y as eight lower-case hexadecimal digits of their bits; stuck
-- flags x, y as two digits".
use Rattle.std.specs.Prelude.{ℕ, ◌+◌, ◌/◌, ◌%◌, Bool, false, cond, List, [], ◌∷◌, ◌++◌, ltb, get_or, Float}
use Rattle.std.specs.Float.{nan}
use Rattle.listing.specs.Digits.{digits_of, flag_of}

-- the last decimal digit of n, as ASCII
abbrev pub digit_of : ℕ → ℕ
digit_of n = 48 + n % 10

-- a refusal in decimal; it has two digits at most
unfoldable pub decimal_of : ℕ → List ℕ
decimal_of n = cond (ltb n 10) (digit_of n ∷ []) (digit_of (n / 10) ∷ digit_of n ∷ [])

-- the line behind its refusal, with single spaces and a line feed
abbrev pub rest_of : List Float → List Float → List Bool → List ℕ
rest_of offset vel stuck =
    32
    ∷ (digits_of (get_or offset 0 nan)
    ++ (32
    ∷ (digits_of (get_or offset 1 nan)
    ++ (32
    ∷ (digits_of (get_or vel 0 nan)
    ++ (32
    ∷ (digits_of (get_or vel 1 nan)
    ++ (32 ∷ flag_of (get_or stuck 0 false) ∷ flag_of (get_or stuck 1 false) ∷ 10 ∷ []))))))))

unfoldable pub line_of : ℕ → List Float → List Float → List Bool → List ℕ
line_of refusal offset vel stuck = decimal_of refusal ++ rest_of offset vel stuck

-- with two digits for the refusal, whatever it is
unfoldable pub wide_line_of : ℕ → List Float → List Float → List Bool → List ℕ
wide_line_of refusal offset vel stuck = digit_of (refusal / 10) ∷ digit_of refusal ∷ rest_of offset vel stuck
