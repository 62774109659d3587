-- "offset x, y and velocity x, y as eight lower-case hexadecimal digits of their bits; stuck flags x, y as two digits", with single spaces.
use Rattle.std.specs.Prelude.{Bool, false, ℕ, List, [], ◌∷◌, ◌++◌, get_or, Float}
use Rattle.std.specs.Float.{nan}
use Rattle.listing.specs.Digits.{digits_of, flag_of}

unfoldable pub place_of : List Float → List Float → List Bool → List ℕ
place_of offset vel stuck =
    digits_of (get_or offset 0 nan)
    ++ (32
    ∷ (digits_of (get_or offset 1 nan)
    ++ (32
    ∷ (digits_of (get_or vel 0 nan)
    ++ (32
    ∷ (digits_of (get_or vel 1 nan)
    ++ (32 ∷ flag_of (get_or stuck 0 false) ∷ flag_of (get_or stuck 1 false) ∷ [])))))))
