-- A step's line: "step", the words of its call, "=", the refusal or 0 in decimal, offset and velocity as the digits of their bits, and
-- whether it moves as a digit, with single spaces.
use Rattle.std.specs.Prelude.{ℕ, List, [], ◌∷◌, ◌++◌}
use Rattle.std.specs.Fmt.{decimal}
use Rattle.axis.specs.declared.step.Stepped.{Stepped}
use Rattle.listing.specs.Digits.{digits_of, digits_of_words, words_of, flag_of}

unfoldable pub line_of : List ℕ → ℕ → Stepped → List ℕ
line_of call refusal stepped =
    115
    ∷ 116
    ∷ 101
    ∷ 112
    ∷ (digits_of_words (words_of call)
    ++ (32
    ∷ 61
    ∷ 32
    ∷ (decimal refusal
    ++ (32
    ∷ (digits_of stepped.offset
    ++ (32
    ∷ (digits_of stepped.vel
    ++ (32 ∷ flag_of stepped.moving ∷ []))))))))
