-- "the number kept after each word, one digit a word (104 digits)", and a line feed.
use Rattle.std.specs.Prelude.{ℕ, zero, suc, ◌+◌, List, [], ◌∷◌, ◌++◌}
use Rattle.area.specs.Sweep.{swept_of}

-- the digit of what is kept after the first n words, as ASCII
unfoldable pub digit_after : List ℕ → ℕ → ℕ
digit_after s n = 48 + (swept_of s n).kept

-- those of k words after the first n
unfoldable pub digits_from : List ℕ → ℕ → ℕ → List ℕ
digits_from s n zero = []
digits_from s n (suc k) = digit_after s (suc n) ∷ digits_from s (suc n) k

unfoldable pub line_of : List ℕ → List ℕ
line_of s = digits_from s 0 104 ++ (10 ∷ [])
