-- "eight lower-case hexadecimal digits of their bits".
use Rattle.std.specs.Prelude.{ℕ, ◌+◌, ◌/◌, ◌%◌, Bool, cond, List, [], ◌∷◌, length, map, ltb, Float}
use Rattle.std.specs.Int.{w32, from_le_bytes}
use Rattle.std.specs.Simd.{first_chunks}
use Rattle.std.specs.Float.{binary32}
use Rattle.std.specs.Float.Ieee.{to_bits}
use Rattle.std.specs.List.{flat_map}

-- the last hexadecimal digit of w, as ASCII in lower case
unfoldable pub glyph_of : ℕ → ℕ
glyph_of w = cond (ltb (w % 16) 10) (48 + w % 16) (87 + w % 16)

unfoldable pub digits_of_word : ℕ → List ℕ
digits_of_word w =
    glyph_of (w / 268435456)
    ∷ glyph_of (w / 16777216)
    ∷ glyph_of (w / 1048576)
    ∷ glyph_of (w / 65536)
    ∷ glyph_of (w / 4096)
    ∷ glyph_of (w / 256)
    ∷ glyph_of (w / 16)
    ∷ glyph_of w
    ∷ []

abbrev pub digits_of : Float → List ℕ
digits_of x = digits_of_word (to_bits binary32 x)

-- each word behind a space
abbrev pub digits_of_words : List ℕ → List ℕ
digits_of_words words = flat_map (λ (w : ℕ). 32 ∷ digits_of_word w) words

-- the whole little-endian words of bytes
abbrev pub words_of : List ℕ → List ℕ
words_of bytes = map (from_le_bytes w32) (first_chunks 4 (length bytes / 4) bytes)

-- a flag as a digit, in ASCII
unfoldable pub flag_of : Bool → ℕ
flag_of b = cond b 49 48
