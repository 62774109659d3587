-- What a reading that comes to nothing leaves, and what one of padded bytes takes.
use Rattle.std.specs.Prelude.{◌≡◌, ℕ, ◌<◌, List, ◌++◌, length, take, Option}
use Rattle.std.specs.Int.{w32, to_le_bytes}
use Rattle.std.specs.Io.KnownBytes.{Consumes, IsAtEnd}

-- fewer than n bytes were left, and none is now
abbrev pub IsCutShort : Option (List ℕ) → Option (List ℕ) → ℕ → Type 0
IsCutShort old new n = ((bytes : List ℕ) × Consumes old new bytes × (length bytes < n)) × IsAtEnd new

-- read were a word, the number of these bytes, and n bytes that begin with them
abbrev pub IsPadded : Option (List ℕ) → Option (List ℕ) → ℕ → List ℕ → Type 0
IsPadded old new n bytes =
    (all : List ℕ) × Consumes old new (to_le_bytes w32 (length bytes) ++ all) × (length all ≡ n) × (take (length bytes) all ≡ bytes)

-- read were a word above n, and n bytes
abbrev pub IsTooLong : Option (List ℕ) → Option (List ℕ) → ℕ → Type 0
IsTooLong old new n = (word : ℕ) × (all : List ℕ) × Consumes old new (to_le_bytes w32 word ++ all) × (length all ≡ n) × (n < word)
