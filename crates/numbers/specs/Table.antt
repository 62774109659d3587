-- The table that exp reads: document 01's T, or a maker's own (document 02, K4).
use Rattle.std.specs.Prelude.{◌≡◌, ℕ, zero, suc, ◌*◌, ◌/◌, ◌^◌, ◌<◌, ◌≤◌, min, Bool, cond, not, ◌&&◌, List, length, ◌==◌, nat_lt}
use Rattle.words.specs.Words.{long_at}

-- a table's entries, by their number from 0 to 1,024
abbrev pub Table : Type 0
Table = ℕ → ℕ

-- "T[0] = 2^40, T[k+1] = T[k] × 48,769 / 49,537 rounded down"
unfoldable pub table_at : Table
table_at zero = 2 ^ 40
table_at (suc k) = table_at k * 48769 / 49537

-- the first entry is 2^40, and none of the n after it is "above the one before it"
unfoldable pub is_ordered : List ℕ → ℕ → Bool
is_ordered bytes zero = long_at bytes 0 == 2 ^ 40
is_ordered bytes (suc n) = is_ordered bytes n && not (nat_lt (long_at bytes n) (long_at bytes (suc n)))

-- "It refuses, as 10, a length other than 8,200 bytes, and next, as 11, a first entry other than 2^40 or an entry above the one before it"
unfoldable pub load_of : List ℕ → ℕ
load_of bytes = cond (length bytes == 8200) (cond (is_ordered bytes 1024) 0 11) 10

-- the table that bytes stand for when they are lent: 8,200 are read, "1,025 numbers, each 64 bits, little-endian", and bytes of any other
-- length, none among them, stand for T. A number above 2^40, which no table that loads has (`Served`), counts as 2^40. Behind the last
-- entry, where nothing reads, every table goes on as T does, so that T lent is T.
unfoldable pub table_of : List ℕ → Table
table_of bytes k = cond (length bytes == 8200 && nat_lt k 1025) (min (long_at bytes k) (2 ^ 40)) (table_at k)

-- ---- what holds of it (proofs/TableLaws.antt and LoadLaws.antt)

-- what loading asks of a table, as a law of exp uses it: its first entry and their order
pub record IsTable (table : Table) : Type 0 where
  pub first : table 0 ≡ 2 ^ 40
  pub falls : (k : ℕ) → k < 1024 → table (suc k) ≤ table k

-- bytes that load are a table, and serve as they stand
pub record Served (bytes : List ℕ) : Type 0 where
  pub whole : length bytes ≡ 8200
  pub ordered : IsTable (long_at bytes)
  pub read : (k : ℕ) → k < 1025 → table_of bytes k ≡ long_at bytes k

-- loading answers 0 exactly to these
abbrev pub Loads : List ℕ → ℕ → Type 0
Loads bytes answer = (answer ≡ 0 → Served bytes) × (length bytes ≡ 8200 → IsTable (long_at bytes) → answer ≡ 0)
