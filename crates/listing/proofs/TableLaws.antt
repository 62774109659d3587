-- No bytes stand for T. Assumes nothing.
use Rattle.std.proofs.Common.{◌≡◌, ℕ, List, [], ◌∷◌, refl, length, arith}
use Rattle.numbers.specs.Table.{table_at, table_of}

pub of_none : (bytes : List ℕ) → length bytes ≡ 0 → table_of bytes ≡ table_at
unfolding table_of
of_none [] e = refl
of_none (b ∷ bytes) e = absurd (omega arith)
