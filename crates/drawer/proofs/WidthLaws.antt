-- Where the records of any width stand.
use mathlib.Core.Path.{◌≡◌}
use Prim.Native.Nat.{ℕ, suc, ◌+◌, ◌*◌, ◌<◌, ◌≤◌}
use native.Mathlib.Nat.{mul-suc, mul-le-mul_left, le-mul_of_pos_right, eq_of_mul-eq-mul_left}
use native.Mathlib.Omega.{arith}

pub same_record : (width r q : ℕ) → 0 < width → width * r ≡ width * q → r ≡ q
same_record width r q some e = eq_of_mul-eq-mul_left width some r q e

-- a record's link is none of the heads
pub past_heads : (width r : ℕ) → 0 < r → width ≤ width * r
past_heads width r some = le-mul_of_pos_right width some

-- a record ends before the next one begins
pub next_record : (width r n : ℕ) → r < n → width * r + width ≤ width * n
next_record width r n h = omega (arith, mul-suc width r, mul-le-mul_left {m = suc r} {n = n} width h)
