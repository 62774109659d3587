-- The number that a bit pattern stands for, written and read back, is the same.
use Rattle.std.specs.Prelude.{◌≡◌, ℕ, from_bits, to_bits}
use Rattle.std.specs.Float.{Format}
use lib.Ieee.Bits.{of_bits-to_bits, of_bits-fits}

pub reads_back : (f : Format) (bits : ℕ) → from_bits f (to_bits f (from_bits f bits)) ≡ from_bits f bits
reads_back f bits = of_bits-to_bits f (from_bits f bits) (of_bits-fits f bits)
