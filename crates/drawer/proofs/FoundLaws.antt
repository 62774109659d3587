-- What a search in a drawer finds lies in the buffer.
use mathlib.Core.Path.{◌≡◌}
use mathlib.Core.Bool.{true}
use mathlib.Core.List.{List}
use Prim.Native.Nat.{ℕ, ◌+◌, ◌*◌, ◌<◌, ◌≤◌}
use native.Mathlib.Omega.{arith}
use lib.ListN.{length}
use Rattle.words.specs.Words.{word_at}
use Rattle.drawer.specs.Drawer.{is_drawer}
use Rattle.drawer.specs.Search.{records, record_of}
use Rattle.drawer.specs.Calls.{width}
use Rattle.drawer.proofs.DrawerLaws.{parts, record_below, record_room, free_below}

pub counted : (n : ℕ) (s : List ℕ) → length s ≡ 4 * (width * n) → n ≡ records width s
counted n s e = omega arith

module _ (s : List ℕ) (e : is_drawer width s ≡ true) where
  pub found_room : (x r : ℕ) → r ≡ record_of width s x → 0 < r → (4 * (width * r + width) ≤ length s) × (r < 65536)
  found_room x r named some =
      let d = parts width s e in
      let there : 0 < record_of width s x = omega (arith, named) in
      (omega (arith, named, record_room width s d x there), omega (arith, named, record_below width s d x there, d.most))

  pub free_room : (f : ℕ) → f ≡ word_at s 16 → 0 < f → (4 * (width * f + width) ≤ length s) × (f < 65536)
  free_room f named some =
      let d = parts width s e in
      let low = free_below width s d (omega (arith, named)) in
      (omega (arith, named, low, d.size), omega (arith, named, low, d.most))
