-- A whole number of records.
use mathlib.Core.Path.{◌≡◌, sym, ap, ◌∙◌}
use mathlib.Core.Bool.{true, ◌&&◌}
use native.Mathlib.Omega.{arith}
use Rattle.std.proofs.Common.{rules}
use Rattle.std.proofs.Math.Nat.{mul-div_cancel_left}
use Prim.Native.Nat.{◌/◌, ℕ, ◌*◌, ◌<◌, ◌≤◌}
use lib.Dec.{eqb, ltb, leb}
use borrow.Author.Tests.{tests, eqb-true, ltb-true, leb-true}
use Rattle.numbers.proofs.TestLaws.{and_left, and_right}
use Rattle.drawer.specs.Drawer.{records_of, is_whole}
use Rattle.drawer.specs.Tours.{Sized}
use mathlib.Core.List.{List}
use lib.ListN.{length}

pub whole_parts : (width len : ℕ) → is_whole width len ≡ true
    → (len ≡ 4 * (width * records_of width len)) × (0 < records_of width len) × (records_of width len ≤ 65536)
unfolding is_whole
whole_parts width len e =
    let n = records_of width len in
    let rest = and_right (eqb (4 * (width * n)) len) (ltb 0 n && leb n 65536) e in (
      sym (eqb-true (4 * (width * n)) len (and_left (eqb (4 * (width * n)) len) (ltb 0 n && leb n 65536) e)),
      ltb-true 0 n (and_left (ltb 0 n) (leb n 65536) rest),
      leb-true n 65536 (and_right (ltb 0 n) (leb n 65536) rest),
    )

-- the converse
pub sized_is_whole : (width n : ℕ) (s : List ℕ) → Sized width n s → 0 < n → (records_of width (length s) ≡ n) × (is_whole width (length s) ≡ true)
unfolding is_whole
sized_is_whole width n s sized some =
    let same : records_of width (length s) ≡ n =
    ap (λ (m : ℕ). m / (4 * width)) (sized.2 ∙ grind arith) ∙ mul-div_cancel_left n {n = 4 * width} (omega (arith, sized.0)) in
    (same, rw (same, sized.2) (search (rules, tests)))
