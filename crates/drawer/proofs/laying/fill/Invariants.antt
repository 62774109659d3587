use mathlib.Core.Path.{◌≡◌}
use Prim.Native.Nat.{◌*◌}
use lib.ListN.{length}
use Rattle.drawer.specs.Calls.{width}
use Rattle.drawer.proofs.FillLaws.{fresh_up_to}
use Rattle.drawer.proofs.laying.fill.Given as goal

abbrev pub invariant-loop-r : goal.invariant-loop-r
invariant-loop-r l = (length l.initial.drawer ≡ 4 * (width * l.count)) × (l.drawer ≡ fresh_up_to l.count l.r l.initial.drawer)
