use mathlib.Core.Path.{◌≡◌}
use mathlib.Core.Bool.{Bool}
use Prim.Native.Nat.{ℕ, ◌+◌, ◌-◌, ◌*◌, ◌%◌, ◌≤◌}
use lib.ListN.{length}
use Rattle.words.specs.Words.{word_at}
use Rattle.drawer.specs.Drawer.{id_in}
use Rattle.drawer.specs.Search.{seek}
use Rattle.drawer.proofs.layout.Records.seek.Given as goal

abbrev pub invariant-loop : goal.invariant-loop
invariant-loop g l =
    let w = word_at l.self.bytes.now in
    let n = l.self.count in
    (4 * l.link + 4 ≤ length l.self.bytes.now)
    × goal.F-IsAlwaysCallable g l.stop
    × ((test : ℕ → Bool) → ((y : ℕ) (b : Bool) → goal.F-post g l.stop y b → b ≡ test y)
    → seek g.row.WIDTH (λ r. test (id_in g.row.WIDTH w r)) w n (n - l.counter) l.link ≡ seek g.row.WIDTH (λ r. test (id_in g.row.WIDTH w r)) w n n (l.id % 16))
