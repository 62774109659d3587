use mathlib.Core.Path.{◌≡◌}
use mathlib.Core.Bool.{true}
use Prim.Native.Nat.{◌-◌}
use Rattle.words.specs.Words.{word_at}
use Rattle.drawer.specs.Tours.{tour_from}
use Rattle.drawer.proofs.layout.Records.tour.Given as goal

abbrev pub invariant-loop-count : goal.invariant-loop-count
invariant-loop-count g l =
    let w = word_at l.self.bytes.now in
    let n = l.self.count in
    tour_from g.row.WIDTH w n l.chain (n - l.count) l.next l.count l.last l.previous l.up ≡ tour_from g.row.WIDTH w n l.chain n (w l.chain) 0 0 0 true
