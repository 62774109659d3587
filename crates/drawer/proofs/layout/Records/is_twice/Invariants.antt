use mathlib.Core.Path.{◌≡◌}
use Rattle.words.specs.Words.{word_at}
use Rattle.drawer.specs.Tours.{ids_from, holds_twice}
use Rattle.drawer.specs.IdsLeft.{ids_left}
use Rattle.drawer.proofs.layout.Records.is_twice.Given as goal

abbrev pub invariant-loop-id : goal.invariant-loop-id
invariant-loop-id g l =
    (goal.iterator-loop-id g).can_next l.ids
    × (goal.iterator-loop-id g).is_finite l.ids
    × (holds_twice (ids_left l.ids) ≡ holds_twice (ids_from g.row.WIDTH (word_at l.self.bytes.now) l.self.count l.self.count (word_at l.self.bytes.now l.chain)))
