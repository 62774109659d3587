use mathlib.Core.Path.{refl}
use lib.Dec.{eqb}
use borrow.Author.Rules.{rules}
use Rattle.std.proofs.lemmas.Iterator.Consumers.{YieldsList-from_first}
use Rattle.std.proofs.lemmas.Iterator.Search.{any_from_yields_List}
use Rattle.drawer.specs.IdsLeft.{ids_left}
use Rattle.drawer.proofs.ids.Ids.contains.Goals as goal

pub returns : goal.returns
returns g c =
    any_from_yields_List (λ y. eqb y c.args.id) c.any.new.self _ c.any.result c.any.ensures.ran
    (YieldsList-from_first (λ x. x) ids_left (ids_left c.args.self.now) refl) (λ x b q k. search rules)
