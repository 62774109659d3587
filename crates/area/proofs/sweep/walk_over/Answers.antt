use Rattle.std.proofs.Common.{ap, ◌∙◌, length}
use borrow.Author.Tests.{eq-eqb, ne_eqb}
use Rattle.area.specs.Marks.{Sweeping, walk_of}
use Rattle.area.proofs.WalkLaws.{part}
use Rattle.area.proofs.sweep.walk_over.Goals as goal

pub returns-in_default : goal.returns-in_default
unfolding walk_of
returns-in_default c = rw (ne_eqb _ 416 c.in_default.ensures.1)

-- the four parts are one walk over all words
pub returns : goal.returns
unfolding walk_of
returns c =
    let first-39 = part c.new.result _ _ 1 26 13 c.settings.ensures c.style.ensures in
    let first-81 = part c.new.result _ _ 1 39 42 first-39 c.host.ensures in
    let all = part c.new.result _ _ 1 81 23 first-81 c.content.ensures in
    ap (λ (w : Sweeping). w.walk) all ∙ rw (c.new.ensures, c.in-Ok.ensures.1.same, eq-eqb (length c.args.frame.now) 416 c.in-Ok.ensures.1.long)
