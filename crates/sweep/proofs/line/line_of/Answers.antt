use Rattle.std.proofs.Common.{◌≡◌, ◌<◌, [], ◌∷◌, ◌++◌, refl, ap, ◌∙◌, arith, length-set}
use mathlib.Core.List.{append-nil}
use Rattle.sweep.specs.Line.{digits_from, line_of}
use Rattle.sweep.proofs.LineLaws.{written, turns}
use Rattle.sweep.proofs.line.line_of.Goals as goal

pub loop-n-init : goal.loop-n-init
unfolding digits_from
loop-n-init c = (refl, refl)

pub loop-n-preserved : goal.loop-n-preserved
loop-n-preserved c =
    let l = c.loop-n in
    let h : l.n < 104 = omega arith in
    (length-set l.digit-items l.n _ ∙ l.invariant.0, turns _ l.digit-items l.n _ h c.digit_after.ensures l.invariant.1)

pub returns : goal.returns
unfolding line_of
returns c =
    let l = c.loop-n in
    let h : l.n ≡ 104 = omega arith in
    ap (λ digits. digits ++ (10 ∷ [])) (l.invariant.1 ∙ ap (written _) h ∙ append-nil _)
