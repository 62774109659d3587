use Rattle.std.proofs.Common.{ap, ◌∙◌, ◌/◌}
use Rattle.area.specs.Marks.{Walk}
use Rattle.area.proofs.WalkLaws.{swept_is}
use Rattle.area.proofs.AloneLaws.{holds_of}
use Rattle.area.proofs.sweep.sweep_words.Goals as goal

pub returns-in-None : goal.returns-in-None
returns-in-None c =
    let s = c.args.frame.now in
    let is = ap (λ (w : Walk). record { count = w.count; kept = w.mark / 128 }) c.in-None.ensures ∙ swept_is s c.args.n in
    record { answers = is; holds = holds_of s c.args.n _ is }

pub returns-in-Some : goal.returns-in-Some
returns-in-Some c =
    let s = c.args.frame.now in
    let is = c.swept.ensures ∙ ap (λ (w : Walk). record { count = w.count; kept = w.mark / 128 }) c.in-Some.ensures ∙ swept_is s c.args.n in
    record { answers = is; holds = holds_of s c.args.n _ is }
