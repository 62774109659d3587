use Rattle.std.proofs.Common.{ap, ◌∙◌, ◌%◌}
use Rattle.area.specs.Marks.{Walk}
use Rattle.area.proofs.BadWordLaws.{bad_word_is, holds_of}
use Rattle.area.proofs.sweep.bad_word.Goals as goal

pub returns-in_err-walk : goal.returns-in_err-walk
returns-in_err-walk c =
    let s = c.args.frame.now in
    let is = ap (λ (w : Walk). w.mark % 128) c.in_err-walk.ensures ∙ bad_word_is s in
    rw c.from_residual.ensures (record { answers = is; is_word = tt; holds = holds_of s _ is })

pub returns : goal.returns
returns c =
    let s = c.args.frame.now in
    let is = c.bad_word.ensures.answers ∙ ap (λ (w : Walk). w.mark % 128) c.in_ok-walk.ensures ∙ bad_word_is s in
    record { answers = is; is_word = c.bad_word.ensures.is_word; holds = holds_of s _ is }
