use Rattle.std.proofs.Common.{◌≡◌, ℕ, length, take, ap, ◌∙◌, arith}
use Rattle.words.specs.Words.{put_at}
use Rattle.words.proofs.PutLaws.{none, next, all}
use Rattle.words.proofs.put.Goals as goal

pub loop-i-init : goal.loop-i-init
loop-i-init c = none c.args.at c.args.words.now c.args.bytes.now

pub loop-i-preserved : goal.loop-i-preserved
loop-i-preserved c =
    next c.args.at c.loop-i.i c.args.words.now c.args.bytes.now (omega arith) (omega arith)
    c.loop-i.bytes c.copy_from_slice.new.self c.loop-i.invariant (c.copy_from_slice.ensures.after ∙ c.to_le_bytes.ensures)

pub returns : goal.returns
returns c =
    let n : c.loop-i.i ≡ length c.args.words.now = omega arith in
    c.loop-i.invariant ∙ ap (λ (i : ℕ). put_at c.args.at (take i c.args.words.now) c.args.bytes.now) n
    ∙ all c.args.at c.args.words.now c.args.bytes.now
