use Rattle.std.proofs.Common.{[], ◌∷◌, refl, ◌+◌, arith}
use Rattle.records.proofs.PartLaws.{replicate_suc, cleared, put_twice}
use Rattle.records.proofs.write.OptionToWords.put.Goals as goal

pub returns-in-None : goal.returns-in-None
returns-in-None g c =
    rw (c.in-None.is, ← replicate_suc g.T.ToWords.COUNT)
    (cleared c.args.at (g.T.ToWords.COUNT + 1) _ c.args.bytes.now c.fill.new.self (omega (arith, c.COUNT.ensures)) c.requires
    (c.fill.ensures.after (λ y same. same)))

pub returns-in-Some : goal.returns-in-Some
returns-in-Some g c =
    rw (c.in-Some.is, c.put-in-Some.ensures, c.put.ensures)
    (put_twice c.args.at 1 (1 ∷ []) (g.T.ToWords.words c.in-Some.value) c.args.bytes.now refl (omega (arith, c.requires)))
