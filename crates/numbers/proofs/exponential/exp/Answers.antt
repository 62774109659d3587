use Rattle.numbers.specs.Table.{table_of}
use Rattle.numbers.proofs.DecayLaws.{so_decays}
use Rattle.numbers.proofs.exponential.exp.Goals as goal

-- no bytes stand for T
pub returns : goal.returns
unfolding table_of
returns c =
    let both = so_decays c.args.x c.exp_by.result c.exp_by.ensures.answers in
    record { answers = both.0; decays = both.1 }
