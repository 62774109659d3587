use Rattle.std.proofs.Common.{arith, refl, ℕ, ◌≡◌, ap, length, drop}
use Rattle.words.specs.Words.{word_at}
use Rattle.records.proofs.OptionLaws.{options, next_option, all_left, one_less, none_left}
use Rattle.records.proofs.TidiedWrittenLaws.{tidied_holds}
use Rattle.records.proofs.tidying.tidied.Goals as goal

pub loop-start-init : goal.loop-start-init
loop-start-init c = all_left (word_at c.args.s.now) c.args.at refl c.copy.ensures

pub loop-start-preserved : goal.loop-start-preserved
loop-start-preserved c =
    one_less (word_at c.args.s.now) c.args.at _ c.loop-start.invariant (next_option c.loop-start.start-index (omega arith)) c.clear_absent.ensures c.clear_absent.auto.option

pub returns : goal.returns
returns c =
    let done : c.loop-start.start-index ≡ 5 = omega arith in
    record {
      answers = none_left (word_at c.args.s.now) c.args.at _ c.loop-start.invariant (ap (λ (i : ℕ). length (drop i options)) done);
      holds = tidied_holds;
    }
