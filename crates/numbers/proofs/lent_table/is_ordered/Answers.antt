use Rattle.std.proofs.Common.{rules, ◌+◌, ◌<◌, ◌≤◌, ◌∙◌, refl}
use Rattle.std.proofs.lemmas.Iterator.{cases_from_all, YieldsList-from_range}
use borrow.Author.Tests.{ne_eqb, tests}
use Rattle.words.specs.Words.{long_at}
use Rattle.numbers.proofs.LoadLaws.{other_first, told_by_all}
use Rattle.numbers.proofs.lent_table.is_ordered.Goals as goal

pub returns-then-first-eq-FIRST : goal.returns-then-first-eq-FIRST
returns-then-first-eq-FIRST c =
    told_by_all c.args.bytes.now 1024 (search rules) c.all.result
    (cases_from_all _ _ _ (λ k. long_at c.args.bytes.now (k + 1) ≤ long_at c.args.bytes.now k) (λ k. long_at c.args.bytes.now k < long_at c.args.bytes.now (k + 1)) c.all.ensures.ran
    (YieldsList-from_range 0 1024 1024 refl refl)
    (λ x q k. search (rules, tests))
    (λ x q k. search (rules, tests)))

pub returns-else-first-eq-FIRST : goal.returns-else-first-eq-FIRST
returns-else-first-eq-FIRST c = rw (ne_eqb _ _ c.if-first-eq-FIRST.false) (other_first c.args.bytes.now 1024 (λ e. c.if-first-eq-FIRST.false (c.long_in-first.ensures ∙ e)))
