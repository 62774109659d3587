use Rattle.std.proofs.Common.{rules, ◌≡◌, ◌+◌, ℕ, Bool, false, ◌||◌, List, [], ◌∷◌, nat_lt, ◌∙◌}
use Rattle.std.specs.List.{fold}
use Rattle.std.proofs.Math.Bool.{or_assoc}
use Rattle.std.proofs.lemmas.Iterator.{YieldsList-from_slice}
use Rattle.std.proofs.lemmas.Iterator.Consumers.{fold_from_yields_List}
use Rattle.words.specs.Words.{word_at}
use Rattle.records.specs.Record as Spec
use Rattle.records.proofs.read.is_damaged.Goals as goal

abbrev flags : List ℕ
flags = 4 ∷ 10 ∷ 16 ∷ 17 ∷ 18 ∷ 19 ∷ 20 ∷ 21 ∷ 24 ∷ 26 ∷ 28 ∷ 29 ∷ 30 ∷ 35 ∷ 36 ∷ []

-- or one of the next is none
abbrev or_no_flag : (ℕ → ℕ) → ℕ → Bool → ℕ → Bool
or_no_flag w at damaged i = damaged || nat_lt 1 (w (at + i))

any_flag : (w : ℕ → ℕ) (at : ℕ) → fold (or_no_flag w at) false flags ≡ Spec.is_damaged w at
unfolding Spec.is_damaged
any_flag w at = simp or_assoc

pub returns : goal.returns
returns c =
    fold_from_yields_List _ (or_no_flag (word_at c.args.s.now) c.args.at) false c.fold.result c.fold.ensures.ran
    (YieldsList-from_slice flags (search rules)) (λ a x b q k. search rules)
    ∙ any_flag (word_at c.args.s.now) c.args.at
