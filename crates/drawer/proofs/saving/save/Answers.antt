use mathlib.Core.Path.{◌≡◌, sym, ◌∙◌, subst}
use mathlib.Core.Bool.{false}
use mathlib.Core.List.{List}
use Prim.Native.Nat.{ℕ}
use lib.ListN.{get_or}
use Rattle.records.specs.Record.{is_damaged}
use Rattle.drawer.proofs.RewriteLaws.{kept_sound}
use Rattle.drawer.proofs.saving.save.Goals as goal

pub save_words-requires : goal.save_words-requires
save_words-requires c =
    subst (λ (ws : List ℕ). is_damaged (λ i. get_or ws i 0) 0 ≡ false) (sym c.tidied.ensures.answers)
    (kept_sound c.args.state.now (sym c.is_damaged.ensures ∙ c.if-is_damaged.false))
