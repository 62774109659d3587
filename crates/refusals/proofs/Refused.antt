-- A refusal's number is not 0; so what a refused answer tells is the number of the first check that applies.
use Rattle.std.specs.Prelude.{◌≡◌, ℕ, true, false, cond, ◌==◌, refl}
use Rattle.std.proofs.Common.{sym, ◌∙◌, ap}
use Rattle.refusals.specs.Refusal.{number_of}
use Rattle.refusals.specs.declared.Refusal.{Refusal}

pub not_0 : (r : Refusal) → (number_of r == 0) ≡ false
not_0 Refusal.FrameLength = refl
not_0 Refusal.FlagOrKind = refl
not_0 Refusal.Exceeds = refl
not_0 Refusal.Outside = refl
not_0 Refusal.Style = refl
not_0 Refusal.State = refl
not_0 Refusal.PressBlocked = refl
not_0 Refusal.Outcome = refl
not_0 Refusal.Run = refl
not_0 Refusal.TableLength = refl
not_0 Refusal.TableOrder = refl
not_0 Refusal.Clock = refl
not_0 Refusal.NoDrawer = refl
not_0 Refusal.NoEntry = refl
not_0 Refusal.DrawerFull = refl

-- the first of two checks applies, and the second is not tried
pub first_applies : {A : Type 0} (r : Refusal) (n : ℕ) (passed : A) (refused : ℕ → A) → number_of r ≡ n
    → refused (number_of r) ≡ cond (n == 0) passed (refused n)
first_applies r n passed refused e =
    sym (ap (λ k. cond (k == 0) passed (refused k)) (sym e) ∙ ap (λ b. cond b passed (refused (number_of r))) (not_0 r))

-- the first passes
pub first_passes : {A : Type 0} (n : ℕ) (passed : A) (refused : ℕ → A) → 0 ≡ n → passed ≡ cond (n == 0) passed (refused n)
first_passes n passed refused e = ap (λ k. cond (k == 0) passed (refused k)) e
