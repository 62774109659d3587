-- An option that is refused where it is none.
use mathlib.Core.Path.{◌≡◌, refl, sym, subst}
use Rattle.std.specs.Option.{MatchOption}
use Rattle.std.specs.Prelude.{Bool, true, false}
use Rattle.std.specs.Prelude.{Option, Some, None, Result, Ok, Err, IfSome, IfNone}
use Rattle.std.specs.Option.{ok_or}
use Rattle.std.specs.Bool.{then_some}
use Rattle.refusals.specs.declared.Refusal.{Refusal}

module _ {A : Type 0} where
  pub missed : (o : Option A) (r : Result A Refusal) (e d : Refusal) (P : Type 0) → r ≡ ok_or o e → r ≡ Err d → IfNone o P → (d ≡ e) × P
  missed None r e d P f g p = (cc, p)
  missed (Some a) r e d P f g p = cc

  pub given : (o : Option A) (r : Result A Refusal) (e : Refusal) (a : A) (P : A → Type 0) → r ≡ ok_or o e → r ≡ Ok a → IfSome o P → P a
  given None r e a P f g p = cc
  given (Some x) r e a P f g p = let same : x ≡ a = cc in subst P same p

  -- what is missing of an option that is filtered: none was there, or it was filtered out
  pub filtered : (o f : Option A) (P : Type 0) (Told : A → Bool → Type 0) {Q : Type 0} → MatchOption o (f ≡ None) (λ x. (b : Bool) × Told x b × (f ≡ then_some b x))
      → IfNone o Q → (Q → P) → ((x : A) → o ≡ Some x → Told x false → P) → IfNone f P
  filtered None f P Told is none lacks out = subst (λ (g : Option A). IfNone g P) (sym is) (lacks none)
  filtered (Some x) f P Told (true, told, is) none lacks out = subst (λ (g : Option A). IfNone g P) (sym is) tt
  filtered (Some x) f P Told (false, told, is) none lacks out = subst (λ (g : Option A). IfNone g P) (sym is) (out x refl told)
