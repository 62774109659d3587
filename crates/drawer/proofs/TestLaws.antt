-- Tests that are taken apart, and the order of two numbers.
use mathlib.Core.Path.{◌≡◌, refl}
use mathlib.Core.Bool.{Bool, true, false}
use mathlib.Core.Logic.{◌⊎◌, inl, inr, ⊎_elim}
use Prim.Native.Nat.{ℕ, zero, suc, ◌<◌, ◌≤◌}
use native.Mathlib.Omega.{arith}

pub false_of : (b : Bool) → (b ≡ true → ⊥) → b ≡ false
false_of true no_way = absurd (no_way refl)
false_of false no_way = refl

pub clash : (b : Bool) → b ≡ true → b ≡ false → ⊥
clash b p q = let z : ◌≡◌ {A = ℕ} 0 1 = cc in omega arith

pub lt_or : (a b : ℕ) → (a < b) ⊎ (b ≤ a)
lt_or zero zero = inr (omega arith)
lt_or zero (suc b) = inl (omega arith)
lt_or (suc a) zero = inr (omega arith)
lt_or (suc a) (suc b) = ⊎_elim (λ h. inl (omega arith)) (λ h. inr (omega arith)) (lt_or a b)
