-- How often a record stands in a list.
use mathlib.Core.Path.{◌≡◌, refl}
use mathlib.Core.Bool.{cond}
use mathlib.Core.List.{List, [], ◌∷◌, ◌++◌}
use Prim.Native.Nat.{ℕ, ◌+◌, ◌<◌, ◌≤◌}
use native.Mathlib.Omega.{arith}
use lib.Dec.{eqb}
use borrow.Author.Tests.{eq-eqb, ne_eqb}
use Rattle.drawer.specs.Chains.{times}

-- a record counts once as itself, and not as another
pub counts_itself : (r : ℕ) → ◌≡◌ {A = ℕ} (cond (eqb r r) 1 0) 1
counts_itself r = rw (eq-eqb r r refl)

pub counts_no_other : (r f : ℕ) → (r ≡ f → ⊥) → ◌≡◌ {A = ℕ} (cond (eqb r f) 1 0) 0
counts_no_other r f away = rw (ne_eqb r f away)

pub times_nil : (r : ℕ) → times r [] ≡ 0
unfolding times
times_nil r = refl

pub times_one : (r f : ℕ) (l : List ℕ) → times r (f ∷ l) ≡ cond (eqb r f) 1 0 + times r l
unfolding times
times_one r f l = refl

pub times_append : (r : ℕ) (a b : List ℕ) → times r (a ++ b) ≡ times r a + times r b
unfolding times
times_append r [] b = omega arith
times_append r (x ∷ a) b = omega (arith, times_append r a b)

pub times_here : (r : ℕ) (l : List ℕ) → 0 < times r (r ∷ l)
unfolding times
times_here r l = rw (eq-eqb r r refl) (omega arith)

pub times_other : (x y : ℕ) (l : List ℕ) → (x ≡ y → ⊥) → times x (y ∷ l) ≡ times x l
unfolding times
times_other x y l e = rw (ne_eqb x y e) (omega arith)

pub times_more : (r x : ℕ) (l : List ℕ) → times r l ≤ times r (x ∷ l)
unfolding times
times_more r x l = omega arith

pub times_split : (r f : ℕ) (a b : List ℕ) → times r (a ++ (f ∷ b)) ≡ cond (eqb r f) 1 0 + times r (a ++ b)
times_split r f a b = omega (arith, times_append r a (f ∷ b), times_append r a b, times_one r f b)

pub times_mid : (f : ℕ) (a b : List ℕ) → 0 < times f (a ++ (f ∷ b))
times_mid f a b = omega (arith, times_append f a (f ∷ b), times_here f b)
