-- Ids that ascend along a chain: where they stay, where a record is put in, and where one is taken out.
use mathlib.Core.Path.{◌≡◌, refl, sym, subst}
use mathlib.Core.Bool.{true, ◌||◌}
use mathlib.Core.Logic.{◌⊎◌, inr, ⊎_elim}
use mathlib.Core.List.{List, [], ◌∷◌, ◌++◌}
use Prim.Native.Nat.{ℕ, ◌<◌}
use native.Mathlib.Omega.{arith}
use native.Mathlib.Decide.{ℕ_discrete}
use lib.Dec.{eqb, ltb}
use borrow.Author.Tests.{eq-eqb, lt-ltb}
use Rattle.numbers.proofs.TestLaws.{and_both, or_left, or_right}
use Rattle.drawer.specs.Chains.{times}
use Rattle.drawer.specs.Drawer.{id_in}
use Rattle.drawer.specs.Order.{Ascends}
use Rattle.drawer.proofs.TimesLaws.{times_here, times_more, times_nil, times_other, times_split, counts_no_other}
use Rattle.drawer.proofs.CheckLaws.{ascends}

pub up_same : (width : ℕ) (w v : ℕ → ℕ) (l : List ℕ) → ((r : ℕ) → 0 < times r l → id_in width v r ≡ id_in width w r) → Ascends width w l → Ascends width v l
up_same width w v [] same h = tt
up_same width w v (r ∷ l) same h = (
  (λ q m. omega (arith, h.0 q m, same r (times_here r l), same q (omega (arith, m, times_more q r l)))),
  up_same width w v l (λ q m. same q (omega (arith, m, times_more q r l))) h.1,
)

split_off : (q f : ℕ) (a b : List ℕ) → (q ≡ f → ⊥) → 0 < times q (a ++ (f ∷ b)) → 0 < times q (a ++ b)
split_off q f a b away m = omega (arith, m, times_split q f a b, counts_no_other q f away)

pub up_insert : (width : ℕ) (w : ℕ → ℕ) (f : ℕ) (a b : List ℕ) → Ascends width w (a ++ b) → ((q : ℕ) → 0 < times q a → id_in width w q < id_in width w f) → ((q : ℕ) → 0 < times q b → id_in width w f < id_in width w q)
    → Ascends width w (a ++ (f ∷ b))
up_insert width w f [] b h less more = (more, h)
up_insert width w f (r ∷ a) b h less more = (
  (λ q m. go q m (ℕ_discrete q f)),
  up_insert width w f a b h.1 (λ q m. less q (omega (arith, m, times_more q r a))) more,
)
  where
    go : (q : ℕ) → 0 < times q (a ++ (f ∷ b)) → Dec (q ≡ f) → id_in width w r < id_in width w q
    go q m (yes e) = subst (λ (i : ℕ). id_in width w r < id_in width w i) (sym e) (less r (times_here r a))
    go q m (no e) = h.0 q (split_off q f a b e m)

pub up_remove : (width : ℕ) (w : ℕ → ℕ) (f : ℕ) (a b : List ℕ) → Ascends width w (a ++ (f ∷ b)) → Ascends width w (a ++ b)
up_remove width w f [] b h = h.1
up_remove width w f (r ∷ a) b h = ((λ q m. h.0 q (omega (arith, m, times_split q f a b))), up_remove width w f a b h.1)

-- above the first of the rest, above all of it
pub up_rest : (width : ℕ) (w : ℕ → ℕ) (x : ℕ) (a b : List ℕ) → Ascends width w (a ++ b) → ((r : ℕ) (d : List ℕ) → b ≡ r ∷ d → x < id_in width w r) → (q : ℕ) → 0 < times q b → x < id_in width w q
up_rest width w x (y ∷ a) b h first q m = up_rest width w x a b h.1 first q m
up_rest width w x [] [] h first q m = absurd (omega (arith, m, times_nil q))
up_rest width w x [] (r ∷ d) h first q m = go (ℕ_discrete q r)
  where
    go : Dec (q ≡ r) → x < id_in width w q
    go (yes e) = subst (λ (i : ℕ). x < id_in width w i) (sym e) (first r d refl)
    go (no e) = omega (arith, first r d refl, h.0 q (omega (arith, m, times_other q r d e)))

-- the check's tour sees that they ascend
pub up_ascends : (width : ℕ) (w : ℕ → ℕ) (last prev : ℕ) (l : List ℕ) → ((q : ℕ) → 0 < times q l → (last ≡ 0) ⊎ (prev < id_in width w q)) → Ascends width w l → ascends width w last prev l ≡ true
up_ascends width w last prev [] first h = refl
up_ascends width w last prev (r ∷ l) first h =
    and_both (eqb last 0 || ltb prev (id_in width w r)) (ascends width w r (id_in width w r) l)
    (⊎_elim
    (λ z. or_left (eqb last 0) (ltb prev (id_in width w r)) (eq-eqb last 0 z))
    (λ z. or_right (eqb last 0) (ltb prev (id_in width w r)) (lt-ltb prev (id_in width w r) z))
    (first r (times_here r l)))
    (up_ascends width w r (id_in width w r) l (λ q m. inr (h.0 q m)) h.1)
