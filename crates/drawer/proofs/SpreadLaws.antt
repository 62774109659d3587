-- The 17 chains together are the records 1 to n - 1, each once: as a test, and as what the laws use; and what a few writes of links do to them.
use mathlib.Core.Path.{◌≡◌, refl, sym, ap, ◌∙◌}
use mathlib.Core.Bool.{true, cond}
use mathlib.Core.List.{List, [], ◌∷◌, ◌++◌}
use mathlib.Core.Logic.{◌⊎◌, inl, inr, ⊎_elim}
use Prim.Native.Nat.{ℕ, zero, suc, ◌+◌, ◌-◌, ◌<◌, ◌≤◌}
use native.Mathlib.Nat.{not-suc-le-zero}
use native.Mathlib.Omega.{arith}
use native.Mathlib.Decide.{ℕ_discrete}
use lib.Dec.{eqb}
use lib.ListN.{length, length-append}
use borrow.Author.Tests.{eq-eqb, ne_eqb, eqb-true}
use Rattle.numbers.proofs.TestLaws.{and_left, and_right, and_both}
use Rattle.drawer.specs.Chains.{walk, times}
use Rattle.drawer.proofs.TestLaws.{lt_or}
use Rattle.drawer.proofs.TimesLaws.{times_append, times_here, times_more}
use Rattle.drawer.proofs.Links.{Links}
use Rattle.drawer.specs.Chains.{flat}
use Rattle.drawer.specs.Drawer.{each_once, chain_of, is_spread}
use Rattle.drawer.proofs.ChainLaws.{links_walk, walk_links}

-- ---- tests
-- ---- chains one after the other
flat_same : (c d : ℕ → List ℕ) (m : ℕ) → ((k : ℕ) → k < m → c k ≡ d k) → flat c m ≡ flat d m
unfolding flat
flat_same c d zero same = refl
flat_same c d (suc m) same = rw (flat_same c d m (λ k h. same k (omega arith)), same m (omega arith))

pub flat_long : (c : ℕ → List ℕ) (m k : ℕ) → k < m → length (c k) ≤ length (flat c m)
unfolding flat
flat_long c zero k h = absurd (not-suc-le-zero h)
flat_long c (suc m) k h = go (ℕ_discrete k m) (λ l. flat_long c m k l)
  where
    go : Dec (k ≡ m) → (k < m → length (c k) ≤ length (flat c m)) → length (c k) ≤ length (flat c m ++ c m)
    go (yes e) rest = omega (arith, length-append (flat c m) (c m), ap (λ (j : ℕ). length (c j)) e)
    go (no e) rest = omega (arith, length-append (flat c m) (c m), rest (omega arith))

pub flat_times : (c : ℕ → List ℕ) (m k r : ℕ) → k < m → times r (c k) ≤ times r (flat c m)
unfolding flat
flat_times c zero k r h = absurd (not-suc-le-zero h)
flat_times c (suc m) k r h = go (ℕ_discrete k m) (λ l. flat_times c m k r l)
  where
    go : Dec (k ≡ m) → (k < m → times r (c k) ≤ times r (flat c m)) → times r (c k) ≤ times r (flat c m ++ c m)
    go (yes e) rest = omega (arith, times_append r (flat c m) (c m), ap (λ (j : ℕ). times r (c j)) e)
    go (no e) rest = omega (arith, times_append r (flat c m) (c m), rest (omega arith))

-- a record of two chains stands there twice
pub flat_two : (c : ℕ → List ℕ) (m j k r : ℕ) → j < m → k < m → (j ≡ k → ⊥) → times r (c j) + times r (c k) ≤ times r (flat c m)
unfolding flat
flat_two c zero j k r h l apart = absurd (not-suc-le-zero h)
flat_two c (suc m) j k r h l apart = go (ℕ_discrete j m) (ℕ_discrete k m) (λ x y. flat_two c m j k r x y apart)
  where
    go : Dec (j ≡ m) → Dec (k ≡ m) → (j < m → k < m → times r (c j) + times r (c k) ≤ times r (flat c m)) → times r (c j) + times r (c k) ≤ times r (flat c m ++ c m)
    go (yes e) (yes f) rest = absurd (apart (e ∙ sym f))
    go (yes e) (no f) rest = omega (arith, times_append r (flat c m) (c m), ap (λ (i : ℕ). times r (c i)) e, flat_times c m k r (omega arith))
    go (no e) (yes f) rest = omega (arith, times_append r (flat c m) (c m), ap (λ (i : ℕ). times r (c i)) f, flat_times c m j r (omega arith))
    go (no e) (no f) rest = omega (arith, times_append r (flat c m) (c m), rest (omega arith) (omega arith))

-- one chain changed
pub flat_change : (c d : ℕ → List ℕ) (m k r : ℕ) → k < m → ((j : ℕ) → (j ≡ k → ⊥) → d j ≡ c j)
    → times r (flat d m) + times r (c k) ≡ times r (flat c m) + times r (d k)
unfolding flat
flat_change c d zero k r h same = absurd (not-suc-le-zero h)
flat_change c d (suc m) k r h same = go (ℕ_discrete k m) (λ l. flat_change c d m k r l same)
  where
    go : Dec (k ≡ m) → (k < m → times r (flat d m) + times r (c k) ≡ times r (flat c m) + times r (d k))
        → times r (flat d m ++ d m) + times r (c k) ≡ times r (flat c m ++ c m) + times r (d k)
    go (yes e) rest =
        omega (
          arith,
          times_append r (flat d m) (d m),
          times_append r (flat c m) (c m),
          ap (λ (i : ℕ). times r (c i)) e,
          ap (λ (i : ℕ). times r (d i)) e,
          ap (times r) (flat_same d c m (λ j l. same j (λ z. omega arith))),
        )
    go (no e) rest =
        omega
        (arith, times_append r (flat d m) (d m), times_append r (flat c m) (c m), ap (times r) (same m (λ z. e (sym z))), rest (omega arith))

-- ---- how many of the records 1 to m stand in a list
abbrev pub sum_to : List ℕ → ℕ → ℕ
sum_to l zero = 0
sum_to l (suc m) = times (suc m) l + sum_to l m

sum_nil : (m : ℕ) → sum_to [] m ≡ 0
unfolding times
sum_nil zero = refl
sum_nil (suc m) = omega (arith, sum_nil m)

sum_cons : (y : ℕ) (l : List ℕ) (m : ℕ) → sum_to (y ∷ l) m ≡ sum_to (y ∷ []) m + sum_to l m
unfolding times
sum_cons y l zero = refl
sum_cons y l (suc m) = omega (arith, sum_cons y l m)

-- a list of one: none of those up to m where it is 0 or beyond m, else one
sum_out : (y m : ℕ) → (y ≡ 0) ⊎ (m < y) → sum_to (y ∷ []) m ≡ 0
unfolding times
sum_out y zero out = refl
sum_out y (suc m) out =
    rw (ne_eqb (suc m) y (λ e. ⊎_elim {C = ⊥} (λ z. omega arith) (λ z. omega arith) out)) (omega (arith, sum_out y m (⊎_elim (λ z. inl z) (λ z. inr (omega arith)) out)))

sum_in : (y m : ℕ) → 0 < y → y ≤ m → sum_to (y ∷ []) m ≡ 1
unfolding times
sum_in y zero some fits = absurd (omega arith)
sum_in y (suc m) some fits = go (ℕ_discrete y (suc m)) (λ l. sum_in y m some l)
  where
    go : Dec (y ≡ suc m) → (y ≤ m → sum_to (y ∷ []) m ≡ 1) → (cond (eqb (suc m) y) 1 0 + 0) + sum_to (y ∷ []) m ≡ 1
    go (yes e) rest = rw (eq-eqb (suc m) y (sym e)) (omega (arith, sum_out y m (inr (omega arith))))
    go (no e) rest = rw (ne_eqb (suc m) y (λ z. e (sym z))) (omega (arith, rest (omega arith)))

sum_le : (y m : ℕ) → sum_to (y ∷ []) m ≤ 1
sum_le y m = go (ℕ_discrete y 0) (lt_or m y)
  where
    go : Dec (y ≡ 0) → (m < y) ⊎ (y ≤ m) → sum_to (y ∷ []) m ≤ 1
    go (yes e) h = omega (arith, sum_out y m (inl e))
    go (no e) (inl h) = omega (arith, sum_out y m (inr h))
    go (no e) (inr h) = omega (arith, sum_in y m (omega arith) h)

-- a record that is none of 1 to m takes room beside them
sum_beside : (l : List ℕ) (m x : ℕ) → (x ≡ 0) ⊎ (m < x) → sum_to l m + times x l ≤ length l
unfolding times
sum_beside [] m x out = omega (arith, sum_nil m)
sum_beside (y ∷ l) m x out = go (ℕ_discrete x y) (sum_beside l m x out)
  where
    go : Dec (x ≡ y) → sum_to l m + times x l ≤ length l → sum_to (y ∷ l) m + (cond (eqb x y) 1 0 + times x l) ≤ suc (length l)
    go (yes e) rest = rw (eq-eqb x y e) (omega (arith, sum_cons y l m, sum_out y m (⊎_elim (λ z. inl (omega arith)) (λ z. inr (omega arith)) out)))
    go (no e) rest = rw (ne_eqb x y e) (omega (arith, sum_cons y l m, sum_le y m))

-- a list of records 1 to m has as many as are counted there
pub sum_all : (l : List ℕ) (m : ℕ) → ((r : ℕ) → 0 < times r l → (0 < r) × (r ≤ m)) → length l ≡ sum_to l m
sum_all [] m inside = omega (arith, sum_nil m)
sum_all (y ∷ l) m inside =
    omega (
      arith,
      sum_cons y l m,
      sum_in y m (inside y (times_here y l)).0 (inside y (times_here y l)).1,
      sum_all l m (λ r h. inside r (omega (arith, times_more r y l))),
    )

each_once_lem : (l : List ℕ) (m r : ℕ) → each_once l m ≡ true → 0 < r → r ≤ m → times r l ≡ 1
unfolding each_once
each_once_lem l zero r e some fits = absurd (omega arith)
each_once_lem l (suc m) r e some fits = go (ℕ_discrete r (suc m)) (λ h. each_once_lem l m r (and_right (eqb (times (suc m) l) 1) (each_once l m) e) some h)
  where
    go : Dec (r ≡ suc m) → (r ≤ m → times r l ≡ 1) → times r l ≡ 1
    go (yes z) rest = ap (λ (i : ℕ). times i l) z ∙ eqb-true (times (suc m) l) 1 (and_left (eqb (times (suc m) l) 1) (each_once l m) e)
    go (no z) rest = rest (omega arith)

once_each : (l : List ℕ) (m : ℕ) → ((r : ℕ) → 0 < r → r ≤ m → times r l ≡ 1) → each_once l m ≡ true
unfolding each_once
once_each l zero once = refl
once_each l (suc m) once = and_both _ _ (eq-eqb (times (suc m) l) 1 (once (suc m) (omega arith) (omega arith))) (once_each l m (λ r h k. once r h (omega arith)))

sum_once : (l : List ℕ) (m : ℕ) → ((r : ℕ) → 0 < r → r ≤ m → times r l ≡ 1) → sum_to l m ≡ m
sum_once l zero once = refl
sum_once l (suc m) once = omega (arith, once (suc m) (omega arith) (omega arith), sum_once l m (λ r h k. once r h (omega arith)))

-- m records counted, each at most once: each once
sum_most : (l : List ℕ) (m : ℕ) → ((r : ℕ) → times r l ≤ 1) → sum_to l m ≤ m
sum_most l zero most = omega arith
sum_most l (suc m) most = omega (arith, most (suc m), sum_most l m most)

pub sum_le_each : (l : List ℕ) (m r : ℕ) → ((i : ℕ) → times i l ≤ 1) → sum_to l m ≡ m → 0 < r → r ≤ m → times r l ≡ 1
sum_le_each l zero r most full some fits = absurd (omega arith)
sum_le_each l (suc m) r most full some fits = go (ℕ_discrete r (suc m)) (λ h. sum_le_each l m r most (omega (arith, most (suc m), sum_most l m most)) some h)
  where
    go : Dec (r ≡ suc m) → (r ≤ m → times r l ≡ 1) → times r l ≡ 1
    go (yes e) rest = ap (λ (i : ℕ). times i l) e ∙ omega (arith, most (suc m), sum_most l m most)
    go (no e) rest = rest (omega arith)

-- ---- what the laws use
pub record Spread (width : ℕ) (w : ℕ → ℕ) (n : ℕ) (c : ℕ → List ℕ) : Type 0 where
  pub links : (k : ℕ) → k < 17 → Links width w k (c k)
  pub once : (r : ℕ) → 0 < r → r < n → times r (flat c 17) ≡ 1
  pub inside : (r : ℕ) → 0 < times r (flat c 17) → (0 < r) × (r < n)

pub spread_of : (width : ℕ) (w : ℕ → ℕ) (n : ℕ) → 0 < n → is_spread width w n ≡ true → Spread width w n (chain_of width w n)
unfolding is_spread
spread_of width w n some e = record {
  links = λ k h. walk_links width w n k (omega (arith, long, flat_long (chain_of width w n) 17 k h));
  once = λ r h k. once r h (omega arith);
  inside = λ r h. (inside_0 r h (ℕ_discrete r 0), inside_1 r h (lt_or r n));
}
  where
    l : List ℕ
    l = flat (chain_of width w n) 17

    long : length (flat (chain_of width w n) 17) ≡ n - 1
    long = eqb-true (length (flat (chain_of width w n) 17)) (n - 1) (and_left (eqb (length (flat (chain_of width w n) 17)) (n - 1)) (each_once (flat (chain_of width w n) 17) (n - 1)) e)

    once : (r : ℕ) → 0 < r → r ≤ n - 1 → times r (flat (chain_of width w n) 17) ≡ 1
    once r h k = each_once_lem (flat (chain_of width w n) 17) (n - 1) r (and_right (eqb (length (flat (chain_of width w n) 17)) (n - 1)) (each_once (flat (chain_of width w n) 17) (n - 1)) e) h k

    inside_0 : (r : ℕ) → 0 < times r (flat (chain_of width w n) 17) → Dec (r ≡ 0) → 0 < r
    inside_0 r h (yes z) = absurd (omega (arith, long, sum_beside (flat (chain_of width w n) 17) (n - 1) r (inl z), sum_once (flat (chain_of width w n) 17) (n - 1) once))
    inside_0 r h (no z) = omega arith

    inside_1 : (r : ℕ) → 0 < times r (flat (chain_of width w n) 17) → (r < n) ⊎ (n ≤ r) → r < n
    inside_1 r h (inl z) = z
    inside_1 r h (inr z) = absurd (omega (arith, long, sum_beside (flat (chain_of width w n) 17) (n - 1) r (inr (omega arith)), sum_once (flat (chain_of width w n) 17) (n - 1) once))

pub spread_long : (width : ℕ) (w : ℕ → ℕ) (n : ℕ) (c : ℕ → List ℕ) → 0 < n → Spread width w n c → length (flat c 17) ≡ n - 1
spread_long width w n c some s =
    sum_all (flat c 17) (n - 1) (λ r h. ((s.inside r h).0, omega (arith, s.inside r h)))
    ∙ sum_once (flat c 17) (n - 1) (λ r h k. s.once r h (omega arith))

pub spread_walk : (width : ℕ) (w : ℕ → ℕ) (n : ℕ) (c : ℕ → List ℕ) → 0 < n → Spread width w n c → (k : ℕ) → k < 17 → walk width w n k ≡ c k
spread_walk width w n c some s k h = links_walk width w n k (c k) (s.links k h) (omega (arith, spread_long width w n c some s, flat_long c 17 k h))

pub is_spread_lem : (width : ℕ) (w : ℕ → ℕ) (n : ℕ) (c : ℕ → List ℕ) → 0 < n → Spread width w n c → is_spread width w n ≡ true
unfolding is_spread
is_spread_lem width w n c some s =
    rw (flat_same (chain_of width w n) c 17 (λ k h. spread_walk width w n c some s k h))
    (and_both _ _ (eq-eqb _ _ (spread_long width w n c some s)) (once_each (flat c 17) (n - 1) (λ r h k. s.once r h (omega arith))))
