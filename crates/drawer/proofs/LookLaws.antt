-- The record of an id: the one record of its chain that holds the id, or none.
use mathlib.Core.Path.{◌≡◌, refl, sym, ap, ◌∙◌, subst}
use mathlib.Core.Bool.{true, false, not}
use mathlib.Core.List.{List, [], ◌∷◌}
use Prim.Native.Nat.{ℕ, ◌%◌, ◌<◌}
use native.Mathlib.Omega.{arith}
use native.Mathlib.Decide.{ℕ_discrete}
use lib.Dec.{eqb}
use borrow.Author.Tests.{ne_eqb, eqb-true, eqb-false}
use Rattle.words.specs.Words.{word_at}
use Rattle.numbers.proofs.TestLaws.{and_left, and_right, neither, not_left, not_right}
use Rattle.drawer.specs.Chains.{walk, times}
use Rattle.drawer.proofs.TimesLaws.{times_here, times_more, times_nil, times_other}
use Rattle.drawer.proofs.Links.{Links}
use Rattle.drawer.specs.Drawer.{id_in, has_id, no_id_twice}
use Rattle.drawer.specs.Search.{is_stop, records, record_of}
use Rattle.drawer.proofs.SeekLaws.{Stopped, stopped_at, stopped_none}
use Rattle.drawer.proofs.DrawerLaws.{parts, head_low, search_stops}
use Rattle.drawer.proofs.IdLaws.{right_of, of_not}
use Rattle.drawer.proofs.ViewLaws.{View, view_walk, drawer_of}

pub has_not : (width : ℕ) (w : ℕ → ℕ) (x : ℕ) (l : List ℕ) (r : ℕ) → has_id width w x l ≡ false → 0 < times r l → id_in width w r ≡ x → ⊥
unfolding has_id
has_not width w x [] r e h z = omega (arith, times_nil r)
has_not width w x (y ∷ l) r e h z = go (ℕ_discrete r y) (λ k. has_not width w x l r (not_right (eqb (id_in width w y) x) (has_id width w x l) e) k z)
  where
    go : Dec (r ≡ y) → (0 < times r l → ⊥) → ⊥
    go (yes q) rest = eqb-false (id_in width w y) x (not_left (eqb (id_in width w y) x) (has_id width w x l) e) (subst (λ (i : ℕ). id_in width w i ≡ x) q z)
    go (no q) rest = rest (omega (arith, h, times_other r y l q))

pub not_has : (width : ℕ) (w : ℕ → ℕ) (x : ℕ) (l : List ℕ) → ((r : ℕ) → 0 < times r l → id_in width w r ≡ x → ⊥) → has_id width w x l ≡ false
unfolding has_id
not_has width w x [] h = refl
not_has width w x (y ∷ l) h =
    neither (eqb (id_in width w y) x) (has_id width w x l) (ne_eqb (id_in width w y) x (h y (times_here y l))) (not_has width w x l (λ r k. h r (omega (arith, times_more r y l))))

only_one : (width : ℕ) (w : ℕ → ℕ) (l : List ℕ) (r q : ℕ) → no_id_twice width w l ≡ true → 0 < times r l → 0 < times q l → id_in width w r ≡ id_in width w q → r ≡ q
unfolding no_id_twice
only_one width w [] r q t h k e = absurd (omega (arith, times_nil r))
only_one width w (y ∷ l) r q t h k e = go (ℕ_discrete r y) (ℕ_discrete q y) (λ a b. only_one width w l r q (and_right (not (has_id width w (id_in width w y) l)) (no_id_twice width w l) t) a b e)
  where
    free : has_id width w (id_in width w y) l ≡ false
    free = of_not (has_id width w (id_in width w y) l) (and_left (not (has_id width w (id_in width w y) l)) (no_id_twice width w l) t)

    go : Dec (r ≡ y) → Dec (q ≡ y) → (0 < times r l → 0 < times q l → r ≡ q) → r ≡ q
    go (yes a) (yes b) rest = a ∙ sym b
    go (yes a) (no b) rest = absurd (has_not width w (id_in width w y) l q free (omega (arith, k, times_other q y l b)) (sym e ∙ ap (id_in width w) a))
    go (no a) (yes b) rest = absurd (has_not width w (id_in width w y) l r free (omega (arith, h, times_other r y l a)) (e ∙ ap (id_in width w) b))
    go (no a) (no b) rest = rest (omega (arith, h, times_other r y l a)) (omega (arith, k, times_other q y l b))

module _ (width : ℕ) (s : List ℕ) (c : ℕ → List ℕ) (v : View width s c) (x : ℕ) where
  low : x % 16 < 17
  low = omega (arith, head_low x)

  chain : walk width (word_at s) (records width s) (x % 16) ≡ c (x % 16)
  chain = view_walk width s c v (x % 16) low

  links : Links width (word_at s) (x % 16) (walk width (word_at s) (records width s) (x % 16))
  links = subst (λ (l : List ℕ). Links width (word_at s) (x % 16) l) (sym chain) (v.spread.links (x % 16) low)

  search_at : Stopped width (is_stop width (word_at s) false x) (word_at s) (records width s) (records width s) (x % 16) (walk width (word_at s) (records width s) (x % 16))
  search_at = search_stops width s (parts width s (drawer_of width s c v)) (is_stop width (word_at s) false x) (x % 16) low

  pub found_at : 0 < record_of width s x → (0 < times (record_of width s x) (c (x % 16))) × (id_in width (word_at s) (record_of width s x) ≡ x)
  found_at some =
      let a = stopped_at width (is_stop width (word_at s) false x) (word_at s) (records width s) (records width s) (x % 16) (walk width (word_at s) (records width s) (x % 16)) links search_at some in
      (subst (λ (l : List ℕ). 0 < times (record_of width s x) l) chain a.3, eqb-true (id_in width (word_at s) (record_of width s x)) x a.2)

  pub absent_at : record_of width s x ≡ 0 → has_id width (word_at s) x (c (x % 16)) ≡ false
  absent_at none =
      let a = stopped_none width (is_stop width (word_at s) false x) (word_at s) (records width s) (records width s) (x % 16) (walk width (word_at s) (records width s) (x % 16)) links search_at none in
      not_has width (word_at s) x (c (x % 16)) (λ r h. eqb-false (id_in width (word_at s) r) x (search_at.gone r (subst (λ (l : List ℕ). 0 < times r l) (sym chain ∙ a.1) h)))

  pub is_found : (r : ℕ) → 0 < times r (c (x % 16)) → id_in width (word_at s) r ≡ x → record_of width s x ≡ r
  is_found r h e = go (ℕ_discrete (record_of width s x) 0)
    where
      go : Dec (record_of width s x ≡ 0) → record_of width s x ≡ r
      go (yes z) = absurd (has_not width (word_at s) x (c (x % 16)) r (absent_at z) h e)
      go (no z) =
          let a = found_at (omega arith) in
          only_one width (word_at s) (c (x % 16)) (record_of width s x) r (right_of width (word_at s) (x % 16) (c (x % 16)) (v.chain (x % 16) (head_low x))).single a.0 h (a.1 ∙ sym e)

  pub is_absent : has_id width (word_at s) x (c (x % 16)) ≡ false → record_of width s x ≡ 0
  is_absent e = go (ℕ_discrete (record_of width s x) 0)
    where
      go : Dec (record_of width s x ≡ 0) → record_of width s x ≡ 0
      go (yes z) = z
      go (no z) = let a = found_at (omega arith) in absurd (has_not width (word_at s) x (c (x % 16)) (record_of width s x) e a.0 a.1)
