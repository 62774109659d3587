-- Chains over any function from the number of a word to the word: what a few writes of links do to them.
use mathlib.Core.Path.{◌≡◌, refl, sym, ◌∙◌, subst}
use mathlib.Core.Bool.{Bool, true, false, cond}
use mathlib.Core.List.{List, [], ◌∷◌, ◌++◌}
use Prim.Native.Nat.{ℕ, zero, suc, ◌*◌, ◌<◌, ◌≤◌}
use native.Mathlib.Nat.{not-suc-le-zero}
use native.Mathlib.Omega.{arith}
use lib.Dec.{eqb}
use lib.ListN.{length}
use borrow.Author.Tests.{eq-eqb, ne_eqb, eqb-true, eqb-false}
use Rattle.drawer.specs.Chains.{walk, times}
use Rattle.drawer.proofs.TimesLaws.{times_here, times_more}
use Rattle.drawer.proofs.Links.{Links, link_after}
use Rattle.drawer.proofs.WidthLaws.{same_record}

-- ---- walks and chains
pub links_walk : (width : ℕ) (w : ℕ → ℕ) (m p : ℕ) (l : List ℕ) → Links width w p l → length l ≤ m → walk width w m p ≡ l
unfolding walk
links_walk width w zero p [] h fits = refl
links_walk width w zero p (r ∷ l) h fits = absurd (not-suc-le-zero fits)
links_walk width w (suc m) p [] h fits = rw (eq-eqb (w p) 0 h)
links_walk width w (suc m) p (r ∷ l) h fits = rw (ne_eqb (w p) 0 (λ z. omega arith), h.0, links_walk width w m (width * r) l h.2 (omega arith))

-- a walk that took fewer steps than it might came to the end
pub walk_links : (width : ℕ) (w : ℕ → ℕ) (m p : ℕ) → length (walk width w m p) < m → Links width w p (walk width w m p)
unfolding walk
walk_links width w zero p short = absurd (not-suc-le-zero short)
walk_links width w (suc m) p short = go (λ k. walk_links width w m (width * w p) k) (eqb (w p) 0) refl short
  where
    go : (length (walk width w m (width * w p)) < m → Links width w (width * w p) (walk width w m (width * w p))) → (b : Bool) → eqb (w p) 0 ≡ b
        → length (cond b [] (w p ∷ walk width w m (width * w p))) < suc m → Links width w p (cond b [] (w p ∷ walk width w m (width * w p)))
    go rest true e s = eqb-true (w p) 0 e
    go rest false e s = (refl, omega (arith, eqb-false (w p) 0 e), rest (omega arith))

pub links_same : (width : ℕ) (w : ℕ → ℕ) (p : ℕ) (l m : List ℕ) → Links width w p l → Links width w p m → l ≡ m
links_same width w p [] [] h k = refl
links_same width w p [] (s ∷ m) h k = absurd (omega arith)
links_same width w p (r ∷ l) [] h k = absurd (omega arith)
links_same width w p (r ∷ l) (s ∷ m) h k =
    let same : r ≡ s = sym h.0 ∙ k.0 in
    rw (same, links_same width w (width * s) l m (subst (λ (x : ℕ). Links width w (width * x) l) same h.2) k.2)

-- ---- what two functions of words must share
-- the links in the records of l
abbrev pub Keeps : (width : ℕ) → (ℕ → ℕ) → (ℕ → ℕ) → List ℕ → Type 0
Keeps width w v [] = Unit {0}
Keeps width w v (r ∷ l) = (v (width * r) ≡ w (width * r)) × Keeps width w v l

-- the links on the way from p through the records a, without the last
abbrev pub Front : (width : ℕ) → (ℕ → ℕ) → (ℕ → ℕ) → ℕ → List ℕ → Type 0
Front width w v p [] = Unit {0}
Front width w v p (r ∷ a) = (v p ≡ w p) × Front width w v (width * r) a

-- ---- the frame
pub frame : (width : ℕ) (w v : ℕ → ℕ) (p : ℕ) (l : List ℕ) → Links width w p l → v p ≡ w p → Keeps width w v l → Links width v p l
frame width w v p [] h same keeps = same ∙ h
frame width w v p (r ∷ l) h same keeps = (same ∙ h.0, h.1, frame width w v (width * r) l h.2 keeps.0 keeps.1)

-- the rest of a chain, reached from another link that names the same record
pub joined : (width : ℕ) (w v : ℕ → ℕ) (p q : ℕ) (l : List ℕ) → Links width w p l → v q ≡ w p → Keeps width w v l → Links width v q l
joined width w v p q [] h same keeps = same ∙ h
joined width w v p q (r ∷ l) h same keeps = (same ∙ h.0, h.1, frame width w v (width * r) l h.2 keeps.0 keeps.1)

-- ---- a record put in: two links are written, that after a, and the record's own
pub insert : (width : ℕ) (w v : ℕ → ℕ) (p f : ℕ) (a b : List ℕ) → Links width w p (a ++ b) → 0 < f → v (link_after width p a) ≡ f → v (width * f) ≡ w (link_after width p a)
    → Front width w v p a → Keeps width w v b → Links width v p (a ++ (f ∷ b))
insert width w v p f [] b h some to from front keeps = (to, some, joined width w v p (width * f) b h from keeps)
insert width w v p f (r ∷ a) b h some to from front keeps = (front.0 ∙ h.0, h.1, insert width w v (width * r) f a b h.2 some to from front.1 keeps)

-- ---- a record taken out: one link is written, that after a
pub remove : (width : ℕ) (w v : ℕ → ℕ) (p f : ℕ) (a b : List ℕ) → Links width w p (a ++ (f ∷ b)) → v (link_after width p a) ≡ w (width * f) → Front width w v p a → Keeps width w v b
    → Links width v p (a ++ b)
remove width w v p f [] b h over front keeps = joined width w v (width * f) p b h.2 over keeps
remove width w v p f (r ∷ a) b h over front keeps = (front.0 ∙ h.0, h.1, remove width w v (width * r) f a b h.2 over front.1 keeps)

-- the link after a names the record that follows
pub link_names : (width : ℕ) (w : ℕ → ℕ) (p f : ℕ) (a b : List ℕ) → Links width w p (a ++ (f ∷ b)) → w (link_after width p a) ≡ f
link_names width w p f [] b h = h.0
link_names width w p f (r ∷ a) b h = link_names width w (width * r) f a b h.2

pub link_ends : (width : ℕ) (w : ℕ → ℕ) (p : ℕ) (a : List ℕ) → Links width w p a → w (link_after width p a) ≡ 0
link_ends width w p [] h = h
link_ends width w p (r ∷ a) h = link_ends width w (width * r) a h.2

-- ---- how often a record stands in a list
-- ---- from "each record at most once" to Front and Keeps
pub keeps_of : (width : ℕ) (w v : ℕ → ℕ) (l : List ℕ) → ((r : ℕ) → 0 < times r l → v (width * r) ≡ w (width * r)) → Keeps width w v l
keeps_of width w v [] same = tt
keeps_of width w v (r ∷ l) same = (same r (times_here r l), keeps_of width w v l (λ x h. same x (omega (arith, times_more x r l))))

-- a word that is neither p nor a link of the records a is not the link after them
pub apart_after : (width : ℕ) (x p : ℕ) (a : List ℕ) → (x ≡ p → ⊥) → ((r : ℕ) → 0 < times r a → x ≡ width * r → ⊥) → x ≡ link_after width p a → ⊥
apart_after width x p [] here apart e = here e
apart_after width x p (r ∷ a) here apart e = apart_after width x (width * r) a (apart r (times_here r a)) (λ s h. apart s (omega (arith, times_more s r a))) e

times_twice : (r s : ℕ) (a : List ℕ) → r ≡ s → 0 < times s a → 1 < times s (r ∷ a)
unfolding times
times_twice r s a same h = rw (eq-eqb s r (sym same)) (omega arith)

twice : (width : ℕ) (r s : ℕ) (a : List ℕ) → 0 < width → times s (r ∷ a) ≤ 1 → 0 < times s a → width * r ≡ width * s → ⊥
twice width r s a some once h e = omega (arith, times_twice r s a (same_record width r s some e) h)

pub front_of : (width : ℕ) (w v : ℕ → ℕ) (p : ℕ) (a : List ℕ) → 0 < width → ((x : ℕ) → (x ≡ link_after width p a → ⊥) → (x ≡ p) → v x ≡ w x)
    → ((r : ℕ) → 0 < times r a → (width * r ≡ link_after width p a → ⊥) → v (width * r) ≡ w (width * r))
    → ((r : ℕ) → 0 < times r a → p ≡ width * r → ⊥) → ((r : ℕ) → times r a ≤ 1) → Front width w v p a
front_of width w v p [] some at_p in_a apart once = tt
front_of width w v p (r ∷ a) some at_p in_a apart once = (
  at_p p (λ e. apart_after width p (width * r) a (apart r (times_here r a)) (λ s h. apart s (omega (arith, times_more s r a))) e) refl,
  front_of width w v (width * r) a some
      (λ x off e. subst (λ (y : ℕ). v y ≡ w y) (sym e) (in_a r (times_here r a) (λ z. off (e ∙ z))))
      (λ s h off. in_a s (omega (arith, times_more s r a)) off)
      (λ s h e. twice width r s a some (once s) h e)
      (λ s. omega (arith, times_more s r a, once s)),
)
