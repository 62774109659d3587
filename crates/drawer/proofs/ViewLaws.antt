-- A drawer and its chains as lists of records c, and the links in it.
use mathlib.Core.Path.{◌≡◌, refl, sym, subst}
use mathlib.Core.Bool.{true, ◌&&◌}
use mathlib.Core.List.{List, [], ◌∷◌, ◌++◌}
use mathlib.Core.Logic.{◌⊎◌, inl, inr, ⊎_elim}
use Prim.Native.Nat.{ℕ, ◌*◌, ◌<◌, ◌≤◌}
use native.Mathlib.Omega.{arith}
use lib.Dec.{eqb, ltb, leb}
use lib.ListN.{length}
use borrow.Author.Tests.{eq-eqb, lt-ltb, le-leb}
use Rattle.words.specs.Words.{word_at}
use Rattle.numbers.proofs.TestLaws.{and_left, and_right, and_both}
use Rattle.drawer.specs.Chains.{walk, times}
use Rattle.drawer.proofs.TimesLaws.{times_here, times_more}
use Rattle.drawer.proofs.Links.{Links, link_after}
use Rattle.drawer.specs.Drawer.{chain_of, is_chain, are_chains, is_spread, is_filled, records_of, is_whole, is_drawer}
use Rattle.drawer.specs.Search.{records}
use Rattle.drawer.proofs.SpreadLaws.{Spread, spread_of, spread_walk, is_spread_lem}
use Rattle.drawer.proofs.PassedLaws.{at_chains, chains_at}
use Rattle.drawer.proofs.DrawerLaws.{parts}

pub record View (width : ℕ) (s : List ℕ) (c : ℕ → List ℕ) : Type 0 where
  pub size : length s ≡ 4 * (width * records width s)
  pub some : 0 < records width s
  pub most : records width s ≤ 65536
  pub named : word_at s 17 ≡ 4 * width
  pub spread : Spread width (word_at s) (records width s) c
  pub chain : (k : ℕ) → k < 16 → is_chain width (word_at s) k (c k) ≡ true

pub view_of : (width : ℕ) (s : List ℕ) → is_drawer width s ≡ true → View width s (chain_of width (word_at s) (records width s))
unfolding is_filled
view_of width s e =
    let p = parts width s e in
    record {
      size = p.size;
      some = p.some;
      most = p.most;
      named = p.named;
      spread = spread_of width (word_at s) (records width s) p.some (and_left (is_spread width (word_at s) (records width s)) (are_chains width (word_at s) (chain_of width (word_at s) (records width s)) 16) p.filled);
      chain = λ k h. chains_at width (word_at s) (chain_of width (word_at s) (records width s)) 16 k (and_right (is_spread width (word_at s) (records width s)) (are_chains width (word_at s) (chain_of width (word_at s) (records width s)) 16) p.filled) h;
    }

pub view_walk : (width : ℕ) (s : List ℕ) (c : ℕ → List ℕ) → View width s c → (k : ℕ) → k < 17 → walk width (word_at s) (records width s) k ≡ c k
view_walk width s c v k h = spread_walk width (word_at s) (records width s) c v.some v.spread k h

whole_of : (width len : ℕ) → len ≡ 4 * (width * records_of width len) → 0 < records_of width len → records_of width len ≤ 65536 → is_whole width len ≡ true
unfolding is_whole
whole_of width len e some most =
    and_both (eqb (4 * (width * records_of width len)) len) (ltb 0 (records_of width len) && leb (records_of width len) 65536) (eq-eqb _ _ (sym e))
    (and_both (ltb 0 (records_of width len)) (leb (records_of width len) 65536) (lt-ltb 0 (records_of width len) some) (le-leb (records_of width len) 65536 most))

pub drawer_of : (width : ℕ) (s : List ℕ) (c : ℕ → List ℕ) → View width s c → is_drawer width s ≡ true
unfolding is_drawer is_filled
drawer_of width s c v =
    and_both (is_whole width (length s)) (eqb (word_at s 17) (4 * width) && (is_spread width (word_at s) (records width s) && are_chains width (word_at s) (chain_of width (word_at s) (records width s)) 16))
    (whole_of width (length s) v.size v.some v.most)
    (and_both (eqb (word_at s 17) (4 * width)) (is_spread width (word_at s) (records width s) && are_chains width (word_at s) (chain_of width (word_at s) (records width s)) 16)
    (eq-eqb (word_at s 17) (4 * width) v.named)
    (and_both (is_spread width (word_at s) (records width s)) (are_chains width (word_at s) (chain_of width (word_at s) (records width s)) 16)
    (is_spread_lem width (word_at s) (records width s) c v.some v.spread)
    (at_chains width (word_at s) (chain_of width (word_at s) (records width s)) 16
    (λ k h. subst (λ (l : List ℕ). is_chain width (word_at s) k l ≡ true) (sym (view_walk width s c v k (omega arith))) (v.chain k h)))))

-- ---- links
-- a link is a head, or the first word of a record on the way
pub link_form : (width : ℕ) (p : ℕ) (a : List ℕ) → (link_after width p a ≡ p) ⊎ ((t : ℕ) × (link_after width p a ≡ width * t) × (0 < times t a))
link_form width p [] = inl refl
link_form width p (r ∷ a) =
    ⊎_elim (λ e. inr (r, e, times_here r a)) (λ e. inr (e.0, e.1, omega (arith, e.2, times_more e.0 r a))) (link_form width (width * r) a)

pub link_value : (width : ℕ) (w : ℕ → ℕ) (n p : ℕ) (a b : List ℕ) → 0 < n → Links width w p (a ++ b) → ((r : ℕ) → 0 < times r b → r < n) → w (link_after width p a) < n
link_value width w n p [] [] some h all = omega (arith, h)
link_value width w n p [] (r ∷ b) some h all = omega (arith, h.0, all r (times_here r b))
link_value width w n p (x ∷ a) b some h all = link_value width w n (width * x) a b some h.2 all
