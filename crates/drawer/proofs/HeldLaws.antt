-- What a drawer holds under an id, and what its history says.
use mathlib.Core.Path.{◌≡◌, refl, sym, ap, ◌∙◌, subst}
use mathlib.Core.Bool.{Bool, true, not}
use mathlib.Core.List.{List}
use Prim.Native.Nat.{ℕ, zero, suc, ◌+◌, ◌%◌, ◌<◌, ◌≤◌}
use native.Mathlib.Omega.{arith}
use native.Mathlib.Decide.{ℕ_discrete}
use lib.Dec.{eqb}
use lib.ListN.{length, length-append}
use borrow.Author.Tests.{ne_eqb}
use Rattle.words.specs.Words.{word_at, bytes_of}
use Rattle.drawer.specs.Chains.{times, flat}
use Rattle.drawer.specs.Drawer.{id_in, is_drawer}
use Rattle.drawer.specs.Search.{records, record_of}
use Rattle.drawer.specs.Order.{Ascends}
use Rattle.drawer.specs.Calls.{width, state_in}
use Rattle.drawer.specs.Lists.{Held, nothing, state, Event, last_saved, is_held, held_ids}
use Rattle.drawer.proofs.SpreadLaws.{flat_long}
use Rattle.drawer.proofs.SurgeryLaws.{changed, changed_other, pos}
use Rattle.drawer.proofs.SeekLaws.{Stopped}
use Rattle.drawer.proofs.DrawerLaws.{parts, head_low, search_stops}
use Rattle.drawer.proofs.ViewLaws.{View, view_walk, drawer_of}
use Rattle.drawer.proofs.LookLaws.{has_not, not_has, found_at, absent_at, is_found, is_absent}

-- ---- what is held under an id
abbrev pub held_at : List ℕ → ℕ → Held
held_at s zero = nothing
held_at s (suc r) = state (bytes_of (state_in s (suc r)))

abbrev pub held_in : List ℕ → ℕ → Held
held_in s y = held_at s (record_of width s y)

pub held_some : (s : List ℕ) (r : ℕ) → 0 < r → held_at s r ≡ state (bytes_of (state_in s r))
held_some s zero h = absurd (omega arith)
held_some s (suc r) h = refl

-- the same under y after a call: its record stays in the chain, with its id and state, and no other comes
pub held_kept : (s : List ℕ) (c : ℕ → List ℕ) (v : View width s c) (t : List ℕ) (d : ℕ → List ℕ) (u : View width t d) (y : ℕ)
    → ((r : ℕ) → 0 < r → 0 < times r (c (y % 16)) → id_in width (word_at s) r ≡ y → (0 < times r (d (y % 16))) × (id_in width (word_at t) r ≡ y) × (state_in t r ≡ state_in s r))
    → ((r : ℕ) → 0 < times r (d (y % 16)) → id_in width (word_at t) r ≡ y → (0 < times r (c (y % 16))) × (id_in width (word_at s) r ≡ y))
    → held_in t y ≡ held_in s y
held_kept s c v t d u y stays none = go (ℕ_discrete (record_of width s y) 0)
  where
    go : Dec (record_of width s y ≡ 0) → held_in t y ≡ held_in s y
    go (yes e) =
        ap (held_at t) (is_absent width t d u y (not_has width (word_at t) y (d (y % 16)) (λ r h z. let b = none r h z in has_not width (word_at s) y (c (y % 16)) r (absent_at width s c v y e) b.0 b.1)))
        ∙ sym (ap (held_at s) e)
    go (no e) =
        let f = found_at width s c v y (omega arith) in
        let k = stays (record_of width s y) (omega arith) f.0 f.1 in
        ap (held_at t) (is_found width t d u y (record_of width s y) k.0 k.1)
        ∙ held_some t (record_of width s y) (omega arith) ∙ ap (λ (ws : List ℕ). state (bytes_of ws)) k.2 ∙ sym (held_some s (record_of width s y) (omega arith))

-- ---- the drawer s holds what the history h says; c are its chains, n its records
pub record Holds (n : ℕ) (s : List ℕ) (h : List Event) : Type 0 where
  pub chains : ℕ → List ℕ
  pub view : View width s chains
  pub size : records width s ≡ n
  pub held : (y : ℕ) → held_in s y ≡ last_saved h y
  pub count : held_ids h + length (chains 16) + 1 ≡ n
  pub up : (k : ℕ) → k < 16 → Ascends width (word_at s) (chains k)

pub held_is : (s : List ℕ) (r : ℕ) → is_held (held_at s r) ≡ not (eqb r 0)
held_is s zero = refl
held_is s (suc r) = sym (ap not (ne_eqb (suc r) 0 (λ z. omega arith)))

-- ---- two chains changed
pub changed_both : (c : ℕ → List ℕ) (k : ℕ) (l d : List ℕ) (j : ℕ) → j < 16 → changed (changed c k l) 16 d j ≡ changed c k l j
changed_both c k l d j h = changed_other (changed c k l) 16 d j (λ z. omega arith)

pub long_two : (c : ℕ → List ℕ) (m k : ℕ) → k < m → length (c k) + length (c m) ≤ length (flat c (suc m))
unfolding flat
long_two c m k h = omega (arith, flat_long c m k h, length-append (flat c m) (c m))

module _ (n : ℕ) (s : List ℕ) (h : List Event) (e : Holds n s h) where
  pub right : is_drawer width s ≡ true
  right = drawer_of width s e.chains e.view

  -- a search in the chain of x
  pub in_chain_of : (x : ℕ) (stop : ℕ → Bool) → Stopped width stop (word_at s) (records width s) (records width s) (x % 16) (e.chains (x % 16))
  in_chain_of x stop =
      subst (λ (l : List ℕ). Stopped width stop (word_at s) (records width s) (records width s) (x % 16) l) (view_walk width s e.chains e.view (x % 16) (omega (arith, head_low x)))
      (search_stops width s (parts width s right) stop (x % 16) (omega (arith, head_low x)))

  pub pos_of : (j r : ℕ) → j < 17 → 0 < times r (e.chains j) → 0 < r
  pos_of j r l m = pos width (word_at s) (records width s) e.chains e.view.spread j r l m
