-- What the check knows after the first k chains, and that at the end it is what 13 asks.
use mathlib.Core.Path.{◌≡◌, refl, sym, ap, ◌∙◌, subst}
use mathlib.Core.Bool.{Bool, true, false, cond, not, ◌&&◌, ◌||◌}
use mathlib.Core.List.{List, [], ◌∷◌, ◌++◌}
use Prim.Native.Nat.{ℕ, zero, suc, ◌+◌, ◌-◌, ◌*◌, ◌<◌, ◌≤◌}
use native.Mathlib.Nat.{not-suc-le-zero, zero-add}
use native.Mathlib.Numerals.{add-one}
use native.Mathlib.Omega.{arith}
use native.Mathlib.Decide.{ℕ_discrete}
use lib.Dec.{eqb}
use lib.ListN.{length, length-append, take, get_or, set, length-set, replicate}
use lib.Seq.{get_or-set_same, get_or-set_other}
use borrow.Author.Tests.{eq-eqb, ne_eqb, eqb-false}
use Rattle.numbers.proofs.TestLaws.{and_left, and_right, and_both}
use Rattle.drawer.specs.Chains.{walk, times}
use Rattle.drawer.proofs.TestLaws.{false_of, clash}
use Rattle.drawer.proofs.TimesLaws.{times_append, times_here, times_more, times_nil, times_other}
use Rattle.drawer.proofs.Links.{Links}
use Rattle.drawer.specs.Chains.{flat}
use Rattle.drawer.specs.Drawer.{chain_of, is_spread, no_id_twice, under_head, are_states, is_chain, are_chains, is_filled}
use Rattle.std.specs.Prelude.{Some, None}
use Rattle.std.specs.List.{list_any}
use Rattle.drawer.specs.Tours.{tour_from, is_met, is_single}
use Rattle.drawer.specs.declared.tour.Tour.{Tour}
use Rattle.drawer.proofs.ChainLaws.{links_walk}
use Rattle.drawer.proofs.SpreadLaws.{flat_long, Spread, spread_of, spread_long, is_spread_lem, sum_all, sum_le_each}
use Rattle.drawer.proofs.SurgeryLaws.{below, alone}
use Rattle.std.proofs.lemmas.List.{get_or-take, length-take}
use Rattle.std.proofs.lemmas.List.Folds.{list_any_at}
use Rattle.drawer.proofs.TourLaws.{any_found}
use Rattle.drawer.proofs.CheckLaws.{last_of, last_member, links_once, meet_last, made, ascends, Placed, tour_of, tour_found, asc_twice, Below, twice_of, placed_below, placed_chain, chain_placed, free_placed}

pub record Fine (width : ℕ) (w : ℕ → ℕ) (n k : ℕ) (l : List ℕ) : Type 0 where
  pub links : Links width w k l
  pub placed : Placed width w n k l
  pub short : length l ≤ n
  pub single : k < 16 → no_id_twice width w l ≡ true

pub record Passed (width : ℕ) (w : ℕ → ℕ) (n k : ℕ) (lasts : List ℕ) (total : ℕ) : Type 0 where
  pub fine : (j : ℕ) → j < k → Fine width w n j (walk width w n j)
  pub ends : (j : ℕ) → j < k → get_or lasts j 0 ≡ last_of 0 (walk width w n j)
  pub apart : (i j : ℕ) → i < j → j < k → last_of 0 (walk width w n i) ≡ last_of 0 (walk width w n j) → 0 < last_of 0 (walk width w n j) → ⊥
  pub counted : total ≡ length (flat (chain_of width w n) k)
  pub long : length lasts ≡ 17

-- ---- from the definition
pub chains_at : (width : ℕ) (w : ℕ → ℕ) (c : ℕ → List ℕ) (m k : ℕ) → are_chains width w c m ≡ true → k < m → is_chain width w k (c k) ≡ true
unfolding are_chains
chains_at width w c zero k e h = absurd (not-suc-le-zero h)
chains_at width w c (suc m) k e h = go (ℕ_discrete k m) (λ l. chains_at width w c m k (and_left (are_chains width w c m) (is_chain width w m (c m)) e) l)
  where
    go : Dec (k ≡ m) → (k < m → is_chain width w k (c k) ≡ true) → is_chain width w k (c k) ≡ true
    go (yes z) rest = subst (λ (i : ℕ). is_chain width w i (c i) ≡ true) (sym z) (and_right (are_chains width w c m) (is_chain width w m (c m)) e)
    go (no z) rest = rest (omega arith)

pub at_chains : (width : ℕ) (w : ℕ → ℕ) (c : ℕ → List ℕ) (m : ℕ) → ((k : ℕ) → k < m → is_chain width w k (c k) ≡ true) → are_chains width w c m ≡ true
unfolding are_chains
at_chains width w c zero h = refl
at_chains width w c (suc m) h = and_both (are_chains width w c m) (is_chain width w m (c m)) (at_chains width w c m (λ k l. h k (omega arith))) (h m (omega arith))

below_of : (n : ℕ) (l : List ℕ) → ((r : ℕ) → 0 < times r l → r < n) → Below n l
below_of n [] h = tt
below_of n (r ∷ l) h = (h r (times_here r l), below_of n l (λ x k. h x (omega (arith, times_more x r l))))

pub of_below : (n : ℕ) (l : List ℕ) (r : ℕ) → Below n l → 0 < times r l → r < n
unfolding times
of_below n [] r b h = absurd (omega arith)
of_below n (x ∷ l) r b h = go (ℕ_discrete r x) (λ k. of_below n l r b.1 k)
  where
    go : Dec (r ≡ x) → (0 < times r l → r < n) → r < n
    go (yes e) rest = omega (arith, b.0)
    go (no e) rest = rest (omega (arith, subst (λ (t : Bool). 0 < cond t 1 0 + times r l) (ne_eqb r x e) h))

some_of : (width : ℕ) (w : ℕ → ℕ) (q : ℕ) (l : List ℕ) (x : ℕ) → Links width w q l → 0 < times x l → 0 < x
some_of width w q [] x g z = absurd (omega (arith, times_nil x))
some_of width w q (y ∷ l) x g z = pick (ℕ_discrete x y) (λ k. some_of width w (width * y) l x g.2 k)
  where
    pick : Dec (x ≡ y) → (0 < times x l → 0 < x) → 0 < x
    pick (yes e) rest = omega (arith, g.1)
    pick (no e) rest = rest (omega (arith, times_other x y l e))

is_met_lem : (lasts : List ℕ) (k x i : ℕ) → k ≤ length lasts → i < k → get_or lasts i 0 ≡ x → 0 < x → is_met (take k lasts) x ≡ true
unfolding is_met
is_met_lem lasts k x i fits h e some =
    rw (ne_eqb x 0 (λ z. omega arith))
    (list_any_at (λ y. eqb y x) (take k lasts) i 0 (omega (arith, length-take k lasts)) (eq-eqb (get_or (take k lasts) i 0) x (get_or-take k lasts i 0 h ∙ e)))

module _ (width : ℕ) (w : ℕ → ℕ) (n : ℕ) (some : 0 < n) where
  filled_spread : is_filled width w n ≡ true → Spread width w n (chain_of width w n)
  unfolding is_filled
  filled_spread e = spread_of width w n some (and_left (is_spread width w n) (are_chains width w (chain_of width w n) 16) e)

  filled_chain : (k : ℕ) → is_filled width w n ≡ true → k < 16 → is_chain width w k (walk width w n k) ≡ true
  unfolding is_filled
  filled_chain k e h = chains_at width w (chain_of width w n) 16 k (and_right (is_spread width w n) (are_chains width w (chain_of width w n) 16) e) h

  pub filled_fine : (k : ℕ) → is_filled width w n ≡ true → k < 17 → Fine width w n k (walk width w n k)
  filled_fine k e h = record {
    links = s.links k h;
    placed = placed (ℕ_discrete k 16);
    short = omega (arith, spread_long width w n (chain_of width w n) some s, flat_long (chain_of width w n) 17 k h);
    single = λ low. and_right (under_head width w k l) (no_id_twice width w l) (and_left (under_head width w k l && no_id_twice width w l) (are_states width w l) (filled_chain k e low));
  }
    where
      l : List ℕ
      l = walk width w n k

      s : Spread width w n (chain_of width w n)
      s = filled_spread e

      b : Below n (walk width w n k)
      b = below_of n (walk width w n k) (λ r x. below width w n (chain_of width w n) s k r h x)

      placed : Dec (k ≡ 16) → Placed width w n k (walk width w n k)
      placed (yes z) = subst (λ (i : ℕ). Placed width w n i (walk width w n k)) (sym z) (free_placed width w n (walk width w n k) b)
      placed (no z) =
          let good = filled_chain k e (omega arith) in
          chain_placed width w n k (walk width w n k) (omega arith) b
          (and_left (under_head width w k l) (no_id_twice width w l) (and_left (under_head width w k l && no_id_twice width w l) (are_states width w l) good))
          (and_right (under_head width w k l && no_id_twice width w l) (are_states width w l) good)

  -- ---- to the definition
  flat_member : (c : ℕ → List ℕ) (m r : ℕ) → 0 < times r (flat c m) → (k : ℕ) × (k < m) × (0 < times r (c k))
  unfolding flat times
  flat_member c zero r h = absurd (omega arith)
  flat_member c (suc m) r h = go (ℕ_discrete (times r (c m)) 0) (λ k. flat_member c m r k)
    where
      go : Dec (times r (c m) ≡ 0) → (0 < times r (flat c m) → (k : ℕ) × (k < m) × (0 < times r (c k))) → (k : ℕ) × (k < suc m) × (0 < times r (c k))
      go (yes e) rest = let f = rest (omega (arith, times_append r (flat c m) (c m))) in (f.0, omega (arith, f.1), f.2)
      go (no e) rest = (m, omega arith, omega arith)

  passed_most : (k : ℕ) (lasts : List ℕ) (total : ℕ) → Passed width w n k lasts total → (m r : ℕ) → m ≤ k → times r (flat (chain_of width w n) m) ≤ 1
  unfolding flat times
  passed_most k lasts total p zero r fits = omega arith
  passed_most k lasts total p (suc m) r fits = go (ℕ_discrete (times r (walk width w n m)) 0) (ℕ_discrete (times r (flat (chain_of width w n) m)) 0) (passed_most k lasts total p m r (omega arith))
    where
      go : Dec (times r (walk width w n m) ≡ 0) → Dec (times r (flat (chain_of width w n) m) ≡ 0) → times r (flat (chain_of width w n) m) ≤ 1 → times r (flat (chain_of width w n) m ++ walk width w n m) ≤ 1
      go (yes e) d rest = omega (arith, times_append r (flat (chain_of width w n) m) (walk width w n m))
      go (no e) (yes f) rest =
          omega (arith, times_append r (flat (chain_of width w n) m) (walk width w n m), links_once width w m (walk width w n m) r (p.fine m (omega arith)).links)
      go (no e) (no f) rest =
          let i = flat_member (chain_of width w n) m r (omega arith) in
          let both = meet_last width w i.0 m r (walk width w n i.0) (walk width w n m) (p.fine i.0 (omega (arith, i.1))).links (p.fine m (omega arith)).links i.2 (omega arith) in
          absurd (p.apart i.0 m i.1 (omega arith) both.0 (omega (arith, both.0, both.1)))

  inside_of : (lasts : List ℕ) (total r : ℕ) → Passed width w n 17 lasts total → 0 < times r (flat (chain_of width w n) 17) → (0 < r) × (r < n)
  inside_of lasts total r p h =
      let i = flat_member (chain_of width w n) 17 r h in
      let f = p.fine i.0 i.1 in
      (some_of width w i.0 (walk width w n i.0) r f.links i.2, of_below n (walk width w n i.0) r (placed_below width w n i.0 (walk width w n i.0) f.placed) i.2)

  passed_spread : (lasts : List ℕ) (total : ℕ) → Passed width w n 17 lasts total → total + 1 ≡ n → Spread width w n (chain_of width w n)
  passed_spread lasts total p full = record {
    links = λ k h. (p.fine k h).links;
    once = λ r h k. sum_le_each (flat (chain_of width w n) 17) (n - 1) r (λ i. passed_most 17 lasts total p 17 i (omega arith))
        (sym (sum_all (flat (chain_of width w n) 17) (n - 1) (λ i x. let q = inside_of lasts total i p x in (q.0, omega (arith, q.1)))) ∙ omega (arith, p.counted))
        h (omega arith);
    inside = λ r h. inside_of lasts total r p h;
  }

  pub passed_all : (lasts : List ℕ) (total : ℕ) → Passed width w n 17 lasts total → is_filled width w n ≡ eqb (total + 1) n
  unfolding is_filled
  passed_all lasts total p = go (ℕ_discrete (total + 1) n)
    where
      chain : (k : ℕ) → k < 16 → is_chain width w k (walk width w n k) ≡ true
      chain k h =
          let f = p.fine k (omega arith) in
          let q = placed_chain width w n k (walk width w n k) h f.placed in
          and_both _ _ (and_both _ _ q.0 (f.single h)) q.1

      go : Dec (total + 1 ≡ n) → is_spread width w n && are_chains width w (chain_of width w n) 16 ≡ eqb (total + 1) n
      go (yes e) =
          and_both _ _ (is_spread_lem width w n (chain_of width w n) some (passed_spread lasts total p e)) (at_chains width w (chain_of width w n) 16 chain)
          ∙ sym (eq-eqb (total + 1) n e)
      go (no e) =
          false_of _ (λ t. e (omega (arith, p.counted, spread_long width w n (chain_of width w n) some (spread_of width w n some (and_left (is_spread width w n) (are_chains width w (chain_of width w n) 16) t)))))
          ∙ sym (ne_eqb (total + 1) n e)

  -- ---- a turn of the check's loop
  abbrev pub Toured : ℕ → Tour → Type 0
  Toured k t =
      Links width w k (walk width w n k)
      × Placed width w n k (walk width w n k)
      × (length (walk width w n k) ≤ n)
      × (t ≡ made (length (walk width w n k)) (last_of 0 (walk width w n k)) (ascends width w 0 0 (walk width w n k)))

  tour_is : (k : ℕ) (l : List ℕ) → Links width w k l → Placed width w n k l → length l ≤ n
      → tour_from width w n k n (w k) 0 0 0 true ≡ Some (made (length l) (last_of 0 l) (ascends width w 0 0 l))
  tour_is k l h placed short =
      tour_of width w n k n k l 0 0 0 true h placed short ∙ ap (λ (i : ℕ). Some (made i (last_of 0 l) (ascends width w 0 0 l))) (zero-add (length l))

  pub toured : (k : ℕ) (t : Tour) → Some t ≡ tour_from width w n k n (w k) 0 0 0 true → Toured k t
  toured k t e =
      let f = tour_found width w n k n k 0 0 0 true t (sym e) in
      subst (λ (l : List ℕ). Links width w k l × Placed width w n k l × (length l ≤ n) × (t ≡ made (length l) (last_of 0 l) (ascends width w 0 0 l)))
      (sym (links_walk width w n k f.0 f.1 f.3))
      (f.1, f.2, f.3, same t _ (e ∙ tour_is k f.0 f.1 f.2 f.3))
    where
      same : (a b : Tour) → Some a ≡ Some b → a ≡ b
      same a b z = cc

  pub refused_tour : (k : ℕ) → k < 17 → None ≡ tour_from width w n k n (w k) 0 0 0 true → is_filled width w n ≡ false
  refused_tour k h e =
      false_of (is_filled width w n) (λ f. let g = filled_fine k f h in
      let z : None ≡ Some (made (length (walk width w n k)) (last_of 0 (walk width w n k)) (ascends width w 0 0 (walk width w n k))) = e ∙ tour_is k (walk width w n k) g.links g.placed g.short in cc)

  met_found : (lasts : List ℕ) (k x : ℕ) → is_met (take k lasts) x ≡ true → (0 < x) × ((j : ℕ) × (j < k) × (get_or lasts j 0 ≡ x))
  unfolding is_met
  met_found lasts k x e = go (eqb x 0) refl e
    where
      go : (b : Bool) → eqb x 0 ≡ b → not b && list_any (λ y. eqb y x) (take k lasts) ≡ true → (0 < x) × ((j : ℕ) × (j < k) × (get_or lasts j 0 ≡ x))
      go true f g = absurd (clash false g refl)
      go false f g =
          let s = any_found (take k lasts) x g in
          let low : s.0 < k = omega (arith, s.1, length-take k lasts) in
          (omega (arith, eqb-false x 0 f), (s.0, low, sym (get_or-take k lasts s.0 0 low) ∙ s.2))

  pub refused_met : (k : ℕ) (lasts : List ℕ) (total : ℕ) (t : Tour) → k < 17 → Passed width w n k lasts total → Toured k t → is_met (take k lasts) t.last ≡ true → is_filled width w n ≡ false
  refused_met k lasts total t h p q e =
      false_of (is_filled width w n) (λ f.
      let m = met_found lasts k t.last e in
      let x : t.last ≡ last_of 0 (walk width w n k) = ap (λ (y : Tour). y.last) q.3 in
      let j = m.1.0 in
      let y : last_of 0 (walk width w n j) ≡ t.last = sym (p.ends j m.1.1) ∙ m.1.2 in
      alone width w n (chain_of width w n) (filled_spread f) j k (last_of 0 (walk width w n k)) (omega (arith, m.1.1)) h (λ z. omega (arith, m.1.1))
      (subst (λ (i : ℕ). 0 < times i (walk width w n j)) (y ∙ x) (last_member (walk width w n j) (omega (arith, m.0, y))))
      (last_member (walk width w n k) (omega (arith, m.0, x))))

  single_is : (k : ℕ) (up : Bool) → Links width w k (walk width w n k) → Placed width w n k (walk width w n k) → length (walk width w n k) ≤ n → is_single width w n k up ≡ (eqb k 16 || up) || no_id_twice width w (walk width w n k)
  unfolding is_single
  single_is k up h placed short =
      ap (λ (b : Bool). (eqb k 16 || up) || b)
      (ap not (twice_of width w n n k (walk width w n k) h (placed_below width w n k (walk width w n k) placed) short) ∙ not_not (no_id_twice width w (walk width w n k)))
    where
      not_not : (b : Bool) → not (not b) ≡ b
      not_not true = refl
      not_not false = refl

  pub refused_single : (k : ℕ) (t : Tour) → k < 17 → Toured k t → is_single width w n k t.up ≡ false → is_filled width w n ≡ false
  refused_single k t h q e =
      false_of (is_filled width w n) (λ f. clash (is_single width w n k t.up) (single_is k t.up q.0 q.1 q.2 ∙ go (ℕ_discrete k 16) f) e)
    where
      always : (b : Bool) → b || true ≡ true
      always true = refl
      always false = refl

      go : Dec (k ≡ 16) → is_filled width w n ≡ true → (eqb k 16 || t.up) || no_id_twice width w (walk width w n k) ≡ true
      go (yes z) f = rw (eq-eqb k 16 z)
      go (no z) f = rw ((filled_fine k f h).single (omega arith)) (always (eqb k 16 || t.up))

  pub passed_none : Passed width w n 0 (replicate 17 0) 0
  unfolding flat
  passed_none = record {
    fine = λ j h. absurd (not-suc-le-zero h);
    ends = λ j h. absurd (not-suc-le-zero h);
    apart = λ i j h k. absurd (not-suc-le-zero k);
    counted = refl;
    long = refl;
  }

  pub passed_next : (k : ℕ) (lasts : List ℕ) (total : ℕ) (t : Tour) → k < 17 → Passed width w n k lasts total → Toured k t → is_met (take k lasts) t.last ≡ false
      → is_single width w n k t.up ≡ true → Passed width w n (k + 1) (set lasts k t.last) (total + t.count)
  unfolding flat
  passed_next k lasts total t h p q off one = record {
    fine = λ j x. fine j x (ℕ_discrete j k);
    ends = λ j x. ends j x (ℕ_discrete j k);
    apart = λ i j x y. apart i j x y (ℕ_discrete j k);
    counted = ap (λ (i : ℕ). i + t.count) p.counted ∙ ap (λ (i : ℕ). length (flat (chain_of width w n) k) + i) (ap (λ (y : Tour). y.count) q.3)
        ∙ sym (length-append (flat (chain_of width w n) k) (walk width w n k)) ∙ ap (λ (i : ℕ). length (flat (chain_of width w n) i)) (sym (add-one k));
    long = length-set lasts k t.last ∙ p.long;
  }
    where
      l : List ℕ
      l = walk width w n k

      last : t.last ≡ last_of 0 (walk width w n k)
      last = ap (λ (y : Tour). y.last) q.3

      single : k < 16 → no_id_twice width w (walk width w n k) ≡ true
      single low = go t.up refl
        where
          go : (b : Bool) → t.up ≡ b → no_id_twice width w (walk width w n k) ≡ true
          go true e = asc_twice width w 0 0 k (walk width w n k) q.0 (sym (ap (λ (y : Tour). y.up) q.3) ∙ e)
          go false e = rw (ne_eqb k 16 (λ z. omega arith), e) at (sym (single_is k t.up q.0 q.1 q.2) ∙ one)

      fine : (j : ℕ) → j < k + 1 → Dec (j ≡ k) → Fine width w n j (walk width w n j)
      fine j x (yes e) = subst (λ (i : ℕ). Fine width w n i (walk width w n i)) (sym e) (record { links = q.0; placed = q.1; short = q.2; single = single })
      fine j x (no e) = p.fine j (omega arith)

      ends : (j : ℕ) → j < k + 1 → Dec (j ≡ k) → get_or (set lasts k t.last) j 0 ≡ last_of 0 (walk width w n j)
      ends j x (yes e) = subst (λ (i : ℕ). get_or (set lasts k t.last) i 0 ≡ last_of 0 (walk width w n i)) (sym e) (get_or-set_same lasts k t.last 0 (omega (arith, p.long)) ∙ last)
      ends j x (no e) = get_or-set_other lasts k j t.last 0 e ∙ p.ends j (omega arith)

      met : (i : ℕ) → i < k → last_of 0 (walk width w n i) ≡ last_of 0 (walk width w n k) → 0 < last_of 0 (walk width w n k) → ⊥
      met i x e some = clash (is_met (take k lasts) t.last) (is_met_lem lasts k t.last i (omega (arith, p.long)) x (p.ends i x ∙ e ∙ sym last) (omega (arith, last))) off

      apart : (i j : ℕ) → i < j → j < k + 1 → Dec (j ≡ k) → last_of 0 (walk width w n i) ≡ last_of 0 (walk width w n j) → 0 < last_of 0 (walk width w n j) → ⊥
      apart i j x y (yes z) e some =
          met i (omega arith) (subst (λ (m : ℕ). last_of 0 (walk width w n i) ≡ last_of 0 (walk width w n m)) z e) (subst (λ (m : ℕ). 0 < last_of 0 (walk width w n m)) z some)
      apart i j x y (no z) e some = p.apart i j x (omega arith) e some

  pub toured_count : (k : ℕ) (t : Tour) → Toured k t → t.count ≤ n
  toured_count k t q = omega (arith, ap (λ (y : Tour). y.count) q.3, q.2)
