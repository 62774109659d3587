-- What a save of a new id, a forgetting and a rewriting do to the 17 chains. w is the buffer before, v after; q is the link that is written.
use mathlib.Core.Path.{◌≡◌, refl, sym, ap, ◌∙◌, subst}
use mathlib.Core.Bool.{cond}
use mathlib.Core.List.{List, ◌∷◌, ◌++◌}
use Prim.Native.Nat.{ℕ, ◌+◌, ◌*◌, ◌<◌, ◌≤◌}
use native.Mathlib.Omega.{arith}
use native.Mathlib.Decide.{ℕ_discrete}
use lib.Dec.{eqb}
use borrow.Author.Tests.{eq-eqb, ne_eqb}
use Rattle.drawer.specs.Chains.{times}
use Rattle.drawer.proofs.TimesLaws.{times_here, times_append, times_more, times_one, times_split, times_mid, counts_itself}
use Rattle.drawer.proofs.Links.{Links, link_after}
use Rattle.drawer.specs.Chains.{flat}
use Rattle.drawer.proofs.ChainLaws.{Front, Keeps, frame, joined, insert, remove, keeps_of, apart_after, front_of}
use Rattle.drawer.proofs.WidthLaws.{same_record, past_heads}
use Rattle.drawer.proofs.SpreadLaws.{Spread, flat_times, flat_two, flat_change}

-- the chains with one of them changed
abbrev pub changed : (ℕ → List ℕ) → ℕ → List ℕ → ℕ → List ℕ
changed c k l j = cond (eqb j k) l (c j)

pub changed_here : (c : ℕ → List ℕ) (k : ℕ) (l : List ℕ) → changed c k l k ≡ l
changed_here c k l = rw (eq-eqb k k refl)

pub changed_other : (c : ℕ → List ℕ) (k : ℕ) (l : List ℕ) (j : ℕ) → (j ≡ k → ⊥) → changed c k l j ≡ c j
changed_other c k l j off = rw (ne_eqb j k off)

module _ (width : ℕ) (w : ℕ → ℕ) (n : ℕ) (c : ℕ → List ℕ) (s : Spread width w n c) where
  at_most : (r : ℕ) → times r (flat c 17) ≤ 1
  at_most r = go (ℕ_discrete (times r (flat c 17)) 0)
    where
      go : Dec (times r (flat c 17) ≡ 0) → times r (flat c 17) ≤ 1
      go (yes e) = omega arith
      go (no e) = let i = s.inside r (omega arith) in omega (arith, s.once r i.0 i.1)

  pub pos : (j r : ℕ) → j < 17 → 0 < times r (c j) → 0 < r
  pos j r h k = (s.inside r (omega (arith, flat_times c 17 j r h))).0

  pub below : (j r : ℕ) → j < 17 → 0 < times r (c j) → r < n
  below j r h k = (s.inside r (omega (arith, flat_times c 17 j r h))).1

  pub single : (j r : ℕ) → j < 17 → times r (c j) ≤ 1
  single j r h = omega (arith, at_most r, flat_times c 17 j r h)

  -- no record stands in two chains
  pub alone : (j k r : ℕ) → j < 17 → k < 17 → (j ≡ k → ⊥) → 0 < times r (c j) → 0 < times r (c k) → ⊥
  alone j k r h l off x y = omega (arith, at_most r, flat_two c 17 j k r h l off)

module _ (width : ℕ) (w : ℕ → ℕ) (n : ℕ) (c : ℕ → List ℕ) (s : Spread width w n c) (wide : 16 < width) where
  -- the link after some records of chain k is no link of another chain
  off_chain : (j k r : ℕ) (a b : List ℕ) → j < 17 → k < 17 → (j ≡ k → ⊥) → c k ≡ a ++ b → 0 < times r (c j) → width * r ≡ link_after width k a → ⊥
  off_chain j k r a b h l off e x =
      apart_after width (width * r) k a
      (λ z. omega (arith, past_heads width r (pos width w n c s j r h x)))
      (λ t y z. let same : r ≡ t = same_record width r t (omega arith) z in
      alone width w n c s j k t h l off (subst (λ (i : ℕ). 0 < times i (c j)) same x) (omega (arith, ap (times t) e, times_append t a b)))

  off_head : (j k : ℕ) (a b : List ℕ) → j < 17 → k < 17 → (j ≡ k → ⊥) → c k ≡ a ++ b → j ≡ link_after width k a → ⊥
  off_head j k a b h l off e = apart_after width j k a off (λ t y z. omega (arith, past_heads width t (pos width w n c s k t l (omega (arith, ap (times t) e, times_append t a b)))))

  -- nor one of the records that follow in its own
  off_rest : (k r : ℕ) (a b : List ℕ) → k < 17 → c k ≡ a ++ b → 0 < times r b → width * r ≡ link_after width k a → ⊥
  off_rest k r a b l e x =
      apart_after width (width * r) k a
      (λ z. omega (arith, past_heads width r (pos width w n c s k r l (omega (arith, ap (times r) e, times_append r a b)))))
      (λ t y z. let same : r ≡ t = same_record width r t (omega arith) z in
      let x' : 0 < times t b = subst (λ (i : ℕ). 0 < times i b) same x in
      omega (arith, single width w n c s k t l, ap (times t) e, times_append t a b))

  -- ---- v has every link of w, but q = link_after k a, the link in record f, and word 16
  module _ (v : ℕ → ℕ) (k f : ℕ) (a b : List ℕ) (low : k < 16) (cut : c k ≡ a ++ b)
      (heads : (j : ℕ) → j < 16 → (j ≡ link_after width k a → ⊥) → v j ≡ w j)
      (recs : (r : ℕ) → 0 < r → (r ≡ f → ⊥) → (width * r ≡ link_after width k a → ⊥) → v (width * r) ≡ w (width * r)) where
    in_front : (r : ℕ) → 0 < times r a → 0 < times r (c k)
    in_front r x = omega (arith, ap (times r) cut, times_append r a b)

    in_rest : (r : ℕ) → 0 < times r b → 0 < times r (c k)
    in_rest r x = omega (arith, ap (times r) cut, times_append r a b)

    the_front : ((r : ℕ) → 0 < times r a → r ≡ f → ⊥) → Front width w v k a
    the_front off =
        front_of width w v k a (omega arith)
        (λ x away e. subst (λ (y : ℕ). v y ≡ w y) (sym e) (heads k low (λ z. away (e ∙ z))))
        (λ r x away. recs r (pos width w n c s k r (omega arith) (in_front r x)) (off r x) away)
        (λ r x e. omega (arith, past_heads width r (pos width w n c s k r (omega arith) (in_front r x))))
        (λ r. omega (arith, single width w n c s k r (omega arith), ap (times r) cut, times_append r a b))

    the_rest : (d : List ℕ) → ((r : ℕ) → 0 < times r d → 0 < times r b) → ((r : ℕ) → 0 < times r d → r ≡ f → ⊥) → Keeps width w v d
    the_rest d within off =
        keeps_of width w v d (λ r x. recs r (pos width w n c s k r (omega arith) (in_rest r (within r x))) (off r x) (off_rest k r a b (omega arith) cut (within r x)))

    -- of another chain
    the_other : (j : ℕ) (d : List ℕ) → j < 17 → (j ≡ k → ⊥) → ((r : ℕ) → 0 < times r d → 0 < times r (c j)) → ((r : ℕ) → 0 < times r d → r ≡ f → ⊥) → Keeps width w v d
    the_other j d h away within off =
        keeps_of width w v d (λ r x. recs r (pos width w n c s j r h (within r x)) (off r x) (off_chain j k r a b h (omega arith) away cut (within r x)))

    other_links : (j : ℕ) → j < 16 → (j ≡ k → ⊥) → ((r : ℕ) → 0 < times r (c j) → r ≡ f → ⊥) → Links width v j (c j)
    other_links j h away off =
        frame width w v j (c j) (s.links j (omega arith))
        (heads j h (off_head j k a b (omega arith) (omega arith) away cut))
        (the_other j (c j) (omega arith) away (λ r x. x) off)

  -- chains with the same records are spread alike
  moved : (v : ℕ → ℕ) (d : ℕ → List ℕ) → ((j : ℕ) → j < 17 → Links width v j (d j)) → ((r : ℕ) → times r (flat d 17) ≡ times r (flat c 17)) → Spread width v n d
  moved v d links same = record {
    links = links;
    once = λ r h k. same r ∙ s.once r h k;
    inside = λ r h. s.inside r (omega (arith, same r));
  }

  -- two chains changed, k and 16
  two : (k r : ℕ) (x y : List ℕ) → k < 16 → times r (flat (changed (changed c k x) 16 y) 17) + times r (c k) + times r (c 16) ≡ times r (flat c 17) + times r x + times r y
  two k r x y low =
      omega (
        arith,
        flat_change c (changed c k x) 17 k r (omega arith) (λ j off. changed_other c k x j off),
        flat_change (changed c k x) (changed (changed c k x) 16 y) 17 16 r (omega arith) (λ j off. changed_other (changed c k x) 16 y j off),
        ap (times r) (changed_here c k x),
        ap (times r) (changed_here (changed c k x) 16 y),
        ap (times r) (changed_other c k x 16 (λ z. omega arith)),
      )

  two_links : (v : ℕ → ℕ) (k : ℕ) (x y : List ℕ) → Links width v k x → Links width v 16 y → ((j : ℕ) → j < 16 → (j ≡ k → ⊥) → Links width v j (c j)) → k < 16
      → (j : ℕ) → j < 17 → Links width v j (changed (changed c k x) 16 y j)
  two_links v k x y at_k at_16 others low j h = go (ℕ_discrete j 16) (ℕ_discrete j k)
    where
      go : Dec (j ≡ 16) → Dec (j ≡ k) → Links width v j (changed (changed c k x) 16 y j)
      go (yes e) d = subst (λ (i : ℕ). Links width v i (changed (changed c k x) 16 y i)) (sym e) (subst (λ (l : List ℕ). Links width v 16 l) (sym (changed_here (changed c k x) 16 y)) at_16)
      go (no e) (yes z) =
          subst (λ (l : List ℕ). Links width v j l) (sym (changed_other (changed c k x) 16 y j e))
          (subst (λ (i : ℕ). Links width v i (changed c k x i)) (sym z) (subst (λ (l : List ℕ). Links width v k l) (sym (changed_here c k x)) at_k))
      go (no e) (no z) =
          subst (λ (l : List ℕ). Links width v j l) (sym (changed_other (changed c k x) 16 y j e ∙ changed_other c k x j z)) (others j (omega arith) z)

  -- ---- a save of a new id: the head f of the free chain goes into chain k after a
  pub saved : (v : ℕ → ℕ) (k f : ℕ) (a b d : List ℕ) → k < 16 → c k ≡ a ++ b → c 16 ≡ f ∷ d
      → v (link_after width k a) ≡ f → v (width * f) ≡ w (link_after width k a) → v 16 ≡ w (width * f)
      → ((j : ℕ) → j < 16 → (j ≡ link_after width k a → ⊥) → v j ≡ w j)
      → ((r : ℕ) → 0 < r → (r ≡ f → ⊥) → (width * r ≡ link_after width k a → ⊥) → v (width * r) ≡ w (width * r))
      → Spread width v n (changed (changed c k (a ++ (f ∷ b))) 16 d)
  saved v k f a b d low cut free to from head heads recs =
      moved v (changed (changed c k (a ++ (f ∷ b))) 16 d)
      (two_links v k (a ++ (f ∷ b)) d
      (insert width w v k f a b (subst (λ (l : List ℕ). Links width w k l) cut (s.links k (omega arith))) (pos width w n c s 16 f (omega arith) free_f) to from
      (the_front v k f a b low cut heads recs (λ r x e. clash k r (omega arith) (λ z. omega arith) (in_front v k f a b low cut heads recs r x) e))
      (the_rest v k f a b low cut heads recs b (λ r x. x) (λ r x e. clash k r (omega arith) (λ z. omega arith) (in_rest v k f a b low cut heads recs r x) e)))
      (joined width w v (width * f) 16 d free_links.2 head
      (the_other v k f a b low cut heads recs 16 d (omega arith) (λ z. omega arith) (λ r x. in_free r x)
      (λ r x e. omega (arith, single width w n c s 16 f (omega arith), ap (times f) free, times_one f f d, counts_itself f, ap (λ (i : ℕ). times i d) e))))
      (λ j h away. other_links v k f a b low cut heads recs j h away (λ r x e. clash j r (omega arith) (λ z. omega arith) x e))
      low)
      (λ r. omega (arith, two k r (a ++ (f ∷ b)) d low, ap (times r) cut, ap (times r) free, times_split r f a b, times_one r f d))
    where
      free_f : 0 < times f (c 16)
      free_f = subst (λ (l : List ℕ). 0 < times f l) (sym free) (times_here f d)

      free_links : Links width w 16 (f ∷ d)
      free_links = subst (λ (l : List ℕ). Links width w 16 l) free (s.links 16 (omega arith))

      in_free : (r : ℕ) → 0 < times r d → 0 < times r (c 16)
      in_free r x = omega (arith, ap (times r) free, times_more r f d)

      clash : (j r : ℕ) → j < 17 → (j ≡ 16 → ⊥) → 0 < times r (c j) → r ≡ f → ⊥
      clash j r h away x e = alone width w n c s j 16 f h (omega arith) away (subst (λ (i : ℕ). 0 < times i (c j)) e x) free_f

  -- ---- a forgetting: record f goes from chain k, where it stands after a, to the head of the free chain
  pub forgotten : (v : ℕ → ℕ) (k f : ℕ) (a b : List ℕ) → k < 16 → c k ≡ a ++ (f ∷ b)
      → v (link_after width k a) ≡ w (width * f) → v (width * f) ≡ w 16 → v 16 ≡ f
      → ((j : ℕ) → j < 16 → (j ≡ link_after width k a → ⊥) → v j ≡ w j)
      → ((r : ℕ) → 0 < r → (r ≡ f → ⊥) → (width * r ≡ link_after width k a → ⊥) → v (width * r) ≡ w (width * r))
      → Spread width v n (changed (changed c k (a ++ b)) 16 (f ∷ c 16))
  forgotten v k f a b low cut over from head heads recs =
      moved v (changed (changed c k (a ++ b)) 16 (f ∷ c 16))
      (two_links v k (a ++ b) (f ∷ c 16)
      (remove width w v k f a b (subst (λ (l : List ℕ). Links width w k l) cut (s.links k (omega arith))) over
      (the_front v k f a (f ∷ b) low cut heads recs (λ r x e. in_a r x e))
      (the_rest v k f a (f ∷ b) low cut heads recs b (λ r x. omega (arith, times_more r f b)) (λ r x e. in_b r x e))) (
        head,
        pos width w n c s k f (omega arith) used_f,
        joined width w v 16 (width * f) (c 16) (s.links 16 (omega arith)) from
            (the_other v k f a (f ∷ b) low cut heads recs 16 (c 16) (omega arith) (λ z. omega arith) (λ r x. x) (λ r x e. clash 16 r (omega arith) (λ z. omega arith) x e)),
      )
      (λ j h away. other_links v k f a (f ∷ b) low cut heads recs j h away (λ r x e. clash j r (omega arith) away x e))
      low)
      (λ r. omega (arith, two k r (a ++ b) (f ∷ c 16) low, ap (times r) cut, times_split r f a b, times_one r f (c 16)))
    where
      used_f : 0 < times f (c k)
      used_f = subst (λ (l : List ℕ). 0 < times f l) (sym cut) (times_mid f a b)

      once_f : times f (a ++ b) ≡ 0
      once_f = omega (arith, single width w n c s k f (omega arith), ap (times f) cut, times_split f f a b, counts_itself f)

      in_a : (r : ℕ) → 0 < times r a → r ≡ f → ⊥
      in_a r x e = omega (arith, once_f, times_append f a b, ap (λ (i : ℕ). times i a) e)

      in_b : (r : ℕ) → 0 < times r b → r ≡ f → ⊥
      in_b r x e = omega (arith, once_f, times_append f a b, ap (λ (i : ℕ). times i b) e)

      clash : (j r : ℕ) → j < 17 → (j ≡ k → ⊥) → 0 < times r (c j) → r ≡ f → ⊥
      clash j r h away x e = alone width w n c s j k f h (omega arith) away (subst (λ (i : ℕ). 0 < times i (c j)) e x) used_f

  -- ---- a rewriting: every link stays
  pub kept : (v : ℕ → ℕ) → ((j : ℕ) → j < 17 → v j ≡ w j) → ((r : ℕ) → 0 < r → v (width * r) ≡ w (width * r)) → Spread width v n c
  kept v heads recs =
      moved v c
      (λ j h. frame width w v j (c j) (s.links j h) (heads j h) (keeps_of width w v (c j) (λ r x. recs r (pos width w n c s j r h x))))
      (λ r. refl)
