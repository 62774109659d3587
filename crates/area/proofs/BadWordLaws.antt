-- The word of the number kept is the first after which it is kept, and shows it itself. Assumes nothing.
use Rattle.std.specs.Prelude.{◌≡◌, ℕ, zero, suc, ◌%◌, ◌<◌, ◌≤◌, Bool, true, false, cond, not, eqb, ltb, ◌==◌, ◌≢◌, List, length}
use mathlib.Core.Path.{refl, sym, ap, ◌∙◌, subst}
use native.Mathlib.Omega.{arith}
use borrow.Author.Tests.{eqb-true, eqb-false, ne_eqb, eq-eqb, le-ltb}
use Rattle.area.specs.Checks.{shows_no, any_shows, lowest_where, frame_refusal}
use Rattle.area.specs.Sweep.{lowest_of, words_up_to, first_keeping, bad_word, BadWordHolds}
use Rattle.area.specs.Marks.{shown_by, walk_from, walk_of}
use Rattle.area.proofs.WalkLaws.{lower_of, shown_no, lowest_next, Change, same, first, lower, next_change, since, since_within, since_none, since_some, sweep_is, word_kept, lowest_is}

-- ---- the first word

-- a number below what is kept after n words, or any where nothing is, was kept after none of them
not_yet : (s : List ℕ) (k n : ℕ) → 0 < k → (lowest_of s n ≢ 0 → k < lowest_of s n) → first_keeping s k n ≡ 0
unfolding first_keeping
not_yet s k zero some below = refl
not_yet s k (suc n) some below = go (next_change s n) (not_yet s k n some)
  where
    differs : lowest_of s (suc n) ≡ k → ⊥
    differs e = omega (arith, some, e, below (λ z. omega (arith, some, e, z)))

    go : Change (lowest_of s n) (lowest_of s (suc n)) → ((lowest_of s n ≢ 0 → k < lowest_of s n) → first_keeping s k n ≡ 0) → first_keeping s k (suc n) ≡ 0
    go (same e) before = rw (before (λ h. subst (λ (l : ℕ). k < l) e (below (λ z. h (sym e ∙ z)))), ne_eqb (lowest_of s (suc n)) k differs)
    go (first e h) before = rw (before (λ g. absurd (g e)), ne_eqb (lowest_of s (suc n)) k differs)
    go (lower l h) before = rw (before (λ g. omega (arith, l, below (λ z. omega (arith, h, z)))), ne_eqb (lowest_of s (suc n)) k differs)

since_first : (s : List ℕ) (n : ℕ) → 0 < lowest_of s n → first_keeping s (lowest_of s n) n ≡ since s n
unfolding first_keeping lowest_of any_shows
since_first s zero some = refl
since_first s (suc n) some = go (next_change s n) (since_first s n)
  where
    changed : (lowest_of s n ≢ 0 → lowest_of s (suc n) < lowest_of s n) → (lowest_of s (suc n) ≡ lowest_of s n → ⊥) → first_keeping s (lowest_of s (suc n)) (suc n) ≡ since s (suc n)
    changed below differs =
        rw (not_yet s (lowest_of s (suc n)) n some below, eq-eqb (lowest_of s (suc n)) (lowest_of s (suc n)) refl, ne_eqb (lowest_of s (suc n)) (lowest_of s n) differs)

    go : Change (lowest_of s n) (lowest_of s (suc n)) → (0 < lowest_of s n → first_keeping s (lowest_of s n) n ≡ since s n) → first_keeping s (lowest_of s (suc n)) (suc n) ≡ since s (suc n)
    go (same e) before =
        let some_before = subst (λ (l : ℕ). 0 < l) e some in
        subst
        (λ (k : ℕ). cond (first_keeping s k n == 0) (cond (lowest_of s (suc n) == k) (suc n) 0) (first_keeping s k n) ≡ since s (suc n))
        (sym e)
        (rw (before some_before, ne_eqb (since s n) 0 (λ z. omega (arith, z, since_some s n some_before)), eq-eqb (lowest_of s (suc n)) (lowest_of s n) e))
    go (first e h) before = changed (λ g. absurd (g e)) (λ z. omega (arith, e, h, z))
    go (lower l h) before = changed (λ g. l) (λ z. omega (arith, l, z))

-- a number kept is 2 or more
two_or_more : (a b c d : Bool) → 0 < lowest_where a b c d → ltb 1 (lowest_where a b c d) ≡ true
two_or_more true b c d h = refl
two_or_more false true c d h = refl
two_or_more false false true d h = refl
two_or_more false false false true h = refl
two_or_more false false false false h = absurd (omega (arith, h))

since_is : (s : List ℕ) → not (eqb (length s) 416) ≡ false → since s 104 ≡ bad_word s
unfolding bad_word lowest_of
since_is s whole = go (eqb (lowest_of s 104) 0) refl ∙ ap (λ (k : ℕ). cond (ltb 1 k) (first_keeping s k 104) 0) (lowest_is s whole)
  where
    go : (b : Bool) → eqb (lowest_of s 104) 0 ≡ b → since s 104 ≡ cond (ltb 1 (lowest_of s 104)) (first_keeping s (lowest_of s 104) 104) 0
    go true e = let none = eqb-true (lowest_of s 104) 0 e in since_none s 104 none ∙ rw none
    go false e =
        let some : 0 < lowest_of s 104 = omega (arith, eqb-false (lowest_of s 104) 0 e) in
        sym (since_first s 104 some)
        ∙ rw (two_or_more (any_shows 2 s 104) (any_shows 3 s 104) (any_shows 4 s 104) (any_shows 5 s 104) some)

walk_word : (s : List ℕ) → not (eqb (length s) 416) ≡ false → (walk_of s 104).mark % 128 ≡ since s 104
unfolding walk_of walk_from words_up_to lowest_of
walk_word s whole = rw (whole, sweep_is s 104) (word_kept s 104 (omega arith))

pub bad_word_is : (s : List ℕ) → (walk_of s 104).mark % 128 ≡ bad_word s
unfolding walk_of bad_word frame_refusal
bad_word_is s = go (not (eqb (length s) 416)) refl
  where
    go : (b : Bool) → not (eqb (length s) 416) ≡ b → (walk_of s 104).mark % 128 ≡ bad_word s
    go true e = rw e
    go false e = walk_word s e ∙ since_is s e

-- ---- that word itself

-- the lowest of four that holds, holds
picked : (P : ℕ → Bool) → 0 < lowest_where (P 2) (P 3) (P 4) (P 5) → P (lowest_where (P 2) (P 3) (P 4) (P 5)) ≡ true
picked P = go (P 2) refl (P 3) refl (P 4) refl (P 5) refl
  where
    go : (a : Bool) → P 2 ≡ a → (b : Bool) → P 3 ≡ b → (c : Bool) → P 4 ≡ c → (d : Bool) → P 5 ≡ d →
        0 < lowest_where a b c d → P (lowest_where a b c d) ≡ true
    go true ea b eb c ec d ed h = ea
    go false ea true eb c ec d ed h = eb
    go false ea false eb true ec d ed h = ec
    go false ea false eb false ec true ed h = ed
    go false ea false eb false ec false ed h = absurd (omega (arith, h))

shown_shows : (s : List ℕ) (n : ℕ) → 0 < shown_no s n → shows_no (shown_no s n) s n ≡ true
unfolding shown_by shows_no
shown_shows s n some = picked (λ (k : ℕ). shows_no k s n) some

lowered : (low k : ℕ) → (lower_of low k ≡ low → ⊥) → lower_of low k ≡ k
unfolding lower_of
lowered low k differs = go (eqb k 0) refl (eqb low 0) refl (ltb k low) refl differs
  where
    go : (p : Bool) → eqb k 0 ≡ p → (q : Bool) → eqb low 0 ≡ q → (r : Bool) → ltb k low ≡ r →
        (cond p low (cond q k (cond r k low)) ≡ low → ⊥) → cond p low (cond q k (cond r k low)) ≡ k
    go true ep q eq r er h = absurd (h refl)
    go false ep true eq r er h = refl
    go false ep false eq true er h = refl
    go false ep false eq false er h = absurd (h refl)

since_shows : (s : List ℕ) (n : ℕ) → 0 < lowest_of s n → shows_no (lowest_of s n) s (since s n) ≡ true
unfolding lowest_of any_shows
since_shows s zero some = absurd (omega (arith, some))
since_shows s (suc n) some = go (eqb (lowest_of s (suc n)) (lowest_of s n)) refl (since_shows s n)
  where
    go : (b : Bool) → eqb (lowest_of s (suc n)) (lowest_of s n) ≡ b → (0 < lowest_of s n → shows_no (lowest_of s n) s (since s n) ≡ true) →
        shows_no (lowest_of s (suc n)) s (cond b (since s n) (suc n)) ≡ true
    go true e before =
        let same = eqb-true (lowest_of s (suc n)) (lowest_of s n) e in
        ap (λ (k : ℕ). shows_no k s (since s n)) same ∙ before (subst (λ (k : ℕ). 0 < k) same some)
    go false e before =
        let next = lowest_next s n in
        let shown = sym next ∙ lowered (lowest_of s n) (shown_no s (suc n)) (λ h. eqb-false (lowest_of s (suc n)) (lowest_of s n) e (sym next ∙ h)) in
        ap (λ (k : ℕ). shows_no k s (suc n)) shown ∙ shown_shows s (suc n) (subst (λ (k : ℕ). 0 < k) shown some)

-- ---- what holds of the bad word
is_whole : (s : List ℕ) (b : Bool) → not (eqb (length s) 416) ≡ b → 1 < frame_refusal s → b ≡ false
unfolding frame_refusal
is_whole s false e h = refl
is_whole s true e h = absurd (omega (arith, subst (λ (b : Bool). 1 < cond b 1 (lowest_where (any_shows 2 s 104) (any_shows 3 s 104) (any_shows 4 s 104) (any_shows 5 s 104))) e h))

bad_word_holds : (s : List ℕ) → BadWordHolds s (bad_word s)
unfolding bad_word
bad_word_holds s = record {
  none = λ h. ap (λ (b : Bool). cond b (first_keeping s (frame_refusal s) 104) 0) (le-ltb 1 (frame_refusal s) h);
  some = λ h. let w = whole h in subst (λ (n : ℕ). (0 < n) × (n ≤ 104)) (since_is s w) (since_some s 104 (kept w h), since_within s 104);
  shows = λ h. let w = whole h in
      subst (λ (n : ℕ). shows_no (frame_refusal s) s n ≡ true) (since_is s w)
      (subst (λ (k : ℕ). shows_no k s (since s 104) ≡ true) (lowest_is s w) (since_shows s 104 (kept w h)));
}
  where
    whole : 1 < frame_refusal s → not (eqb (length s) 416) ≡ false
    whole h = is_whole s (not (eqb (length s) 416)) refl h

    kept : not (eqb (length s) 416) ≡ false → 1 < frame_refusal s → 0 < lowest_of s 104
    kept w h = omega (arith, h, lowest_is s w)

pub holds_of : (s : List ℕ) (n : ℕ) → n ≡ bad_word s → BadWordHolds s n
holds_of s n is = subst (BadWordHolds s) (sym is) (bad_word_holds s)
