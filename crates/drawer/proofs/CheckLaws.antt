-- The check finds exactly what 13 names: a tour of each chain, the last records told apart, the ids, and the number of records met.
use mathlib.Core.Path.{◌≡◌, refl, sym, ap, ◌∙◌, subst}
use mathlib.Core.Bool.{Bool, true, false, cond, not, ◌&&◌, ◌||◌}
use mathlib.Core.List.{List, [], ◌∷◌, ◌++◌}
use Prim.Native.Nat.{ℕ, zero, suc, ◌+◌, ◌*◌, ◌%◌, ◌<◌, ◌≤◌}
use native.Mathlib.Nat.{not-suc-le-zero, add-zero}
use native.Mathlib.Omega.{arith}
use native.Mathlib.Decide.{ℕ_discrete}
use lib.Dec.{eqb, ltb}
use lib.ListN.{length, length-append}
use borrow.Author.Tests.{eq-eqb, ne_eqb, eqb-true, eqb-false, ltb-true, lt-ltb}
use Rattle.numbers.proofs.TestLaws.{and_left, and_right, and_both, and_true}
use Rattle.drawer.specs.Chains.{times}
use Rattle.drawer.proofs.TestLaws.{clash}
use Rattle.drawer.proofs.TimesLaws.{times_here, times_more}
use Rattle.drawer.proofs.Links.{Links}
use Rattle.drawer.specs.Drawer.{id_in, has_id, no_id_twice, under_head, is_state, are_states}
use Rattle.std.specs.Prelude.{Some, None}
use Rattle.std.specs.List.{list_any}
use Rattle.drawer.specs.Tours.{suits, is_placed, tour_from, ids_from, holds_twice}
use Rattle.drawer.specs.Search.{is_record}
use Rattle.drawer.specs.declared.tour.Tour.{Tour}
use Rattle.drawer.proofs.ChainLaws.{links_same}
use Rattle.drawer.proofs.SurgeryLaws.{below}

-- ---- lists
abbrev pub last_of : ℕ → List ℕ → ℕ
last_of x [] = x
last_of x (r ∷ l) = last_of r l

last_in : (r : ℕ) (l : List ℕ) → 0 < times (last_of r l) (r ∷ l)
last_in r [] = times_here r []
last_in r (s ∷ l) = omega (arith, last_in s l, times_more (last_of s l) r (s ∷ l))

pub last_member : (l : List ℕ) → 0 < last_of 0 l → 0 < times (last_of 0 l) l
last_member [] some = absurd (omega arith)
last_member (r ∷ l) some = last_in r l

last_append : (x r : ℕ) (a b : List ℕ) → last_of x (a ++ (r ∷ b)) ≡ last_of r b
last_append x r [] b = refl
last_append x r (y ∷ a) b = last_append y r a b

-- a record of a list stands between two parts of it
split : (r : ℕ) (l : List ℕ) → 0 < times r l → (a : List ℕ) × (b : List ℕ) × (l ≡ a ++ (r ∷ b))
unfolding times
split r [] h = absurd (omega arith)
split r (x ∷ l) h = go (ℕ_discrete r x) (λ k. split r l k)
  where
    go : Dec (r ≡ x) → (0 < times r l → (a : List ℕ) × (b : List ℕ) × (l ≡ a ++ (r ∷ b))) → (a : List ℕ) × (b : List ℕ) × (x ∷ l ≡ a ++ (r ∷ b))
    go (yes e) rest = ([], l, ap (λ (y : ℕ). y ∷ l) (sym e))
    go (no e) rest = let s = rest (omega (arith, subst (λ (b : Bool). 0 < cond b 1 0 + times r l) (ne_eqb r x e) h)) in (x ∷ s.0, s.1, ap (λ (m : List ℕ). x ∷ m) s.2)

tail_links : (width : ℕ) (w : ℕ → ℕ) (p r : ℕ) (a b : List ℕ) → Links width w p (a ++ (r ∷ b)) → Links width w (width * r) b
tail_links width w p r [] b h = h.2
tail_links width w p r (x ∷ a) b h = tail_links width w (width * x) r a b h.2

-- a chain that ends holds no record twice
longer : (a b : List ℕ) (r : ℕ) → length b < length (a ++ (r ∷ b))
longer a b r = omega (arith, length-append a (r ∷ b))

head_once : (width : ℕ) (w : ℕ → ℕ) (r : ℕ) (l : List ℕ) → Links width w (width * r) l → 0 < times r l → ⊥
head_once width w r l h k =
    let s = split r l k in
    let same : l ≡ s.1 = links_same width w (width * r) l s.1 h (tail_links width w (width * r) r s.0 s.1 (subst (λ (m : List ℕ). Links width w (width * r) m) s.2 h)) in
    omega (arith, longer s.0 s.1 r, ap length same, ap length s.2)

pub links_once : (width : ℕ) (w : ℕ → ℕ) (p : ℕ) (l : List ℕ) (r : ℕ) → Links width w p l → times r l ≤ 1
unfolding times
links_once width w p [] r h = omega arith
links_once width w p (x ∷ l) r h = go (ℕ_discrete r x) (links_once width w (width * x) l r h.2)
  where
    none : r ≡ x → Dec (times r l ≡ 0) → times r l ≡ 0
    none e (yes z) = z
    none e (no z) = absurd (head_once width w x l h.2 (omega (arith, ap (λ (i : ℕ). times i l) e)))

    go : Dec (r ≡ x) → times r l ≤ 1 → cond (eqb r x) 1 0 + times r l ≤ 1
    go (yes e) rest = rw (eq-eqb r x e) (omega (arith, none e (ℕ_discrete (times r l) 0)))
    go (no e) rest = rw (ne_eqb r x e) (omega arith)

-- two chains that end and meet share their last record
pub meet_last : (width : ℕ) (w : ℕ → ℕ) (p q r : ℕ) (l m : List ℕ) → Links width w p l → Links width w q m → 0 < times r l → 0 < times r m → (last_of 0 l ≡ last_of 0 m) × (0 < last_of 0 l)
meet_last width w p q r l m h k x y =
    let s = split r l x in
    let t = split r m y in
    let hl = subst (λ (i : List ℕ). Links width w p i) s.2 h in
    let hm = subst (λ (i : List ℕ). Links width w q i) t.2 k in
    let rest : s.1 ≡ t.1 = links_same width w (width * r) s.1 t.1 (tail_links width w p r s.0 s.1 hl) (tail_links width w q r t.0 t.1 hm) in (
      ap (last_of 0) s.2 ∙ last_append 0 r s.0 s.1 ∙ ap (last_of r) rest ∙ sym (last_append 0 r t.0 t.1) ∙ ap (last_of 0) (sym t.2),
      subst (λ (i : ℕ). 0 < i) (sym (ap (last_of 0) s.2 ∙ last_append 0 r s.0 s.1)) (last_some w (width * r) r s.1 (tail_links width w p r s.0 s.1 hl) (in_pos w p r s.0 s.1 hl)),
    )
  where
    last_some : (v : ℕ → ℕ) (i j : ℕ) (d : List ℕ) → Links width v i d → 0 < j → 0 < last_of j d
    last_some v i j [] e z = z
    last_some v i j (u ∷ d) e z = last_some v (width * u) u d e.2 e.1

    in_pos : (v : ℕ → ℕ) (i j : ℕ) (a b : List ℕ) → Links width v i (a ++ (j ∷ b)) → 0 < j
    in_pos v i j [] b e = e.1
    in_pos v i j (u ∷ a) b e = in_pos v (width * u) j a b e.2

-- ---- what a tour finds
abbrev pub made : ℕ → ℕ → Bool → Tour
made count last up = record { count = count; last = last; up = up }

abbrev pub ascends : (width : ℕ) → (ℕ → ℕ) → ℕ → ℕ → List ℕ → Bool
ascends width w last prev [] = true
ascends width w last prev (r ∷ l) = (eqb last 0 || ltb prev (id_in width w r)) && ascends width w r (id_in width w r) l

abbrev pub Placed : (width : ℕ) → (ℕ → ℕ) → ℕ → ℕ → List ℕ → Type 0
Placed width w n k [] = Unit {0}
Placed width w n k (r ∷ l) = (is_placed width w n k r ≡ true) × Placed width w n k l

and_assoc : (a b c : Bool) → (a && b) && c ≡ a && (b && c)
and_assoc true b c = refl
and_assoc false b c = refl

module _ (width : ℕ) (w : ℕ → ℕ) (n k : ℕ) where
  pub tour_of : (m p : ℕ) (l : List ℕ) (count last prev : ℕ) (up : Bool) → Links width w p l → Placed width w n k l → length l ≤ m
      → tour_from width w n k m (w p) count last prev up ≡ Some (made (count + length l) (last_of last l) (up && ascends width w last prev l))
  unfolding tour_from
  tour_of zero p [] count last prev up h placed fits = rw (eq-eqb (w p) 0 h, add-zero, and_true up)
  tour_of zero p (r ∷ l) count last prev up h placed fits = absurd (not-suc-le-zero fits)
  tour_of (suc m) p [] count last prev up h placed fits = rw (eq-eqb (w p) 0 h, add-zero, and_true up)
  tour_of (suc m) p (r ∷ l) count last prev up h placed fits =
      rw (h.0, ne_eqb r 0 (λ z. omega arith), placed.0)
      (tour_of m (width * r) l (count + 1) r (id_in width w r) (up && (eqb last 0 || ltb prev (id_in width w r))) h.2 placed.1 (omega arith)
      ∙ ap (λ (i : ℕ). Some (made i (last_of r l) ((up && (eqb last 0 || ltb prev (id_in width w r))) && ascends width w r (id_in width w r) l))) (one count (length l))
      ∙ ap (λ (b : Bool). Some (made (count + suc (length l)) (last_of r l) b)) (and_assoc up (eqb last 0 || ltb prev (id_in width w r)) (ascends width w r (id_in width w r) l)))
    where
      one : (a b : ℕ) → a + 1 + b ≡ a + suc b
      one a b = omega arith

  pub tour_found : (m p count last prev : ℕ) (up : Bool) (t : Tour) → tour_from width w n k m (w p) count last prev up ≡ Some t
      → (l : List ℕ) × Links width w p l × Placed width w n k l × (length l ≤ m)
  unfolding tour_from
  tour_found zero p count last prev up t e = go (eqb (w p) 0) refl e
    where
      go : (b : Bool) → eqb (w p) 0 ≡ b → cond b (Some (record { count = count; last = last; up = up })) None ≡ Some t
          → (l : List ℕ) × Links width w p l × Placed width w n k l × (length l ≤ 0)
      go true b f = ([], eqb-true (w p) 0 b, tt, omega arith)
      go false b f = cc
  tour_found (suc m) p count last prev up t e =
      go (eqb (w p) 0) refl (is_placed width w n k (w p)) refl e
      (λ f. tour_found m (width * w p) (count + 1) (w p) (id_in width w (w p)) (up && (eqb last 0 || ltb prev (id_in width w (w p)))) t f)
    where
      go : (b : Bool) → eqb (w p) 0 ≡ b → (d : Bool) → is_placed width w n k (w p) ≡ d
          → cond b (Some (record { count = count; last = last; up = up }))
          (cond d (tour_from width w n k m (w (width * w p)) (count + 1) (w p) (id_in width w (w p)) (up && (eqb last 0 || ltb prev (id_in width w (w p))))) None)
          ≡ Some t
          → (tour_from width w n k m (w (width * w p)) (count + 1) (w p) (id_in width w (w p)) (up && (eqb last 0 || ltb prev (id_in width w (w p)))) ≡ Some t
          → (l : List ℕ) × Links width w (width * w p) l × Placed width w n k l × (length l ≤ m))
          → (l : List ℕ) × Links width w p l × Placed width w n k l × (length l ≤ suc m)
      go true b d p' f more = ([], eqb-true (w p) 0 b, tt, omega arith)
      go false b true p' f more = let s = more f in (w p ∷ s.0, (refl, omega (arith, eqb-false (w p) 0 b), s.1), (p', s.2), omega (arith, s.3))
      go false b false p' f more = cc

-- ---- ids
or_right : (a b : Bool) → a ≡ false → a || b ≡ true → b ≡ true
or_right a b e f = rw e at f

asc_none : (width : ℕ) (w : ℕ → ℕ) (x last prev p : ℕ) (l : List ℕ) → 0 < last → x ≤ prev → Links width w p l → ascends width w last prev l ≡ true → has_id width w x l ≡ false
unfolding has_id
asc_none width w x last prev p [] some fits h up = refl
asc_none width w x last prev p (r ∷ l) some fits h up =
    let more : prev < id_in width w r = ltb-true prev (id_in width w r) (or_right (eqb last 0) (ltb prev (id_in width w r)) (ne_eqb last 0 (λ z. omega arith))
    (and_left (eqb last 0 || ltb prev (id_in width w r)) (ascends width w r (id_in width w r) l) up)) in
    rw (ne_eqb (id_in width w r) x (λ z. omega arith))
    (asc_none width w x r (id_in width w r) (width * r) l h.1 (omega arith) h.2 (and_right (eqb last 0 || ltb prev (id_in width w r)) (ascends width w r (id_in width w r) l) up))

pub asc_twice : (width : ℕ) (w : ℕ → ℕ) (last prev p : ℕ) (l : List ℕ) → Links width w p l → ascends width w last prev l ≡ true → no_id_twice width w l ≡ true
unfolding no_id_twice
asc_twice width w last prev p [] h up = refl
asc_twice width w last prev p (r ∷ l) h up =
    let rest = and_right (eqb last 0 || ltb prev (id_in width w r)) (ascends width w r (id_in width w r) l) up in
    rw (asc_none width w (id_in width w r) r (id_in width w r) (width * r) l h.1 (omega arith) h.2 rest) (asc_twice width w r (id_in width w r) (width * r) l h.2 rest)

abbrev pub Below : ℕ → List ℕ → Type 0
Below n [] = Unit {0}
Below n (r ∷ l) = (r < n) × Below n l

record_true : (n r : ℕ) → 0 < r → r < n → is_record n r ≡ true
record_true n r h k = and_both (ltb 0 r) (ltb r n) (lt-ltb 0 r h) (lt-ltb r n k)

has_of : (width : ℕ) (w : ℕ → ℕ) (n x m p : ℕ) (l : List ℕ) → Links width w p l → Below n l → length l ≤ m → list_any (λ y. eqb y x) (ids_from width w n m (w p)) ≡ has_id width w x l
unfolding ids_from has_id
has_of width w n x zero p [] h below fits = refl
has_of width w n x zero p (r ∷ l) h below fits = absurd (not-suc-le-zero fits)
has_of width w n x (suc m) p [] h below fits = rw (h)
has_of width w n x (suc m) p (r ∷ l) h below fits =
    rw (h.0, record_true n r h.1 below.0, has_of width w n x m (width * r) l h.2 below.1 (omega arith))

pub twice_of : (width : ℕ) (w : ℕ → ℕ) (n m p : ℕ) (l : List ℕ) → Links width w p l → Below n l → length l ≤ m → holds_twice (ids_from width w n m (w p)) ≡ not (no_id_twice width w l)
unfolding ids_from holds_twice no_id_twice
twice_of width w n zero p [] h below fits = refl
twice_of width w n zero p (r ∷ l) h below fits = absurd (not-suc-le-zero fits)
twice_of width w n (suc m) p [] h below fits = rw (h)
twice_of width w n (suc m) p (r ∷ l) h below fits =
    rw (
      h.0,
      record_true n r h.1 below.0,
      has_of width w n (id_in width w r) m (width * r) l h.2 below.1 (omega arith),
      twice_of width w n m (width * r) l h.2 below.1 (omega arith),
    )
    (or_not (has_id width w (id_in width w r) l) (no_id_twice width w l))
  where
    or_not : (a b : Bool) → a || not b ≡ not (not a && b)
    or_not true b = refl
    or_not false b = refl

-- ---- what a record shows, and what the chain must
placed_inside : (width : ℕ) (w : ℕ → ℕ) (n k r : ℕ) → is_placed width w n k r ≡ true → (r < n) × (suits width w k r ≡ true)
unfolding is_placed
placed_inside width w n k r e = go (ltb r n) refl e
  where
    go : (b : Bool) → ltb r n ≡ b → cond b (suits width w k r) false ≡ true → (r < n) × (suits width w k r ≡ true)
    go true f g = (ltb-true r n f, g)
    go false f g = absurd (clash false g refl)

inside_placed : (width : ℕ) (w : ℕ → ℕ) (n k r : ℕ) → r < n → suits width w k r ≡ true → is_placed width w n k r ≡ true
unfolding is_placed
inside_placed width w n k r h e = rw (lt-ltb r n h) e

pub placed_below : (width : ℕ) (w : ℕ → ℕ) (n k : ℕ) (l : List ℕ) → Placed width w n k l → Below n l
placed_below width w n k [] h = tt
placed_below width w n k (r ∷ l) h = ((placed_inside width w n k r h.0).0, placed_below width w n k l h.1)

pub placed_chain : (width : ℕ) (w : ℕ → ℕ) (n k : ℕ) (l : List ℕ) → k < 16 → Placed width w n k l → (under_head width w k l ≡ true) × (are_states width w l ≡ true)
unfolding under_head are_states
placed_chain width w n k [] low h = (refl, refl)
placed_chain width w n k (r ∷ l) low h =
    let rest = placed_chain width w n k l low h.1 in
    let here : eqb (id_in width w r % 16) k && is_state width w r ≡ true = rw (ne_eqb k 16 (λ z. omega arith)) at (placed_inside width w n k r h.0).1 in (
      and_both (eqb (id_in width w r % 16) k) (under_head width w k l) (and_left (eqb (id_in width w r % 16) k) (is_state width w r) here) rest.0,
      and_both (is_state width w r) (are_states width w l) (and_right (eqb (id_in width w r % 16) k) (is_state width w r) here) rest.1,
    )

pub chain_placed : (width : ℕ) (w : ℕ → ℕ) (n k : ℕ) (l : List ℕ) → k < 16 → Below n l → under_head width w k l ≡ true → are_states width w l ≡ true → Placed width w n k l
unfolding under_head are_states
chain_placed width w n k [] low b h s = tt
chain_placed width w n k (r ∷ l) low b h s = (
  inside_placed width w n k r b.0
      (rw (ne_eqb k 16 (λ z. omega arith))
      (and_both (eqb (id_in width w r % 16) k) (is_state width w r) (and_left (eqb (id_in width w r % 16) k) (under_head width w k l) h) (and_left (is_state width w r) (are_states width w l) s))),
  chain_placed width w n k l low b.1 (and_right (eqb (id_in width w r % 16) k) (under_head width w k l) h) (and_right (is_state width w r) (are_states width w l) s),
)

pub free_placed : (width : ℕ) (w : ℕ → ℕ) (n : ℕ) (l : List ℕ) → Below n l → Placed width w n 16 l
free_placed width w n [] b = tt
free_placed width w n (r ∷ l) b = (inside_placed width w n 16 r b.0 refl, free_placed width w n l b.1)
