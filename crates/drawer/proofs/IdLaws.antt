-- The tests of a chain's ids, heads and states: where the records' words stay, where a record is put in, and where one is taken out.
use mathlib.Core.Path.{◌≡◌, refl, sym, ap, ◌∙◌}
use mathlib.Core.Bool.{Bool, true, false, not, ◌&&◌}
use mathlib.Core.List.{List, [], ◌∷◌, ◌++◌}
use Prim.Native.Nat.{ℕ, ◌+◌, ◌*◌, ◌/◌, ◌%◌, ◌<◌}
use native.Mathlib.Omega.{arith}
use lib.Dec.{eqb}
use borrow.Author.Tests.{eq-eqb, ne_eqb, eqb-false}
use Rattle.numbers.proofs.TestLaws.{and_left, and_right, and_both, neither, not_left, not_right}
use Rattle.drawer.specs.Chains.{times}
use Rattle.drawer.specs.Drawer.{id_in, has_id, no_id_twice, under_head, is_state, are_states, is_chain}
use Rattle.records.proofs.TidiedLaws.{damaged_same}
use Rattle.drawer.proofs.TestLaws.{clash}
use Rattle.drawer.proofs.TimesLaws.{times_here, times_more}

-- ---- the words of a record
pub id_same : (width : ℕ) (w v : ℕ → ℕ) (r : ℕ) → v (width * r + 1) ≡ w (width * r + 1) → v (width * r + 2) ≡ w (width * r + 2) → id_in width v r ≡ id_in width w r
unfolding id_in
id_same width w v r a b = rw (a, b)

pub id_is : (width : ℕ) (v : ℕ → ℕ) (r x : ℕ) → v (width * r + 1) ≡ x % 4294967296 → v (width * r + 2) ≡ x / 4294967296 → id_in width v r ≡ x
unfolding id_in
id_is width v r x a b = rw (a, b) (omega arith)

pub state_same : (width : ℕ) (w v : ℕ → ℕ) (r q : ℕ) → ((i : ℕ) → i < 39 → v (width * q + 3 + i) ≡ w (width * r + 3 + i)) → is_state width v q ≡ is_state width w r
unfolding is_state
state_same width w v r q same = ap not (damaged_same w v (width * r + 3) (width * q + 3) same)

-- ---- a list whose records keep their ids and states
module _ (width : ℕ) (w v : ℕ → ℕ) where
  pub has_same : (x : ℕ) (l : List ℕ) → ((r : ℕ) → 0 < times r l → id_in width v r ≡ id_in width w r) → has_id width v x l ≡ has_id width w x l
  unfolding has_id
  has_same x [] same = refl
  has_same x (r ∷ l) same = rw (same r (times_here r l), has_same x l (λ i h. same i (omega (arith, times_more i r l))))

  twice_same : (l : List ℕ) → ((r : ℕ) → 0 < times r l → id_in width v r ≡ id_in width w r) → no_id_twice width v l ≡ no_id_twice width w l
  unfolding no_id_twice
  twice_same [] same = refl
  twice_same (r ∷ l) same =
      rw (same r (times_here r l), has_same (id_in width w r) l (λ i h. same i (omega (arith, times_more i r l))), twice_same l (λ i h. same i (omega (arith, times_more i r l))))

  head_same : (k : ℕ) (l : List ℕ) → ((r : ℕ) → 0 < times r l → id_in width v r ≡ id_in width w r) → under_head width v k l ≡ under_head width w k l
  unfolding under_head
  head_same k [] same = refl
  head_same k (r ∷ l) same = rw (same r (times_here r l), head_same k l (λ i h. same i (omega (arith, times_more i r l))))

  states_same : (l : List ℕ) → ((r : ℕ) → 0 < times r l → is_state width v r ≡ is_state width w r) → are_states width v l ≡ are_states width w l
  unfolding are_states
  states_same [] same = refl
  states_same (r ∷ l) same = rw (same r (times_here r l), states_same l (λ i h. same i (omega (arith, times_more i r l))))

  pub chain_same : (k : ℕ) (l : List ℕ) → ((r : ℕ) → 0 < times r l → id_in width v r ≡ id_in width w r)
      → ((r : ℕ) → 0 < times r l → is_state width v r ≡ is_state width w r) → is_chain width v k l ≡ is_chain width w k l
  chain_same k l ids states = rw (head_same k l ids, twice_same l ids, states_same l states)

-- ---- a record put in, and taken out
not_of : (b : Bool) → b ≡ false → not b ≡ true
not_of b e = rw (e)

pub of_not : (b : Bool) → not b ≡ true → b ≡ false
of_not true e = absurd (clash false e refl)
of_not false e = refl

has_insert : (width : ℕ) (w : ℕ → ℕ) (x f : ℕ) (a b : List ℕ) → (id_in width w f ≡ x → ⊥) → has_id width w x (a ++ b) ≡ false → has_id width w x (a ++ (f ∷ b)) ≡ false
unfolding has_id
has_insert width w x f [] b off e = neither (eqb (id_in width w f) x) (has_id width w x b) (ne_eqb (id_in width w f) x off) e
has_insert width w x f (r ∷ a) b off e =
    neither (eqb (id_in width w r) x) (has_id width w x (a ++ (f ∷ b))) (not_left (eqb (id_in width w r) x) (has_id width w x (a ++ b)) e) (has_insert width w x f a b off (not_right (eqb (id_in width w r) x) (has_id width w x (a ++ b)) e))

has_remove : (width : ℕ) (w : ℕ → ℕ) (x f : ℕ) (a b : List ℕ) → has_id width w x (a ++ (f ∷ b)) ≡ false → (has_id width w x (a ++ b) ≡ false) × (id_in width w f ≡ x → ⊥)
unfolding has_id
has_remove width w x f [] b e = (not_right (eqb (id_in width w f) x) (has_id width w x b) e, eqb-false (id_in width w f) x (not_left (eqb (id_in width w f) x) (has_id width w x b) e))
has_remove width w x f (r ∷ a) b e =
    let rest = has_remove width w x f a b (not_right (eqb (id_in width w r) x) (has_id width w x (a ++ (f ∷ b))) e) in
    (neither (eqb (id_in width w r) x) (has_id width w x (a ++ b)) (not_left (eqb (id_in width w r) x) (has_id width w x (a ++ (f ∷ b))) e) rest.0, rest.1)

twice_insert : (width : ℕ) (w : ℕ → ℕ) (f : ℕ) (a b : List ℕ) → has_id width w (id_in width w f) (a ++ b) ≡ false → no_id_twice width w (a ++ b) ≡ true → no_id_twice width w (a ++ (f ∷ b)) ≡ true
unfolding no_id_twice has_id
twice_insert width w f [] b e t = and_both (not (has_id width w (id_in width w f) b)) (no_id_twice width w b) (not_of (has_id width w (id_in width w f) b) e) t
twice_insert width w f (r ∷ a) b e t =
    and_both (not (has_id width w (id_in width w r) (a ++ (f ∷ b)))) (no_id_twice width w (a ++ (f ∷ b)))
    (not_of (has_id width w (id_in width w r) (a ++ (f ∷ b)))
    (has_insert width w (id_in width w r) f a b (λ z. eqb-false (id_in width w r) (id_in width w f) (not_left (eqb (id_in width w r) (id_in width w f)) (has_id width w (id_in width w f) (a ++ b)) e) (sym z))
    (of_not (has_id width w (id_in width w r) (a ++ b)) (and_left (not (has_id width w (id_in width w r) (a ++ b))) (no_id_twice width w (a ++ b)) t))))
    (twice_insert width w f a b (not_right (eqb (id_in width w r) (id_in width w f)) (has_id width w (id_in width w f) (a ++ b)) e) (and_right (not (has_id width w (id_in width w r) (a ++ b))) (no_id_twice width w (a ++ b)) t))

-- besides: the id that was taken out stands no more
pub twice_remove : (width : ℕ) (w : ℕ → ℕ) (f : ℕ) (a b : List ℕ) → no_id_twice width w (a ++ (f ∷ b)) ≡ true → (no_id_twice width w (a ++ b) ≡ true) × (has_id width w (id_in width w f) (a ++ b) ≡ false)
unfolding no_id_twice has_id
twice_remove width w f [] b t =
    (and_right (not (has_id width w (id_in width w f) b)) (no_id_twice width w b) t, of_not (has_id width w (id_in width w f) b) (and_left (not (has_id width w (id_in width w f) b)) (no_id_twice width w b) t))
twice_remove width w f (r ∷ a) b t =
    let rest = twice_remove width w f a b (and_right (not (has_id width w (id_in width w r) (a ++ (f ∷ b)))) (no_id_twice width w (a ++ (f ∷ b))) t) in
    let gone = has_remove width w (id_in width w r) f a b (of_not (has_id width w (id_in width w r) (a ++ (f ∷ b))) (and_left (not (has_id width w (id_in width w r) (a ++ (f ∷ b)))) (no_id_twice width w (a ++ (f ∷ b))) t)) in (
      and_both (not (has_id width w (id_in width w r) (a ++ b))) (no_id_twice width w (a ++ b)) (not_of (has_id width w (id_in width w r) (a ++ b)) gone.0) rest.0,
      neither (eqb (id_in width w r) (id_in width w f)) (has_id width w (id_in width w f) (a ++ b)) (ne_eqb (id_in width w r) (id_in width w f) (λ z. gone.1 (sym z))) rest.1,
    )

head_insert : (width : ℕ) (w : ℕ → ℕ) (k f : ℕ) (a b : List ℕ) → id_in width w f % 16 ≡ k → under_head width w k (a ++ b) ≡ true → under_head width w k (a ++ (f ∷ b)) ≡ true
unfolding under_head
head_insert width w k f [] b e t = and_both (eqb (id_in width w f % 16) k) (under_head width w k b) (eq-eqb (id_in width w f % 16) k e) t
head_insert width w k f (r ∷ a) b e t =
    and_both (eqb (id_in width w r % 16) k) (under_head width w k (a ++ (f ∷ b))) (and_left (eqb (id_in width w r % 16) k) (under_head width w k (a ++ b)) t) (head_insert width w k f a b e (and_right (eqb (id_in width w r % 16) k) (under_head width w k (a ++ b)) t))

head_remove : (width : ℕ) (w : ℕ → ℕ) (k f : ℕ) (a b : List ℕ) → under_head width w k (a ++ (f ∷ b)) ≡ true → under_head width w k (a ++ b) ≡ true
unfolding under_head
head_remove width w k f [] b t = and_right (eqb (id_in width w f % 16) k) (under_head width w k b) t
head_remove width w k f (r ∷ a) b t =
    and_both (eqb (id_in width w r % 16) k) (under_head width w k (a ++ b)) (and_left (eqb (id_in width w r % 16) k) (under_head width w k (a ++ (f ∷ b))) t) (head_remove width w k f a b (and_right (eqb (id_in width w r % 16) k) (under_head width w k (a ++ (f ∷ b))) t))

states_insert : (width : ℕ) (w : ℕ → ℕ) (f : ℕ) (a b : List ℕ) → is_state width w f ≡ true → are_states width w (a ++ b) ≡ true → are_states width w (a ++ (f ∷ b)) ≡ true
unfolding are_states
states_insert width w f [] b e t = and_both (is_state width w f) (are_states width w b) e t
states_insert width w f (r ∷ a) b e t =
    and_both (is_state width w r) (are_states width w (a ++ (f ∷ b))) (and_left (is_state width w r) (are_states width w (a ++ b)) t) (states_insert width w f a b e (and_right (is_state width w r) (are_states width w (a ++ b)) t))

states_remove : (width : ℕ) (w : ℕ → ℕ) (f : ℕ) (a b : List ℕ) → are_states width w (a ++ (f ∷ b)) ≡ true → are_states width w (a ++ b) ≡ true
unfolding are_states
states_remove width w f [] b t = and_right (is_state width w f) (are_states width w b) t
states_remove width w f (r ∷ a) b t =
    and_both (is_state width w r) (are_states width w (a ++ b)) (and_left (is_state width w r) (are_states width w (a ++ (f ∷ b))) t) (states_remove width w f a b (and_right (is_state width w r) (are_states width w (a ++ (f ∷ b))) t))

-- the three tests of a chain
pub record Right (width : ℕ) (w : ℕ → ℕ) (k : ℕ) (l : List ℕ) : Type 0 where
  pub head : under_head width w k l ≡ true
  pub single : no_id_twice width w l ≡ true
  pub states : are_states width w l ≡ true

pub right_of : (width : ℕ) (w : ℕ → ℕ) (k : ℕ) (l : List ℕ) → is_chain width w k l ≡ true → Right width w k l
right_of width w k l e =
    let first = and_left (under_head width w k l && no_id_twice width w l) (are_states width w l) e in
    record { head = and_left (under_head width w k l) (no_id_twice width w l) first; single = and_right (under_head width w k l) (no_id_twice width w l) first; states = and_right (under_head width w k l && no_id_twice width w l) (are_states width w l) e }

pub of_right : (width : ℕ) (w : ℕ → ℕ) (k : ℕ) (l : List ℕ) → Right width w k l → is_chain width w k l ≡ true
of_right width w k l r = and_both (under_head width w k l && no_id_twice width w l) (are_states width w l) (and_both (under_head width w k l) (no_id_twice width w l) r.head r.single) r.states

pub chain_insert : (width : ℕ) (w : ℕ → ℕ) (k f : ℕ) (a b : List ℕ) → is_chain width w k (a ++ b) ≡ true → id_in width w f % 16 ≡ k → has_id width w (id_in width w f) (a ++ b) ≡ false
    → is_state width w f ≡ true → is_chain width w k (a ++ (f ∷ b)) ≡ true
chain_insert width w k f a b t e off s =
    let r = right_of width w k (a ++ b) t in
    of_right width w k (a ++ (f ∷ b)) (record { head = head_insert width w k f a b e r.head; single = twice_insert width w f a b off r.single; states = states_insert width w f a b s r.states })

pub chain_remove : (width : ℕ) (w : ℕ → ℕ) (k f : ℕ) (a b : List ℕ) → is_chain width w k (a ++ (f ∷ b)) ≡ true → is_chain width w k (a ++ b) ≡ true
chain_remove width w k f a b t =
    let r = right_of width w k (a ++ (f ∷ b)) t in
    of_right width w k (a ++ b) (record { head = head_remove width w k f a b r.head; single = (twice_remove width w f a b r.single).0; states = states_remove width w f a b r.states })

pub right_ids : (width : ℕ) (w v : ℕ → ℕ) (k : ℕ) (l : List ℕ) → ((r : ℕ) → 0 < times r l → id_in width v r ≡ id_in width w r) → Right width w k l → (under_head width v k l ≡ true) × (no_id_twice width v l ≡ true)
right_ids width w v k l ids r = (head_same width w v k l ids ∙ r.head, twice_same width w v l ids ∙ r.single)
