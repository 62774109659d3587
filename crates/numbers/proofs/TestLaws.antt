-- What a test tells of its parts, and a choice by a test of its arms. Assumes nothing.
use Rattle.std.proofs.Common.{◌≡◌, ℕ, Bool, true, false, cond, ◌&&◌, ◌||◌, eqb, sym, refl, ◌∙◌, true≢false, eq-eqb, eqb-true}
use mathlib.Core.Bool.{false≢true}

-- ---- "or"
pub or_left : (p q : Bool) → p ≡ true → (p || q) ≡ true
or_left true q h = refl
or_left false q h = absurd (false≢true h)

pub or_right : (p q : Bool) → q ≡ true → (p || q) ≡ true
or_right true q h = refl
or_right false q h = h

pub neither : (p q : Bool) → p ≡ false → q ≡ false → (p || q) ≡ false
neither true q h k = h
neither false q h k = k

pub not_left : (p q : Bool) → (p || q) ≡ false → p ≡ false
not_left true q h = h
not_left false q h = refl

pub not_right : (p q : Bool) → (p || q) ≡ false → q ≡ false
not_right true q h = absurd (true≢false h)
not_right false q h = h

pub or_false : (p : Bool) → (p || false) ≡ p
or_false true = refl
or_false false = refl

-- ---- "and"
pub and_true : (p : Bool) → (p && true) ≡ p
and_true true = refl
and_true false = refl

pub and_both : (p q : Bool) → p ≡ true → q ≡ true → (p && q) ≡ true
and_both true q h k = k
and_both false q h k = h

pub and_left : (p q : Bool) → (p && q) ≡ true → p ≡ true
and_left true q h = refl
and_left false q h = h

pub and_right : (p q : Bool) → (p && q) ≡ true → q ≡ true
and_right true q h = h
and_right false q h = absurd (false≢true h)

pub fails_left : (p q : Bool) → p ≡ false → (p && q) ≡ false
fails_left true q h = absurd (true≢false h)
fails_left false q h = refl

pub fails_right : (p q : Bool) → q ≡ false → (p && q) ≡ false
fails_right true q h = h
fails_right false q h = refl

-- ---- one test that leads to another, turned round
pub turned_true : (p q : Bool) → (q ≡ false → p ≡ false) → p ≡ true → q ≡ true
turned_true p true leads h = refl
turned_true p false leads h = absurd (true≢false (sym h ∙ leads refl))

pub turned_false : (p q : Bool) → (p ≡ true → q ≡ true) → q ≡ false → p ≡ false
turned_false true q leads h = absurd (true≢false (sym (leads refl) ∙ h))
turned_false false q leads h = refl

-- ---- a choice

-- what holds of each arm, where it is taken, holds of the choice
pub chosen : {A : Type 0} (P : A → Type 0) (t : Bool) (x y : A) → (t ≡ true → P x) → (t ≡ false → P y) → P (cond t x y)
chosen P true x y p q = p refl
chosen P false x y p q = q refl

pub either : {A : Type 0} (P : A → Type 0) (t : Bool) (x y : A) → P x → P y → P (cond t x y)
either P t x y p q = chosen P t x y (λ h. p) (λ h. q)

-- the arm that a test takes
pub taken : {A : Type 0} (P : A → Type 0) (t : Bool) (x y : A) → t ≡ true → P x → P (cond t x y)
taken P t x y h p = chosen P t x y (λ k. p) (λ k. absurd (true≢false (sym h ∙ k)))

pub left : {A : Type 0} (P : A → Type 0) (t : Bool) (x y : A) → t ≡ false → P y → P (cond t x y)
left P t x y h q = chosen P t x y (λ k. absurd (true≢false (sym k ∙ h))) (λ k. q)

-- ---- a number k, or where it is 0 a number n
pub both_zero : (k n : ℕ) (t : Bool) → eqb k 0 ≡ t → cond t n k ≡ 0 → (k ≡ 0) × (n ≡ 0)
both_zero k n true e h = (eqb-true k 0 e, h)
both_zero k n false e h = absurd (true≢false (sym (eq-eqb k 0 h) ∙ e))
