-- The line grows by a digit a word. Assumes nothing.
use mathlib.Core.Path.{◌≡◌, refl, sym, ap, ◌∙◌}
use mathlib.Core.Bool.{Bool, true, false, cond, not}
use mathlib.Core.List.{List, ◌∷◌, ◌++◌}
use Prim.Native.Nat.{ℕ, zero, suc, ◌+◌, ◌-◌, ◌<◌, ◌%◌}
use native.Mathlib.Nat.{add-zero, zero-add, add-suc, suc-add, mod-eq_of_lt}
use native.Mathlib.Omega.{arith}
use lib.Dec.{eqb}
use lib.ListN.{length, set, replicate}
use Rattle.area.specs.Checks.{any_shows, lowest_where}
use Rattle.area.specs.Sweep.{Swept, lowest_of, words_up_to, swept_of}
use Rattle.sweep.specs.Line.{digit_after, digits_from}

-- ---- one digit
lowest_small : (a b c d : Bool) → lowest_where a b c d < 8
lowest_small true b c d = omega arith
lowest_small false true c d = omega arith
lowest_small false false true d = omega arith
lowest_small false false false true = omega arith
lowest_small false false false false = omega arith

kept_small : (s : List ℕ) (n : ℕ) → (swept_of s n).kept < 8
unfolding swept_of lowest_of
kept_small s n = go (not (eqb (length s) 416))
  where
    m : ℕ
    m = words_up_to n

    go : (b : Bool) → (cond {A = Swept} b (record { count = 0; kept = 1 }) (record { count = m; kept = lowest_of s m })).kept < 8
    go true = omega arith
    go false = lowest_small (any_shows 2 s m) (any_shows 3 s m) (any_shows 4 s m) (any_shows 5 s m)

pub digit_is : (s : List ℕ) (n : ℕ) → 48 + (swept_of s n).kept % 8 ≡ digit_after s n
unfolding digit_after
digit_is s n = ap (λ (k : ℕ). 48 + k) (mod-eq_of_lt (kept_small s n))

-- ---- one digit more

-- the byte after the digits is the next to be written
set_next : (s : List ℕ) (m n x v : ℕ) (rest : List ℕ) → set (digits_from s m n ++ (x ∷ rest)) n v ≡ digits_from s m n ++ (v ∷ rest)
unfolding digits_from
set_next s m zero x v rest = refl
set_next s m (suc n) x v rest = ap (λ (l : List ℕ). digit_after s (suc m) ∷ l) (set_next s (suc m) n x v rest)

one_more : (s : List ℕ) (m n : ℕ) (rest : List ℕ) → digits_from s m n ++ (digit_after s (suc (m + n)) ∷ rest) ≡ digits_from s m (suc n) ++ rest
unfolding digits_from
one_more s m zero rest = rw add-zero
one_more s m (suc n) rest =
    ap (λ (l : List ℕ). digit_after s (suc m) ∷ l) (rw (add-suc, ← suc-add m n) (one_more s (suc m) n rest))

-- n digits, and line feeds up to 104 bytes
abbrev pub written : List ℕ → ℕ → List ℕ
written s n = digits_from s 0 n ++ replicate (104 - n) 10

pub turns : (s line : List ℕ) (n digit : ℕ) → n < 104 → digit ≡ digit_after s (n + 1) → line ≡ written s n → set line n digit ≡ written s (n + 1)
turns s line n digit l digit_is line-is =
    rw (line-is, digit_is, left, add_one)
    (set_next s 0 n 10 (digit_after s (suc n)) rest ∙ ap (λ (k : ℕ). digits_from s 0 n ++ (digit_after s (suc k) ∷ rest)) (sym (zero-add n)) ∙ one_more s 0 n rest ∙ rw right)
  where
    rest : List ℕ
    rest = replicate (103 - n) 10

    left : 104 - n ≡ suc (103 - n)
    left = omega (arith, l)

    right : 104 - suc n ≡ 103 - n
    right = omega (arith, l)

    add_one : n + 1 ≡ suc n
    add_one = omega arith
