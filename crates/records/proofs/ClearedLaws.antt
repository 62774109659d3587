-- The words of a record with its absent options cleared, part by part.
use mathlib.Core.Path.{◌≡◌, refl, sym, ap, ◌∙◌}
use mathlib.Core.Bool.{Bool, true, false, cond}
use mathlib.Core.List.{List, [], ◌∷◌, ◌++◌, append-nil}
use Prim.Native.Nat.{ℕ, zero, suc, ◌+◌, ◌<◌}
use native.Mathlib.Nat.{add-zero, zero-add, suc-add, not-suc-le-zero, le_of_suc-le-suc}
use native.Mathlib.Omega.{arith}
use lib.Dec.{eqb}
use lib.ListN.{length, take, drop, get_or, replicate, length-replicate, get_or-replicate}
use lib.Seq.{take_at, drop_at}
use borrow.Rule.Slice.PartMut.{put_mid}
use Rattle.records.specs.Tidied.{words_from, words_unless, option_words, tidied}
use Rattle.records.proofs.PartLaws.{Part, Right, words_of, words_append, total, total_is}

-- ---- m words from word i on, or as many zeros
pub from_length : (w : ℕ → ℕ) (i m : ℕ) → length (words_from w i m) ≡ m
unfolding words_from
from_length w i zero = refl
from_length w i (suc m) = ap suc (from_length w (i + 1) m)

pub from_get : (w : ℕ → ℕ) (i m j : ℕ) → j < m → get_or (words_from w i m) j 0 ≡ w (i + j)
unfolding words_from
from_get w i zero j below = absurd (not-suc-le-zero below)
from_get w i (suc m) zero below = ap w (sym (add-zero i))
from_get w i (suc m) (suc j) below = from_get w (i + 1) m j (le_of_suc-le-suc below) ∙ ap w (along i j)
  where
    along : (i j : ℕ) → i + 1 + j ≡ i + suc j
    along i j = omega arith

pub unless_length : (absent : Bool) (w : ℕ → ℕ) (i m : ℕ) → length (words_unless absent w i m) ≡ m
unless_length true w i m = length-replicate m 0
unless_length false w i m = from_length w i m

pub unless_get : (absent : Bool) (w : ℕ → ℕ) (i m j : ℕ) → j < m → get_or (words_unless absent w i m) j 0 ≡ cond absent 0 (w (i + j))
unless_get true w i m j below = get_or-replicate m j 0 0 below
unless_get false w i m j below = from_get w i m j below

pub from_split : (w : ℕ → ℕ) (i m n j : ℕ) → j ≡ i + m → words_from w i (m + n) ≡ words_from w i m ++ words_from w j n
unfolding words_from
from_split w i zero n j e = rw (zero-add, e, add-zero)
from_split w i (suc m) n j e = rw suc-add (ap (λ (l : List ℕ). w i ∷ l) (from_split w (i + 1) m n j (omega (arith, e))))

-- ---- a part that is an option, cleared in its place where it is absent: where its first word, the flag, is 0
abbrev pub cleared : List ℕ → List ℕ
cleared l = cond (eqb (get_or l 0 0) 0) (replicate (length l) 0) l

pub cleared_from : (w : ℕ → ℕ) (i m : ℕ) → 0 < m → cleared (words_from w i m) ≡ option_words w i m
unfolding words_from
cleared_from w i zero some = absurd (omega arith)
cleared_from w i (suc m) some = ap (λ (n : ℕ). cond (eqb (w i) 0) (replicate n 0) (w i ∷ words_from w (i + 1) m)) (ap suc (from_length w (i + 1) m))

pub clear : (front rest : List Part) (w : ℕ → ℕ) (i n : ℕ) {l o : List ℕ} → Right front → 0 < n → l ≡ words_of (front ++ ((n, words_from w i n) ∷ rest))
    → o ≡ cleared (take n (drop (total front) l)) → put_mid (total front) n l o ≡ words_of (front ++ ((n, option_words w i n) ∷ rest))
clear front rest w i n {l} {o} right some is left =
    let p = words_of front in
    let q = words_from w i n in
    let r = words_of rest in
    let here : length p ≡ total front = total_is front right in
    let long : length q ≡ n = from_length w i n in
    let split : l ≡ p ++ (q ++ r) = is ∙ words_append front ((n, q) ∷ rest) in
    let before : take (total front) l ≡ p = ap (take (total front)) split ∙ take_at p (q ++ r) (total front) here in
    let after : drop (total front) l ≡ q ++ r = ap (drop (total front)) split ∙ drop_at p (q ++ r) (total front) here in
    let behind : drop n (drop (total front) l) ≡ r = ap (drop n) after ∙ drop_at q r n long in
    let part : o ≡ option_words w i n = left ∙ ap (λ (m : List ℕ). cleared (take n m)) after ∙ ap cleared (take_at q r n long) ∙ cleared_from w i n some in
    rw (before, behind, part) (sym (words_append front ((n, option_words w i n) ∷ rest)))

-- ---- the parts of a tidied record
abbrev pub tidied_parts : (ℕ → ℕ) → ℕ → List Part
tidied_parts w at =
    (4, words_from w at 4)
    ∷ (6, option_words w (at + 4) 6)
    ∷ (6, option_words w (at + 10) 6)
    ∷ (8, words_from w (at + 16) 8)
    ∷ (2, option_words w (at + 24) 2)
    ∷ (2, option_words w (at + 26) 2)
    ∷ (2, words_from w (at + 28) 2)
    ∷ (5, option_words w (at + 30) 5)
    ∷ (4, words_from w (at + 35) 4)
    ∷ []

pub tidied_right : (w : ℕ → ℕ) (at : ℕ) → Right (tidied_parts w at)
tidied_right w at =
    let plain : (i m : ℕ) → length (words_from w i m) ≡ m = from_length w in
    let option : (i m : ℕ) → length (option_words w i m) ≡ m = λ i m. unless_length (eqb (w i) 0) w i m in (
      plain at 4,
      (
        option (at + 4) 6,
        (option (at + 10) 6, (plain (at + 16) 8, (option (at + 24) 2, (option (at + 26) 2, (plain (at + 28) 2, (option (at + 30) 5, (plain (at + 35) 4, tt))))))),
      ),
    )

pub tidied_parts_lem : (w : ℕ → ℕ) (at : ℕ) → words_of (tidied_parts w at) ≡ tidied w at
unfolding tidied words_from
tidied_parts_lem w at = refl

module _ (w : ℕ → ℕ) (at : ℕ) where
  -- a part that is read, and an option that is cleared where it is absent
  abbrev first : Part
  first = (4, words_from w at 4)

  abbrev read : ℕ → ℕ → Part
  read i m = (m, words_from w (at + i) m)

  abbrev option : ℕ → ℕ → Part
  option i m = (m, option_words w (at + i) m)

  long_read : (i m : ℕ) → length (words_from w (at + i) m) ≡ m
  long_read i m = from_length w (at + i) m

  long_option : (i m : ℕ) → length (option_words w (at + i) m) ≡ m
  long_option i m = unless_length (eqb (w (at + i)) 0) w (at + i) m

  read_parts : words_from w at 39 ≡ words_of (first ∷ read 4 6 ∷ read 10 6 ∷ read 16 8 ∷ read 24 2 ∷ read 26 2 ∷ read 28 2 ∷ read 30 5 ∷ read 35 4 ∷ [])
  read_parts = rw (
    from_split w at 4 35 (at + 4) refl,
    from_split w (at + 4) 6 29 (at + 10) (omega arith),
    from_split w (at + 10) 6 23 (at + 16) (omega arith),
    from_split w (at + 16) 8 15 (at + 24) (omega arith),
    from_split w (at + 24) 2 13 (at + 26) (omega arith),
    from_split w (at + 26) 2 11 (at + 28) (omega arith),
    from_split w (at + 28) 2 9 (at + 30) (omega arith),
    from_split w (at + 30) 5 4 (at + 35) (omega arith),
    append-nil,
  )

  -- the five options cleared, one after another
  pub tidied_clear : {l o₁ o₂ o₃ o₄ o₅ : List ℕ} → l ≡ words_from w at 39
      → o₁ ≡ cleared (take 6 (drop 4 l))
      → o₂ ≡ cleared (take 6 (drop 10 (put_mid 4 6 l o₁)))
      → o₃ ≡ cleared (take 2 (drop 24 (put_mid 10 6 (put_mid 4 6 l o₁) o₂)))
      → o₄ ≡ cleared (take 2 (drop 26 (put_mid 24 2 (put_mid 10 6 (put_mid 4 6 l o₁) o₂) o₃)))
      → o₅ ≡ cleared (take 5 (drop 30 (put_mid 26 2 (put_mid 24 2 (put_mid 10 6 (put_mid 4 6 l o₁) o₂) o₃) o₄)))
      → put_mid 30 5 (put_mid 26 2 (put_mid 24 2 (put_mid 10 6 (put_mid 4 6 l o₁) o₂) o₃) o₄) o₅ ≡ tidied w at
  tidied_clear all one two three four five =
      clear (first ∷ option 4 6 ∷ option 10 6 ∷ read 16 8 ∷ option 24 2 ∷ option 26 2 ∷ read 28 2 ∷ []) (read 35 4 ∷ []) w (at + 30) 5
      (from_length w at 4, (long_option 4 6, (long_option 10 6, (long_read 16 8, (long_option 24 2, (long_option 26 2, (long_read 28 2, tt))))))) (omega arith)
      (clear (first ∷ option 4 6 ∷ option 10 6 ∷ read 16 8 ∷ option 24 2 ∷ []) (read 28 2 ∷ read 30 5 ∷ read 35 4 ∷ []) w (at + 26) 2
      (from_length w at 4, (long_option 4 6, (long_option 10 6, (long_read 16 8, (long_option 24 2, tt))))) (omega arith)
      (clear (first ∷ option 4 6 ∷ option 10 6 ∷ read 16 8 ∷ []) (read 26 2 ∷ read 28 2 ∷ read 30 5 ∷ read 35 4 ∷ []) w (at + 24) 2
      (from_length w at 4, (long_option 4 6, (long_option 10 6, (long_read 16 8, tt)))) (omega arith)
      (clear (first ∷ option 4 6 ∷ []) (read 16 8 ∷ read 24 2 ∷ read 26 2 ∷ read 28 2 ∷ read 30 5 ∷ read 35 4 ∷ []) w (at + 10) 6
      (from_length w at 4, (long_option 4 6, tt)) (omega arith)
      (clear (first ∷ []) (read 10 6 ∷ read 16 8 ∷ read 24 2 ∷ read 26 2 ∷ read 28 2 ∷ read 30 5 ∷ read 35 4 ∷ []) w (at + 4) 6
      (from_length w at 4, tt) (omega arith) (all ∙ read_parts) one) two) three) four) five
      ∙ tidied_parts_lem w at
