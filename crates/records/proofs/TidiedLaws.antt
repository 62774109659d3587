-- What tidying keeps of a record. Assumes nothing.
use mathlib.Core.Path.{◌≡◌, refl, sym, ap, ◌∙◌}
use mathlib.Core.Bool.{Bool, true, false, cond}
use mathlib.Core.List.{List, [], ◌∷◌, ◌++◌}
use Prim.Native.Nat.{ℕ, zero, suc, ◌+◌, ◌<◌}
use native.Mathlib.Nat.{add-zero, zero-add, add_assoc}
use native.Mathlib.Omega.{arith}
use lib.Dec.{eqb, eqb-suc-zero, lit<}
use lib.ListN.{length, get_or, replicate}
use lib.Seq.{ext_get_or}
use Rattle.records.specs.Record.{is_damaged}
use Rattle.records.specs.Tidied.{words_from, words_unless, option_words, tidied}
use Rattle.records.proofs.PartLaws.{words_of, total_is}
use Rattle.records.proofs.ReadLaws.{start, part_at, part_word}
use Rattle.records.proofs.ClearedLaws.{from_length, from_get, unless_length, unless_get, tidied_parts, tidied_right, tidied_parts_lem}

pub tidied_length : (w : ℕ → ℕ) (at : ℕ) → length (tidied w at) ≡ 39
tidied_length w at = ap length (sym (tidied_parts_lem w at)) ∙ total_is (tidied_parts w at) (tidied_right w at)

-- ---- each word is below 2 ^ 32 where those of the buffer are
abbrev Small : List ℕ → Type 0
Small l = (i : ℕ) → get_or l i 0 < 4294967296

small_append : (l k : List ℕ) → Small l → Small k → Small (l ++ k)
small_append [] k a b i = b i
small_append (x ∷ l) k a b zero = a 0
small_append (x ∷ l) k a b (suc i) = small_append l k (λ j. a (suc j)) b i

small_zeros : (m : ℕ) → Small (replicate m 0)
small_zeros zero i = lit< tt
small_zeros (suc m) zero = lit< tt
small_zeros (suc m) (suc i) = small_zeros m i

module _ (w : ℕ → ℕ) (fits : (j : ℕ) → w j < 4294967296) where
  small_from : (i m : ℕ) → Small (words_from w i m)
  unfolding words_from
  small_from i zero k = lit< tt
  small_from i (suc m) zero = fits i
  small_from i (suc m) (suc k) = small_from (i + 1) m k

  small_unless : (absent : Bool) (i m : ℕ) → Small (words_unless absent w i m)
  small_unless true i m = small_zeros m
  small_unless false i m = small_from i m

  small_tidied : (at : ℕ) → Small (tidied w at)
  unfolding tidied
  small_tidied at =
      let plain : (i m : ℕ) (l : List ℕ) → Small l → Small (words_from w i m ++ l) = λ i m l. small_append (words_from w i m) l (small_from i m) in
      let option : (i m : ℕ) (l : List ℕ) → Small l → Small (option_words w i m ++ l) =
      λ i m l. small_append (option_words w i m) l (small_unless (eqb (w i) 0) i m) in
      plain at 4 _
      (option (at + 4) 6 _
      (option (at + 10) 6 _
      (plain (at + 16) 8 _
      (option (at + 24) 2 _
      (option (at + 26) 2 _ (plain (at + 28) 2 _ (option (at + 30) 5 _ (small_from (at + 35) 4))))))))

pub tidied_word : (w : ℕ → ℕ) (at i : ℕ) → ((j : ℕ) → w j < 4294967296) → get_or (tidied w at) i 0 < 4294967296
tidied_word w at i fits = small_tidied w fits at i

-- ---- of the same words it makes the same
-- Same v w k i m: from word k on v has the m words that w has from word i on
abbrev pub Same : (ℕ → ℕ) → (ℕ → ℕ) → ℕ → ℕ → ℕ → Type 0
Same v w k i m = (j : ℕ) → j < m → v (k + j) ≡ w (i + j)

pub same_from : (v w : ℕ → ℕ) (k i m : ℕ) → Same v w k i m → words_from v k m ≡ words_from w i m
same_from v w k i m same =
    ext_get_or 0 (words_from v k m) (words_from w i m) (from_length v k m ∙ sym (from_length w i m)) (λ j below.
    let inside : j < m = omega (arith, below, from_length v k m) in
    from_get v k m j inside ∙ same j inside ∙ sym (from_get w i m j inside))

-- the first of them
first : (v w : ℕ → ℕ) (k i m : ℕ) → 0 < m → Same v w k i m → v k ≡ w i
first v w k i m some same = ap v (sym (add-zero k)) ∙ same 0 some ∙ ap w (add-zero i)

pub same_option : (v w : ℕ → ℕ) (k i m : ℕ) → 0 < m → Same v w k i m → option_words v k m ≡ option_words w i m
same_option v w k i m some same =
    ap (λ (x : ℕ). words_unless (eqb x 0) v k m) (first v w k i m some same)
    ∙ ap (λ (l : List ℕ). cond (eqb (w i) 0) (replicate m 0) l) (same_from v w k i m same)

-- the part of it from word p on
within : (v w : ℕ → ℕ) (to at p m : ℕ) → p + m < 40 → ((i : ℕ) → i < 39 → v (to + i) ≡ w (at + i)) → Same v w (to + p) (at + p) m
within v w to at p m inside same j below = ap v (add_assoc to p j) ∙ same (p + j) (omega (arith, inside, below)) ∙ ap w (sym (add_assoc at p j))

-- the nine parts the same
joined : (w v : ℕ → ℕ) (at to : ℕ)
    → words_from v to 4 ≡ words_from w at 4
    → option_words v (to + 4) 6 ≡ option_words w (at + 4) 6
    → option_words v (to + 10) 6 ≡ option_words w (at + 10) 6
    → words_from v (to + 16) 8 ≡ words_from w (at + 16) 8
    → option_words v (to + 24) 2 ≡ option_words w (at + 24) 2
    → option_words v (to + 26) 2 ≡ option_words w (at + 26) 2
    → words_from v (to + 28) 2 ≡ words_from w (at + 28) 2
    → option_words v (to + 30) 5 ≡ option_words w (at + 30) 5
    → words_from v (to + 35) 4 ≡ words_from w (at + 35) 4
    → tidied v to ≡ tidied w at
unfolding tidied
joined w v at to a b c d e f g h k = rw (a, b, c, d, e, f, g, h, k)

pub tidied_same : (w v : ℕ → ℕ) (at to : ℕ) → ((i : ℕ) → i < 39 → v (to + i) ≡ w (at + i)) → tidied v to ≡ tidied w at
tidied_same w v at to same =
    let plain : (p m : ℕ) → p + m < 40 → words_from v (to + p) m ≡ words_from w (at + p) m =
    λ p m inside. same_from v w (to + p) (at + p) m (within v w to at p m inside same) in
    let option : (p m : ℕ) → p + m < 40 → 0 < m → option_words v (to + p) m ≡ option_words w (at + p) m =
    λ p m inside some. same_option v w (to + p) (at + p) m some (within v w to at p m inside same) in
    joined w v at to
    (same_from v w to at 4 (λ j below. same j (omega (arith, below))))
    (option 4 6 (lit< tt) (lit< tt))
    (option 10 6 (lit< tt) (lit< tt))
    (plain 16 8 (lit< tt))
    (option 24 2 (lit< tt) (lit< tt))
    (option 26 2 (lit< tt) (lit< tt))
    (plain 28 2 (lit< tt))
    (option 30 5 (lit< tt) (lit< tt))
    (plain 35 4 (lit< tt))

-- ---- the flags
pub flags_same : (w v : ℕ → ℕ) (at to : ℕ)
    → v (to + 4) ≡ w (at + 4) → v (to + 10) ≡ w (at + 10)
    → v (to + 16) ≡ w (at + 16) → v (to + 17) ≡ w (at + 17) → v (to + 18) ≡ w (at + 18) → v (to + 19) ≡ w (at + 19) → v (to + 20) ≡ w (at + 20)
    → v (to + 21) ≡ w (at + 21) → v (to + 24) ≡ w (at + 24) → v (to + 26) ≡ w (at + 26) → v (to + 28) ≡ w (at + 28) → v (to + 29) ≡ w (at + 29)
    → v (to + 30) ≡ w (at + 30) → v (to + 35) ≡ w (at + 35) → v (to + 36) ≡ w (at + 36) → is_damaged v to ≡ is_damaged w at
unfolding is_damaged
flags_same w v at to a b c d e f g h i j k l m n o = rw (a, b, c, d, e, f, g, h, i, j, k, l, m, n, o)

pub damaged_same : (w v : ℕ → ℕ) (at to : ℕ) → ((i : ℕ) → i < 39 → v (to + i) ≡ w (at + i)) → is_damaged v to ≡ is_damaged w at
damaged_same w v at to same =
    flags_same w v at to
    (same 4 (lit< tt)) (same 10 (lit< tt))
    (same 16 (lit< tt)) (same 17 (lit< tt)) (same 18 (lit< tt)) (same 19 (lit< tt)) (same 20 (lit< tt)) (same 21 (lit< tt))
    (same 24 (lit< tt)) (same 26 (lit< tt)) (same 28 (lit< tt)) (same 29 (lit< tt)) (same 30 (lit< tt)) (same 35 (lit< tt)) (same 36 (lit< tt))

-- ---- a tidied record, wherever it was put
kept_flag : (x : ℕ) → cond (eqb x 0) 0 x ≡ x
kept_flag zero = refl
kept_flag (suc x) = ap (λ (b : Bool). cond b 0 (suc x)) (eqb-suc-zero x)

tidy_option : (v w : ℕ → ℕ) (k i m : ℕ) → 0 < m → ((j : ℕ) → j < m → v (k + j) ≡ cond (eqb (w i) 0) 0 (w (i + j)))
    → option_words v k m ≡ option_words w i m
tidy_option v w k i m some tidy = go (eqb (w i) 0) refl
  where
    flag : v k ≡ w i
    flag = ap v (sym (add-zero k)) ∙ tidy 0 some ∙ ap (λ (n : ℕ). cond (eqb (w i) 0) 0 (w n)) (add-zero i) ∙ kept_flag (w i)

    go : (absent : Bool) → eqb (w i) 0 ≡ absent → option_words v k m ≡ option_words w i m
    go true is =
        ap (λ (b : Bool). words_unless b v k m) (ap (λ (x : ℕ). eqb x 0) flag ∙ is)
        ∙ sym (ap (λ (b : Bool). words_unless b w i m) is)
    go false is = same_option v w k i m some (λ j below. tidy j below ∙ ap (λ (b : Bool). cond b 0 (w (i + j))) is)

module _ (w v : ℕ → ℕ) (at to : ℕ) (tidy : (i : ℕ) → i < 39 → v (to + i) ≡ get_or (tidied w at) i 0) where
  -- word k, which is word j of part n
  word_of : (absent : Bool) (n i m j k : ℕ) → part_at (tidied_parts w at) n ≡ words_unless absent w i m → start (tidied_parts w at) n + j ≡ k → j < m → k < 39
      → v (to + k) ≡ cond absent 0 (w (i + j))
  word_of absent n i m j k part here below inside =
      let parts = tidied_parts w at in
      tidy k inside
      ∙ ap (λ (l : List ℕ). get_or l k 0) (sym (tidied_parts_lem w at))
      ∙ ap (λ (p : ℕ). get_or (words_of parts) p 0) (sym here)
      ∙ part_word parts n j (tidied_right w at) (omega (arith, below, ap length part ∙ unless_length absent w i m))
      ∙ ap (λ (l : List ℕ). get_or l j 0) part
      ∙ unless_get absent w i m j below

  -- the flag of the option at word p, which is part n
  option_flag : (n p m : ℕ) → part_at (tidied_parts w at) n ≡ option_words w (at + p) m → start (tidied_parts w at) n + 0 ≡ p → 0 < m → p < 39
      → v (to + p) ≡ w (at + p)
  option_flag n p m part here some inside =
      word_of (eqb (w (at + p)) 0) n (at + p) m 0 p part here some inside
      ∙ ap (λ (i : ℕ). cond (eqb (w (at + p)) 0) 0 (w i)) (add-zero (at + p))
      ∙ kept_flag (w (at + p))

  -- word j of the plain part n, which begins at word p
  plain_flag : (n p m j k : ℕ) → part_at (tidied_parts w at) n ≡ words_from w (at + p) m → start (tidied_parts w at) n + j ≡ k → j < m → p + j ≡ k → k < 39
      → v (to + k) ≡ w (at + k)
  plain_flag n p m j k part here below is inside =
      word_of false n (at + p) m j k part here below inside ∙ ap w (add_assoc at p j ∙ ap (λ (q : ℕ). at + q) is)

  tidied_keeps_flags : is_damaged v to ≡ is_damaged w at
  tidied_keeps_flags =
      flags_same w v at to
      (option_flag 1 4 6 refl refl (lit< tt) (lit< tt))
      (option_flag 2 10 6 refl refl (lit< tt) (lit< tt))
      (plain_flag 3 16 8 0 16 refl refl (lit< tt) refl (lit< tt))
      (plain_flag 3 16 8 1 17 refl refl (lit< tt) refl (lit< tt))
      (plain_flag 3 16 8 2 18 refl refl (lit< tt) refl (lit< tt))
      (plain_flag 3 16 8 3 19 refl refl (lit< tt) refl (lit< tt))
      (plain_flag 3 16 8 4 20 refl refl (lit< tt) refl (lit< tt))
      (plain_flag 3 16 8 5 21 refl refl (lit< tt) refl (lit< tt))
      (option_flag 4 24 2 refl refl (lit< tt) (lit< tt))
      (option_flag 5 26 2 refl refl (lit< tt) (lit< tt))
      (plain_flag 6 28 2 0 28 refl refl (lit< tt) refl (lit< tt))
      (plain_flag 6 28 2 1 29 refl refl (lit< tt) refl (lit< tt))
      (option_flag 7 30 5 refl refl (lit< tt) (lit< tt))
      (plain_flag 8 35 4 0 35 refl refl (lit< tt) refl (lit< tt))
      (plain_flag 8 35 4 1 36 refl refl (lit< tt) refl (lit< tt))

  -- the words of part n, which begins at word p
  pub part_words : (absent : Bool) (n p i m : ℕ) → part_at (tidied_parts w at) n ≡ words_unless absent w i m → start (tidied_parts w at) n ≡ p → p + m < 40
      → (j : ℕ) → j < m → v (to + p + j) ≡ cond absent 0 (w (i + j))
  part_words absent n p i m part here inside j below =
      ap v (add_assoc to p j) ∙ word_of absent n i m j (p + j) part (ap (λ (q : ℕ). q + j) here) below (omega (arith, inside, below))

  plain_again : (n p m : ℕ) → part_at (tidied_parts w at) n ≡ words_from w (at + p) m → start (tidied_parts w at) n ≡ p → p + m < 40
      → words_from v (to + p) m ≡ words_from w (at + p) m
  plain_again n p m part here inside = same_from v w (to + p) (at + p) m (part_words false n p (at + p) m part here inside)

  option_again : (n p m : ℕ) → part_at (tidied_parts w at) n ≡ option_words w (at + p) m → start (tidied_parts w at) n ≡ p → 0 < m → p + m < 40
      → option_words v (to + p) m ≡ option_words w (at + p) m
  option_again n p m part here some inside =
      tidy_option v w (to + p) (at + p) m some (part_words (eqb (w (at + p)) 0) n p (at + p) m part here inside)

  tidied_again : tidied v to ≡ tidied w at
  tidied_again =
      joined w v at to
      (same_from v w to at 4 (λ j below. word_of false 0 at 4 j j refl (zero-add j) below (omega (arith, below))))
      (option_again 1 4 6 refl refl (lit< tt) (lit< tt))
      (option_again 2 10 6 refl refl (lit< tt) (lit< tt))
      (plain_again 3 16 8 refl refl (lit< tt))
      (option_again 4 24 2 refl refl (lit< tt) (lit< tt))
      (option_again 5 26 2 refl refl (lit< tt) (lit< tt))
      (plain_again 6 28 2 refl refl (lit< tt))
      (option_again 7 30 5 refl refl (lit< tt) (lit< tt))
      (plain_again 8 35 4 refl refl (lit< tt))

pub tidied_damaged : (w v : ℕ → ℕ) (at to : ℕ) → ((i : ℕ) → i < 39 → v (to + i) ≡ get_or (tidied w at) i 0) → is_damaged v to ≡ is_damaged w at
tidied_damaged = tidied_keeps_flags

pub tidied_twice : (w v : ℕ → ℕ) (at to : ℕ) → ((i : ℕ) → i < 39 → v (to + i) ≡ get_or (tidied w at) i 0) → tidied v to ≡ tidied w at
tidied_twice = tidied_again
