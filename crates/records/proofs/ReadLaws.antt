-- Each part that words were put in is read back.
use mathlib.Core.Path.{◌≡◌, sym, ap, ◌∙◌, subst}
use mathlib.Core.List.{List, [], ◌∷◌, ◌++◌}
use Prim.Native.Nat.{ℕ, zero, suc, ◌+◌, ◌-◌, ◌<◌}
use native.Mathlib.Nat.{not-suc-le-zero, zero-add}
use native.Mathlib.Omega.{arith}
use lib.ListN.{length, get_or, get_or-append}
use lib.Seq.{get_or-append-add}
use Rattle.words.specs.Words.{word_at, bytes_of}
use Rattle.words.proofs.ReadLaws.{read_back}
use Rattle.area.specs.Frame.{word_no}
use Rattle.records.proofs.PartLaws.{Part, Right, words_of}

abbrev pub start : List Part → ℕ → ℕ
start qs zero = 0
start [] (suc i) = 0
start (q ∷ qs) (suc i) = q.0 + start qs i

abbrev pub part_at : List Part → ℕ → List ℕ
part_at [] i = []
part_at (q ∷ qs) zero = q.1
part_at (q ∷ qs) (suc i) = part_at qs i

pub part_word : (qs : List Part) (i j : ℕ) → Right qs → j < length (part_at qs i) → get_or (words_of qs) (start qs i + j) 0 ≡ get_or (part_at qs i) j 0
part_word [] i j right below = absurd (not-suc-le-zero below)
part_word (q ∷ qs) zero j right below = ap (λ (k : ℕ). get_or (q.1 ++ words_of qs) k 0) (zero-add j) ∙ get_or-append q.1 (words_of qs) 0 j below
part_word (q ∷ qs) (suc i) j right below =
    ap (λ (k : ℕ). get_or (q.1 ++ words_of qs) k 0) (along q.0 (length q.1) (start qs i) j right.0)
    ∙ get_or-append-add q.1 (words_of qs) (start qs i + j) 0
    ∙ part_word qs i j right.1 below
  where
    along : (n m a j : ℕ) → m ≡ n → n + a + j ≡ m + (a + j)
    along n m a j same = omega (arith, same)

-- Reads s n ws: from word n on, counted from 1, s holds the words ws
abbrev pub Reads : List ℕ → ℕ → List ℕ → Type 0
Reads s n ws = (j k : ℕ) → k ≡ n + j → j < length ws → get_or ws j 0 < 4294967296 → word_no s k ≡ get_or ws j 0

pub reads : (qs : List Part) (i : ℕ) → Right qs → Reads (bytes_of (words_of qs)) (start qs i + 1) (part_at qs i)
unfolding word_no
reads qs i right j k here below fits =
    let word = part_word qs i j right below in
    ap (word_at (bytes_of (words_of qs))) (before (start qs i) j k here)
    ∙ read_back (words_of qs) (start qs i + j) (subst (λ (w : ℕ). w < 4294967296) (sym word) fits)
    ∙ word
  where
    before : (a j k : ℕ) → k ≡ a + 1 + j → k - 1 ≡ a + j
    before a j k here = omega (arith, here)
