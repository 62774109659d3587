-- A tidied record stands for the same state. Assumes nothing.
use mathlib.Core.Path.{◌≡◌, refl, sym, ap, ◌∙◌}
use mathlib.Core.Logic.{◌⊎◌, inl, inr}
use mathlib.Core.Bool.{Bool, true, false, cond}
use mathlib.Core.List.{List}
use Prim.Native.Nat.{ℕ, ◌+◌, ◌-◌, ◌<◌}
use native.Mathlib.Nat.{add-zero, zero-add}
use native.Mathlib.Omega.{arith}
use borrow.Author.Tests.{eqb-true}
use lib.Dec.{eqb, lit<}
use lib.ListN.{get_or}
use Rattle.words.specs.Words.{word_at, bytes_of}
use Rattle.words.proofs.ReadLaws.{read_back}
use Rattle.area.specs.Frame.{word_no, number_no, flag_no, time_no, pair_no, flags_no, pos2_no, rect_no, option_no, maybe_number_no, maybe_rect_no}
use Rattle.area.specs.Parts.{target_no}
use Rattle.records.specs.Record.{maybe_target_no, state_of}
use Rattle.records.specs.Tidied.{words_from, words_unless, option_words, tidied}
use Rattle.records.proofs.ReadLaws.{start, part_at}
use Rattle.records.proofs.ClearedLaws.{tidied_parts}
use Rattle.records.proofs.TidiedLaws.{tidied_word, part_words}

-- ---- what reads the same
-- the m words from word n on, counted from 1, are the same in both
abbrev Agree : List ℕ → List ℕ → ℕ → ℕ → Type 0
Agree s t n m = (j k : ℕ) → k ≡ n + j → j < m → word_no t k ≡ word_no s k

-- an option of m words: absent in both, or the same
abbrev AgreeOption : List ℕ → List ℕ → ℕ → ℕ → Type 0
AgreeOption s t n m = ((word_no s n ≡ 0) × (word_no t n ≡ 0)) ⊎ Agree s t n m

pair_same : (s t : List ℕ) (n : ℕ) → word_no t n ≡ word_no s n → word_no t (n + 1) ≡ word_no s (n + 1) → pair_no t n ≡ pair_no s n
unfolding pair_no number_no
pair_same s t n first second = rw (first, second)

flags_same : (s t : List ℕ) (n : ℕ) → word_no t n ≡ word_no s n → word_no t (n + 1) ≡ word_no s (n + 1) → flags_no t n ≡ flags_no s n
unfolding flags_no flag_no
flags_same s t n first second = rw (first, second)

time_same : (s t : List ℕ) (n : ℕ) → word_no t n ≡ word_no s n → word_no t (n + 1) ≡ word_no s (n + 1) → time_no t n ≡ time_no s n
unfolding time_no
time_same s t n first second = rw (first, second)

number_same : (s t : List ℕ) (n : ℕ) → word_no t n ≡ word_no s n → number_no t n ≡ number_no s n
unfolding number_no
number_same s t n word = rw word

flag_same : (s t : List ℕ) (n : ℕ) → word_no t n ≡ word_no s n → flag_no t n ≡ flag_no s n
unfolding flag_no
flag_same s t n word = rw word

absent : (s : List ℕ) (n : ℕ) → word_no s n ≡ 0 → flag_no s n ≡ false
unfolding flag_no
absent s n word = ap (λ (w : ℕ). eqb w 1) word

target_same : (s t : List ℕ) (n : ℕ) → AgreeOption s t n 6 → maybe_target_no t n ≡ maybe_target_no s n
unfolding option_no target_no
target_same s t n (inl none) = rw (absent t n none.1, absent s n none.0)
target_same s t n (inr same) = rw (
  flag_same s t n (same 0 n (omega arith) (lit< tt)),
  time_same s t (n + 1) (same 1 (n + 1) refl (lit< tt)) (same 2 (n + 1 + 1) (omega arith) (lit< tt)),
  time_same s t (n + 1 + 2) (same 3 (n + 1 + 2) (omega arith) (lit< tt)) (same 4 (n + 1 + 2 + 1) (omega arith) (lit< tt)),
  number_same s t (n + 1 + 4) (same 5 (n + 1 + 4) (omega arith) (lit< tt)),
)

press_same : (s t : List ℕ) (n : ℕ) → AgreeOption s t n 2 → maybe_number_no t n ≡ maybe_number_no s n
unfolding option_no
press_same s t n (inl none) = rw (absent t n none.1, absent s n none.0)
press_same s t n (inr same) = rw (flag_same s t n (same 0 n (omega arith) (lit< tt)), number_same s t (n + 1) (same 1 (n + 1) refl (lit< tt)))

rect_same : (s t : List ℕ) (n : ℕ) → AgreeOption s t n 5 → maybe_rect_no t n ≡ maybe_rect_no s n
unfolding option_no rect_no pos2_no
rect_same s t n (inl none) = rw (absent t n none.1, absent s n none.0)
rect_same s t n (inr same) = rw (
  flag_same s t n (same 0 n (omega arith) (lit< tt)),
  number_same s t (n + 1) (same 1 (n + 1) refl (lit< tt)),
  number_same s t (n + 1 + 1) (same 2 (n + 1 + 1) (omega arith) (lit< tt)),
  number_same s t (n + 1 + 2) (same 3 (n + 1 + 2) (omega arith) (lit< tt)),
  number_same s t (n + 1 + 2 + 1) (same 4 (n + 1 + 2 + 1) (omega arith) (lit< tt)),
)

-- ---- a record t whose words are those of s, tidied
before : (p j k : ℕ) → k ≡ p + 1 + j → k - 1 ≡ p + j
before p j k here = omega (arith, here)

module _ (s t : List ℕ) (tidy : (i : ℕ) → i < 39 → word_at t i ≡ get_or (tidied (word_at s) 0) i 0) where
  words_of : (none : Bool) (n p m : ℕ) → part_at (tidied_parts (word_at s) 0) n ≡ words_unless none (word_at s) p m → start (tidied_parts (word_at s) 0) n ≡ p → p + m < 40
      → (j : ℕ) → j < m → word_at t (p + j) ≡ cond none 0 (word_at s (p + j))
  words_of none n p m is here inside j below =
      ap (word_at t) (along p j)
      ∙ part_words (word_at s) (word_at t) 0 0 (λ i small. ap (word_at t) (zero-add i) ∙ tidy i small) none n p p m is here inside j below
    where
      along : (p j : ℕ) → p + j ≡ 0 + p + j
      along p j = omega arith

  agree : (p m : ℕ) → ((j : ℕ) → j < m → word_at t (p + j) ≡ word_at s (p + j)) → Agree s t (p + 1) m
  unfolding word_no
  agree p m same j k here below = ap (word_at t) (before p j k here) ∙ same j below ∙ ap (word_at s) (sym (before p j k here))

  plain : (n p m : ℕ) → part_at (tidied_parts (word_at s) 0) n ≡ words_from (word_at s) p m → start (tidied_parts (word_at s) 0) n ≡ p → p + m < 40 → Agree s t (p + 1) m
  plain n p m is here inside = agree p m (words_of false n p m is here inside)

  zeros : (p : ℕ) → word_at s p ≡ 0 → word_at t p ≡ 0 → (word_no s (p + 1) ≡ 0) × (word_no t (p + 1) ≡ 0)
  unfolding word_no
  zeros p a b = (ap (word_at s) (back p) ∙ a, ap (word_at t) (back p) ∙ b)
    where
      back : (p : ℕ) → p + 1 - 1 ≡ p
      back p = omega arith

  option : (n p m : ℕ) → part_at (tidied_parts (word_at s) 0) n ≡ option_words (word_at s) p m → start (tidied_parts (word_at s) 0) n ≡ p → 0 < m → p + m < 40
      → AgreeOption s t (p + 1) m
  option n p m is here some inside = go (eqb (word_at s p) 0) refl
    where
      words : (j : ℕ) → j < m → word_at t (p + j) ≡ cond (eqb (word_at s p) 0) 0 (word_at s (p + j))
      words = words_of (eqb (word_at s p) 0) n p m is here inside

      go : (b : Bool) → eqb (word_at s p) 0 ≡ b → AgreeOption s t (p + 1) m
      go true e = inl (
          zeros p (eqb-true (word_at s p) 0 e) (ap (word_at t) (sym (add-zero p)) ∙ words 0 some ∙ ap (λ (b : Bool). cond b 0 (word_at s (p + 0))) e)
          )
      go false e = inr (agree p m (λ j below. words j below ∙ ap (λ (b : Bool). cond b 0 (word_at s (p + j))) e))

  stands : state_of t ≡ state_of s
  unfolding state_of
  stands =
      let offsets = plain 0 0 4 refl refl (lit< tt) in
      let middle = plain 3 16 8 refl refl (lit< tt) in
      let stuck = plain 6 28 2 refl refl (lit< tt) in
      let last = plain 8 35 4 refl refl (lit< tt) in
      rw (
        pair_same s t 1 (offsets 0 1 refl (lit< tt)) (offsets 1 2 refl (lit< tt)),
        pair_same s t 3 (offsets 2 3 refl (lit< tt)) (offsets 3 4 refl (lit< tt)),
        target_same s t 5 (option 1 4 6 refl refl (lit< tt) (lit< tt)),
        target_same s t 11 (option 2 10 6 refl refl (lit< tt) (lit< tt)),
        flags_same s t 17 (middle 0 17 refl (lit< tt)) (middle 1 18 refl (lit< tt)),
        flags_same s t 19 (middle 2 19 refl (lit< tt)) (middle 3 20 refl (lit< tt)),
        flags_same s t 21 (middle 4 21 refl (lit< tt)) (middle 5 22 refl (lit< tt)),
        pair_same s t 23 (middle 6 23 refl (lit< tt)) (middle 7 24 refl (lit< tt)),
        press_same s t 25 (option 4 24 2 refl refl (lit< tt) (lit< tt)),
        press_same s t 27 (option 5 26 2 refl refl (lit< tt) (lit< tt)),
        flags_same s t 29 (stuck 0 29 refl (lit< tt)) (stuck 1 30 refl (lit< tt)),
        rect_same s t 31 (option 7 30 5 refl refl (lit< tt) (lit< tt)),
        flags_same s t 36 (last 0 36 refl (lit< tt)) (last 1 37 refl (lit< tt)),
        time_same s t 38 (last 2 38 refl (lit< tt)) (last 3 39 refl (lit< tt)),
      )

pub tidied_stands : (s t : List ℕ) → ((i : ℕ) → i < 39 → word_at t i ≡ get_or (tidied (word_at s) 0) i 0) → state_of t ≡ state_of s
tidied_stands = stands

pub tidied_reads : (s : List ℕ) → ((j : ℕ) → word_at s j < 4294967296) → state_of (bytes_of (tidied (word_at s) 0)) ≡ state_of s
tidied_reads s fits =
    tidied_stands s (bytes_of (tidied (word_at s) 0)) (λ i inside. read_back (tidied (word_at s) 0) i (tidied_word (word_at s) 0 i fits))
