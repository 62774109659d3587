-- Words that are written over others leave the length and every other word as they were. Assumes nothing.
use mathlib.Core.Path.{◌≡◌, refl, ap, ◌∙◌}
use mathlib.Core.Logic.{◌⊎◌, inl, inr}
use mathlib.Core.List.{List, [], ◌∷◌}
use Prim.Native.Nat.{ℕ, ◌+◌, ◌*◌, ◌-◌, ◌<◌, ◌≤◌}
use native.Mathlib.Omega.{arith}
use lib.ListN.{length, take, drop, get_or, length-append, length-drop, get_or-append}
use lib.Seq.{length-take-le, get_or-append-add, get_or-take, get_or-drop}
use Rattle.words.specs.Words.{word_at, bytes_of, put_at}

pub length_bytes : (words : List ℕ) → length (bytes_of words) ≡ 4 * length words
unfolding bytes_of
length_bytes [] = refl
length_bytes (w ∷ words) = omega (arith, length_bytes words)

-- what lies outside of m things from a on
abbrev pub Outside : ℕ → ℕ → ℕ → Type 0
Outside a m k = (k < a) ⊎ (a + m ≤ k)

-- a word outside has its bytes outside
byte_outside : (at n i j k : ℕ) → j < 4 → k ≡ 4 * i + j → Outside at n i → Outside (4 * at) (4 * n) k
byte_outside at n i j k small e (inl h) = inl (omega (arith, small, e, h))
byte_outside at n i j k small e (inr h) = inr (omega (arith, small, e, h))

module _ (at : ℕ) (words bytes : List ℕ) (room : 4 * at + 4 * length words ≤ length bytes) where
  abbrev front : List ℕ
  front = take (4 * at) bytes

  abbrev back : List ℕ
  back = drop (4 * length words) (drop (4 * at) bytes)

  front_long : length front ≡ 4 * at
  front_long = length-take-le (4 * at) bytes (omega (arith, room))

  pub put_length : length (put_at at words bytes) ≡ length bytes
  unfolding put_at
  put_length =
      length-append front _ ∙ omega (
        arith,
        room,
        front_long,
        length-append (bytes_of words) back,
        length_bytes words,
        length-drop (4 * length words) (drop (4 * at) bytes),
        length-drop (4 * at) bytes,
      )

  kept_byte : (k : ℕ) → Outside (4 * at) (4 * length words) k → get_or (put_at at words bytes) k 0 ≡ get_or bytes k 0
  unfolding put_at
  kept_byte k (inl h) = get_or-append front _ 0 k (omega (arith, front_long, h)) ∙ get_or-take (4 * at) bytes k 0 h
  kept_byte k (inr h) =
      let j = k - (4 * at + 4 * length words) in
      let here : k ≡ length front + (length (bytes_of words) + j) = omega (arith, h, front_long, length_bytes words) in
      let there : 4 * at + (4 * length words + j) ≡ k = omega (arith, h) in
      ap (λ (i : ℕ). get_or (put_at at words bytes) i 0) here
      ∙ get_or-append-add front _ (length (bytes_of words) + j) 0 ∙ get_or-append-add (bytes_of words) back j 0
      ∙ get_or-drop (4 * length words) (drop (4 * at) bytes) j 0 ∙ get_or-drop (4 * at) bytes (4 * length words + j) 0
      ∙ ap (λ (i : ℕ). get_or bytes i 0) there

  pub kept_word : (i : ℕ) → Outside at (length words) i → word_at (put_at at words bytes) i ≡ word_at bytes i
  unfolding word_at
  kept_word i h =
      let byte : (j k : ℕ) → j < 4 → k ≡ 4 * i + j → get_or (put_at at words bytes) k 0 ≡ get_or bytes k 0 =
      λ j k small e. kept_byte k (byte_outside at (length words) i j k small e h) in
      rw (
        byte 0 (4 * i) (omega arith) (omega arith),
        byte 1 (4 * i + 1) (omega arith) refl,
        byte 2 (4 * i + 2) (omega arith) refl,
        byte 3 (4 * i + 3) (omega arith) refl,
      )
