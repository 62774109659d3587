-- A word that was written is read back. Assumes nothing.
use mathlib.Core.Path.{◌≡◌, refl, sym, ap, ◌∙◌}
use mathlib.Core.List.{List, [], ◌∷◌}
use Prim.Native.Nat.{ℕ, zero, suc, ◌+◌, ◌*◌, ◌/◌, ◌%◌, ◌<◌, ◌≤◌}
use native.Mathlib.Nat.{div-add-mod, div-div-eq-div-mul, mod-eq_of_lt}
use native.Mathlib.Omega.{arith}
use lib.ListN.{length, take, get_or, get_or-append}
use lib.Seq.{length-take-le, get_or-append-add}
use Rattle.words.specs.Words.{word_at, bytes_of, put_at}
use Rattle.words.proofs.KeptLaws.{length_bytes}

-- ---- in the bytes of words

-- the digits of a, b = a / 256 and c = b / 256 to the base 256
digits : (w a b c p q r d : ℕ) → 256 * a + p ≡ w → 256 * b + q ≡ a → 256 * c + r ≡ b → d ≡ c → p + 256 * q + 65536 * r + 16777216 * d ≡ w
digits w a b c p q r d first second third fourth = omega (arith, first, second, third, fourth)

two : (w : ℕ) → w / 65536 ≡ w / 256 / 256
two w = sym (div-div-eq-div-mul w 256 256)

three : (w : ℕ) → w / 16777216 ≡ w / 256 / 256 / 256
three w = sym (div-div-eq-div-mul w 65536 256) ∙ ap (λ (n : ℕ). n / 256) (two w)

top : (w : ℕ) → w < 4294967296 → w / 16777216 % 256 ≡ w / 256 / 256 / 256
top w fits = mod-eq_of_lt (omega (arith, fits)) ∙ three w

joined : (w : ℕ) → w < 4294967296
    → w % 256 + 256 * (w / 256 % 256) + 65536 * (w / 65536 % 256) + 16777216 * (w / 16777216 % 256) ≡ w
joined w fits =
    digits w (w / 256) (w / 256 / 256) (w / 256 / 256 / 256) (w % 256) (w / 256 % 256) (w / 65536 % 256) (w / 16777216 % 256)
    (div-add-mod w 256)
    (div-add-mod (w / 256) 256)
    (ap (λ (n : ℕ). 256 * (w / 256 / 256 / 256) + n % 256) (two w) ∙ div-add-mod (w / 256 / 256) 256)
    (top w fits)

abbrev word_from : List ℕ → ℕ → ℕ
word_from s k = get_or s k 0 + 256 * get_or s (suc k) 0 + 65536 * get_or s (suc (suc k)) 0 + 16777216 * get_or s (suc (suc (suc k))) 0

add_1 : (k : ℕ) → k + 1 ≡ suc k
add_1 k = omega arith

add_2 : (k : ℕ) → k + 2 ≡ suc (suc k)
add_2 k = omega arith

add_3 : (k : ℕ) → k + 3 ≡ suc (suc (suc k))
add_3 k = omega arith

from : (s : List ℕ) (i : ℕ) → word_at s i ≡ word_from s (4 * i)
unfolding word_at
from s i = rw (add_1 (4 * i), add_2 (4 * i), add_3 (4 * i))

four : (i : ℕ) → 4 * suc i ≡ suc (suc (suc (suc (4 * i))))
four i = omega arith

past : (w i : ℕ) (ws : List ℕ) → word_from (bytes_of (w ∷ ws)) (4 * suc i) ≡ word_from (bytes_of ws) (4 * i)
unfolding bytes_of
past w i ws = ap (word_from (bytes_of (w ∷ ws))) (four i)

read_from : (ws : List ℕ) (i : ℕ) → get_or ws i 0 < 4294967296 → word_from (bytes_of ws) (4 * i) ≡ get_or ws i 0
unfolding bytes_of
read_from [] i fits = refl
read_from (w ∷ ws) zero fits = joined w fits
read_from (w ∷ ws) (suc i) fits = past w i ws ∙ read_from ws i fits

pub read_back : (ws : List ℕ) (i : ℕ) → get_or ws i 0 < 4294967296 → word_at (bytes_of ws) i ≡ get_or ws i 0
read_back ws i fits = from (bytes_of ws) i ∙ read_from ws i fits

-- ---- among the bytes that words were written over
module _ (at : ℕ) (words bytes : List ℕ) (room : 4 * at + 4 * length words ≤ length bytes) where
  written_byte : (i j k : ℕ) → k ≡ 4 * (at + i) + j → j < 4 → i < length words → get_or (put_at at words bytes) k 0 ≡ get_or (bytes_of words) (4 * i + j) 0
  unfolding put_at
  written_byte i j k here small below =
      let front = take (4 * at) bytes in
      let long = length-take-le (4 * at) bytes (omega (arith, room)) in
      let there : k ≡ length front + (4 * i + j) = omega (arith, here, long) in
      ap (λ (n : ℕ). get_or (put_at at words bytes) n 0) there
      ∙ get_or-append-add front _ (4 * i + j) 0
      ∙ get_or-append (bytes_of words) _ 0 (4 * i + j) (omega (arith, small, below, length_bytes words))

  pub written_word : (i : ℕ) → i < length words → get_or words i 0 < 4294967296 → word_at (put_at at words bytes) (at + i) ≡ get_or words i 0
  unfolding word_at
  written_word i below fits =
      let byte : (j m n : ℕ) → m ≡ 4 * (at + i) + j → n ≡ 4 * i + j → j < 4 → get_or (put_at at words bytes) m 0 ≡ get_or (bytes_of words) n 0 =
      λ j m n e f small. written_byte i j m e small below ∙ ap (λ (l : ℕ). get_or (bytes_of words) l 0) (sym f) in
      rw (
        byte 0 (4 * (at + i)) (4 * i) (omega arith) (omega arith) (omega arith),
        byte 1 (4 * (at + i) + 1) (4 * i + 1) refl refl (omega arith),
        byte 2 (4 * (at + i) + 2) (4 * i + 2) refl refl (omega arith),
        byte 3 (4 * (at + i) + 3) (4 * i + 3) refl refl (omega arith),
      )
      (read_back words i fits)
