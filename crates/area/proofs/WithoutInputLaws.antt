-- A frame without its input: its words are 0 or as they were, so nothing moves. Assumes nothing.
use Rattle.std.specs.Prelude.{◌≡◌, ℕ, zero, suc, ◌+◌, ◌-◌, ◌*◌, ◌/◌, ◌<◌, Bool, true, false, cond, eqb, List, [], ◌∷◌, get_or}
use mathlib.Core.Path.{refl, sym, ap, ◌∙◌}
use native.Mathlib.Nat.{add-zero, add-suc, suc-add}
use native.Mathlib.Omega.{arith}
use lib.Ieee.{binary32, of_bits, ne}
use Rattle.words.specs.Words.{word_at}
use Rattle.numbers.specs.F32 as F32
use Rattle.area.specs.Layout as At
use Rattle.area.specs.Frame.{word_no, number_no, flag_no}
use Rattle.area.specs.Moved.{is_other_than_zero, is_moved_by_words}
use Rattle.area.specs.WithoutInput.{is_input, cleared_from, without_input, ShowsWithoutInput}
use Rattle.numbers.proofs.TestLaws.{either}
use Rattle.area.proofs.EndLaws.{StaysOnEnd}
use Rattle.area.proofs.MovedLaws.{stays_by_words_x, stays_by_words_y}

-- ---- a byte
cleared_at : (i k : ℕ) (bytes : List ℕ) → get_or (cleared_from i bytes) k 0 ≡ cond (is_input ((i + k) / 4 + 1)) 0 (get_or bytes k 0)
cleared_at i k [] = either (λ (b : ℕ). 0 ≡ b) (is_input ((i + k) / 4 + 1)) 0 0 refl refl
cleared_at i zero (b ∷ bytes) = ap (λ (n : ℕ). cond (is_input (n / 4 + 1)) 0 b) (sym (add-zero i))
cleared_at i (suc k) (b ∷ bytes) =
    cleared_at (suc i) k bytes ∙ ap (λ (n : ℕ). cond (is_input (n / 4 + 1)) 0 (get_or bytes k 0)) (suc-add i k ∙ sym (add-suc i k))

-- byte k, of word n
byte_is : (bytes : List ℕ) (n k : ℕ) → k / 4 + 1 ≡ n → get_or (without_input bytes) k 0 ≡ cond (is_input n) 0 (get_or bytes k 0)
unfolding without_input
byte_is bytes n k e =
    let at : (0 + k) / 4 + 1 ≡ n = omega (arith, e) in
    cleared_at 0 k bytes ∙ ap (λ (m : ℕ). cond (is_input m) 0 (get_or bytes k 0)) at

-- ---- a word, by whether it is input
spread : (t : Bool) (a b c d : ℕ)
    → cond t 0 a + 256 * cond t 0 b + 65536 * cond t 0 c + 16777216 * cond t 0 d ≡ cond t 0 (a + 256 * b + 65536 * c + 16777216 * d)
spread true a b c d = refl
spread false a b c d = refl

word_is : (bytes : List ℕ) (n : ℕ) → 0 < n → (t : Bool) → is_input n ≡ t → word_no (without_input bytes) n ≡ cond t 0 (word_no bytes n)
unfolding word_no word_at
word_is bytes n p t h =
    let i = n - 1 in
    rw (
      byte_is bytes n (4 * i) (omega (arith, p)),
      byte_is bytes n (4 * i + 1) (omega (arith, p)),
      byte_is bytes n (4 * i + 2) (omega (arith, p)),
      byte_is bytes n (4 * i + 3) (omega (arith, p)),
      h,
    )
    (spread t (get_or bytes (4 * i) 0) (get_or bytes (4 * i + 1) 0) (get_or bytes (4 * i + 2) 0) (get_or bytes (4 * i + 3) 0))

flag_clear : (bytes : List ℕ) (n : ℕ) → 0 < n → is_input n ≡ true → flag_no (without_input bytes) n ≡ false
unfolding flag_no
flag_clear bytes n p h = ap (λ (w : ℕ). eqb w 1) (word_is bytes n p true h)

zero_is_zero : ne (of_bits binary32 0) F32.zero ≡ false
unfolding ne of_bits
zero_is_zero = refl

number_clear : (bytes : List ℕ) (n : ℕ) → 0 < n → is_input n ≡ true → is_other_than_zero (without_input bytes) n ≡ false
unfolding number_no
number_clear bytes n p h = ap (λ (w : ℕ). ne (of_bits binary32 w) F32.zero) (word_is bytes n p true h) ∙ zero_is_zero

-- ---- the words that name a move
unmoved_x : (bytes : List ℕ) → is_moved_by_words (without_input bytes) 0 ≡ false
unfolding is_moved_by_words is_input
unmoved_x bytes = rw (
  flag_clear bytes At.offset_x (omega arith) refl,
  flag_clear bytes At.dragged (omega arith) refl,
  flag_clear bytes At.drag_stopped (omega arith) refl,
  flag_clear bytes (At.bar_x + 2) (omega arith) refl,
  flag_clear bytes At.target_x (omega arith) refl,
  number_clear bytes At.scroll_delta (omega arith) refl,
  number_clear bytes At.smooth_scroll_delta (omega arith) refl,
  number_clear bytes (At.smooth_scroll_delta + 1) (omega arith) refl,
)

unmoved_y : (bytes : List ℕ) → is_moved_by_words (without_input bytes) 1 ≡ false
unfolding is_moved_by_words is_input
unmoved_y bytes = rw (
  flag_clear bytes At.offset_y (omega arith) refl,
  flag_clear bytes At.dragged (omega arith) refl,
  flag_clear bytes At.drag_stopped (omega arith) refl,
  flag_clear bytes (At.bar_y + 2) (omega arith) refl,
  flag_clear bytes At.target_y (omega arith) refl,
  number_clear bytes (At.scroll_delta + 1) (omega arith) refl,
  number_clear bytes At.smooth_scroll_delta (omega arith) refl,
  number_clear bytes (At.smooth_scroll_delta + 1) (omega arith) refl,
)

-- ---- so the list shows its end
shows : (d : ℕ) → ((bytes : List ℕ) → is_moved_by_words (without_input bytes) d ≡ false) → StaysOnEnd (λ _ _. is_moved_by_words) d → 0 < At.stick_to_end + d
    → is_input (At.stick_to_end + d) ≡ false → ShowsWithoutInput d
shows d unmoved stays p kept = record {
  unmoved = unmoved;
  on_end = λ table S bytes sticks stuck a.
      stays table S (without_input bytes) a (word_is bytes (At.stick_to_end + d) p false kept ∙ sticks) (unmoved bytes) stuck;
}

pub shows_without_input : ShowsWithoutInput 0 × ShowsWithoutInput 1
unfolding is_input
shows_without_input = (shows 0 unmoved_x stays_by_words_x (omega arith) refl, shows 1 unmoved_y stays_by_words_y (omega arith) refl)
