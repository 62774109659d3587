-- A frame whose time has moved on: words 52 and 53 alone differ from the frame given, so it names the same moves, shows 2, 4 and 5 alike, and
-- 3 by its time alone. Assumes nothing.
use Rattle.std.specs.Prelude.{◌≡◌, ℕ, zero, suc, ◌+◌, ◌-◌, ◌<◌, ◌≤◌, Bool, true, false, cond, not, ◌&&◌, ◌||◌, eqb, ltb, List, length}
use native.Mathlib.Omega.{arith}
use mathlib.Core.Path.{refl, sym, ap, subst, ◌∙◌}
use mathlib.Core.Logic.{inl, inr}
use borrow.Author.Tests.{eqb-true, ltb-true, eq-eqb, lt-ltb, not-true}
use lib.Ieee.{Float, binary32, of_bits}
use Rattle.words.proofs.KeptLaws.{Outside, put_length, kept_word}
use Rattle.area.specs.Layout as At
use Rattle.area.specs.Layout.{layout, rows, row_at, row_no, Row}
use Rattle.area.specs.Frame.{word_no, number_no, flag_no, time_no, time_words}
use Rattle.area.specs.Checks.{is_heeded, is_time_outside, shows2, shows3, shows4, shows5, is_shown, shows_no, any_shows, frame_refusal}
use Rattle.area.specs.Moved.{word_on, is_moved_by_words}
use Rattle.area.specs.SettlingRun.{advanced}
use Rattle.numbers.proofs.TestLaws.{or_right, and_left, and_right, either, turned_true}
use Rattle.area.proofs.PassedLaws.{none_shows, unshown}

-- words other than 52 and 53
unfoldable is_apart : ℕ → Bool
is_apart n = ltb n 52 || ltb 53 n

apart_by : (n : ℕ) (t : Bool) → ltb n 52 ≡ t → (t || ltb 53 n) ≡ true → Outside 51 2 (n - 1)
apart_by n true e h = inl (omega (arith, ltb-true n 52 e))
apart_by n false e h = inr (omega (arith, ltb-true 53 n h))

-- one of two words, and words behind the time
apart_on : (d m n : ℕ) → is_apart m ≡ true → is_apart n ≡ true → is_apart (word_on d m n) ≡ true
apart_on d m n p q = either (λ (k : ℕ). is_apart k ≡ true) (eqb d 0) m n p q

apart_behind : (n : ℕ) → 53 < n → is_apart n ≡ true
unfolding is_apart
apart_behind n h = or_right (ltb n 52) (ltb 53 n) (lt-ltb 53 n h)

module _ (increment : Float) (bytes : List ℕ) (whole : length bytes ≡ 416) where
  abbrev next : List ℕ
  next = advanced increment bytes

  -- the time's words are within
  room : 212 ≤ length bytes
  room = omega (arith, whole)

  pub advanced_whole : length next ≡ 416
  unfolding advanced
  advanced_whole = put_length 51 (time_words _) bytes room ∙ whole

  same_word : (n : ℕ) → is_apart n ≡ true → word_no next n ≡ word_no bytes n
  unfolding is_apart word_no advanced
  same_word n h = kept_word 51 (time_words _) bytes room (n - 1) (apart_by n _ refl h)

  same_flag : (n : ℕ) → is_apart n ≡ true → flag_no next n ≡ flag_no bytes n
  unfolding flag_no
  same_flag n h = ap (λ (w : ℕ). eqb w 1) (same_word n h)

  same_number : (n : ℕ) → is_apart n ≡ true → number_no next n ≡ number_no bytes n
  unfolding number_no
  same_number n h = ap (of_bits binary32) (same_word n h)

  -- it names the moves that the frame given names
  pub moves_alike : (d : ℕ) → is_moved_by_words next d ≡ is_moved_by_words bytes d
  unfolding is_moved_by_words is_apart
  moves_alike d = rw (
    same_flag (word_on d At.offset_x At.offset_y) (apart_on d At.offset_x At.offset_y refl refl),
    same_flag At.dragged refl,
    same_flag At.drag_stopped refl,
    same_flag (word_on d At.bar_x At.bar_y + 2) (apart_behind (word_on d At.bar_x At.bar_y + 2) (bar_behind d)),
    same_flag (word_on d At.target_x At.target_y) (apart_on d At.target_x At.target_y refl refl),
    same_number (At.scroll_delta + d) (apart_behind (At.scroll_delta + d) (omega arith)),
    same_number At.smooth_scroll_delta refl,
    same_number (At.smooth_scroll_delta + 1) refl,
  )
    where
      bar_behind : (d : ℕ) → 53 < word_on d At.bar_x At.bar_y + 2
      bar_behind d = either (λ (k : ℕ). 53 < k + 2) (eqb d 0) At.bar_x At.bar_y (omega arith) (omega arith)

-- ---- the rows of the checks: of each but the time's own, the word, its option's flag and the start of its range are no words of the time, and
-- it is not read as one
unfoldable is_untimed : ℕ → Bool
is_untimed n = is_apart n && is_apart (row_no n).option && is_apart (row_no n).start && not (eqb (row_no n).how At.time_high)

abbrev is_separate : ℕ → Bool
is_separate n = eqb n 52 || (eqb n 53 || is_untimed n)

abbrev all_separate : ℕ → Bool
all_separate zero = true
all_separate (suc n) = all_separate n && is_separate (suc n)

all_separate_lem : all_separate 104 ≡ true
unfolding is_untimed is_apart layout rows row_at row_no
all_separate_lem = refl

-- the time is looked at where a row asks for it
no_time_lem : (r : Row) (x t u : Float) → eqb r.how At.time_high ≡ false → shows3 r x t ≡ shows3 r x u
unfolding shows3
no_time_lem r x t u h = rw h

-- the high word of the time shows 3 by the time
time_shows : (s : List ℕ) → shows_no 3 s 53 ≡ is_time_outside (time_no s At.time)
unfolding shows_no is_shown is_heeded shows3 layout rows row_at row_no
time_shows s = refl

-- ---- what it shows
module _ (increment : Float) (bytes : List ℕ) (whole : length bytes ≡ 416) where
  -- word n shows number k as in the frame given
  abbrev Alike : ℕ → ℕ → Type 0
  Alike k n = shows_no k (advanced increment bytes) n ≡ shows_no k bytes n

  module _ (n : ℕ) (h : is_untimed n ≡ true) where
    abbrev to_start : (is_apart n && is_apart (row_no n).option && is_apart (row_no n).start) ≡ true
    unfolding is_untimed
    to_start = and_left (is_apart n && is_apart (row_no n).option && is_apart (row_no n).start) _ h

    own_option : (is_apart n && is_apart (row_no n).option) ≡ true
    own_option = and_left (is_apart n && is_apart (row_no n).option) _ to_start

    apart : is_apart n ≡ true
    apart = and_left (is_apart n) _ own_option

    own : word_no (advanced increment bytes) n ≡ word_no bytes n
    own = same_word increment bytes whole n apart

    option : word_no (advanced increment bytes) (row_no n).option ≡ word_no bytes (row_no n).option
    option = same_word increment bytes whole (row_no n).option (and_right (is_apart n) _ own_option)

    number : number_no (advanced increment bytes) n ≡ number_no bytes n
    number = same_number increment bytes whole n apart

    start : number_no (advanced increment bytes) (row_no n).start ≡ number_no bytes (row_no n).start
    start = same_number increment bytes whole (row_no n).start (and_right (is_apart n && is_apart (row_no n).option) _ to_start)

    third : (x : Float) → shows3 (row_no n) x (time_no (advanced increment bytes) (n - 1)) ≡ shows3 (row_no n) x (time_no bytes (n - 1))
    unfolding is_untimed
    third x = no_time_lem (row_no n) x _ _ (not-true _ (and_right (is_apart n && is_apart (row_no n).option && is_apart (row_no n).start) _ h))

    untimed_alike : (k : ℕ) → Alike k n
    unfolding shows_no is_shown is_heeded
    untimed_alike k = rw (option, own, number, start, third (number_no bytes n))

  alike_by : (k : ℕ) → Alike k 53 → (n : ℕ) (s t : Bool) → eqb n 52 ≡ s → eqb n 53 ≡ t → (s || (t || is_untimed n)) ≡ true → Alike k n
  unfolding shows_no is_shown is_heeded shows2 shows3 shows4 shows5 layout rows row_at row_no
  alike_by k high n true t e f h = subst (Alike k) (sym (eqb-true n 52 e)) refl
  alike_by k high n false true e f h = subst (Alike k) (sym (eqb-true n 53 f)) high
  alike_by k high n false false e f h = untimed_alike n h k

  any_alike : (k : ℕ) → Alike k 53 → (n : ℕ) → all_separate n ≡ true → any_shows k (advanced increment bytes) n ≡ any_shows k bytes n
  unfolding any_shows
  any_alike k high zero h = refl
  any_alike k high (suc n) h =
      let rest = any_alike k high n (and_left (all_separate n) _ h) in
      let here = alike_by k high (suc n) _ _ refl refl (and_right (all_separate n) _ h) in
      λ i. rest i || here i

  high_alike : Alike 2 53 × Alike 4 53 × Alike 5 53
  unfolding shows_no is_shown is_heeded shows2 shows4 shows5 layout rows row_at row_no
  high_alike = (refl, refl, refl)

  -- 3, if the frame given shows none, by the time alone
  three_by : any_shows 3 bytes 104 ≡ false → (t : Bool) → is_time_outside (time_no (advanced increment bytes) At.time) ≡ t
      → any_shows 3 (advanced increment bytes) 104 ≡ t
  three_by none true late =
      turned_true (shows_no 3 (advanced increment bytes) 53) (any_shows 3 (advanced increment bytes) 104)
      (λ h. none_shows 3 (advanced increment bytes) 104 52 h (omega arith)) (time_shows (advanced increment bytes) ∙ late)
  three_by none false early =
      let high = time_shows (advanced increment bytes) ∙ early ∙ sym (none_shows 3 bytes 104 52 none (omega arith)) in
      any_alike 3 high 104 all_separate_lem ∙ none

  pub late_alone : frame_refusal bytes ≡ 0 → frame_refusal (advanced increment bytes) ≡ cond (is_time_outside (time_no (advanced increment bytes) At.time)) 3 0
  unfolding frame_refusal
  late_alone passes =
      let none = unshown bytes passes in
      rw (
        eq-eqb _ 416 (advanced_whole increment bytes whole),
        any_alike 2 high_alike.0 104 all_separate_lem ∙ none.0,
        three_by none.1 _ refl,
        any_alike 4 high_alike.1 104 all_separate_lem ∙ none.2,
        any_alike 5 high_alike.2 104 all_separate_lem ∙ none.3,
      )
