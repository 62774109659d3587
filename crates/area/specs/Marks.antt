-- What the functions of the walk do, word by word and field by field: for the proof of src/marks.rt and src/sweep.rt, and for `on_the_way`
-- in Sweep.antt.
-- A mark is the number that a word shows times 128, plus the word's own number; 0 is none.
use Rattle.std.specs.Prelude.{◌≡◌, ℕ, zero, suc, ◌+◌, ◌-◌, ◌*◌, Bool, true, false, cond, not, ◌&&◌, Option, Some, None, List, [], ◌∷◌, ◌++◌, length, ◌==◌, from_bits, nat_le, nat_lt, refl}
use Rattle.std.proofs.Common.{ap, arith, length-append}
use Rattle.numbers.proofs.TestLaws.{and_left, and_right}
use Rattle.std.specs.Float.{binary32, binary64}
use Rattle.refusals.specs.Refusal.{number_of}
use Rattle.area.specs.declared.marks.shown.Shown.{Shown}
use Rattle.area.specs.Layout.{Row, flag, option_at, row_no, time_high}
use Rattle.area.specs.Checks.{is_heeded, is_shown, shows2, shows3, shows4, shows5, lowest_where}

-- the walk after some words: how many they are, and the mark kept
pub record Walk : Type 0 where
  pub count : ℕ
  pub mark : ℕ

-- the same in a frame of these bytes, in a walk that ends after word `last`
pub record Sweeping : Type 0 where
  pub bytes : List ℕ
  pub last : ℕ
  pub walk : Walk

-- ---- a mark
abbrev pub mark_of : Shown → ℕ
mark_of shown = number_of shown.refusal * 128 + shown.word

abbrev pub mark_in : Option Shown → ℕ
mark_in None = 0
mark_in (Some shown) = mark_of shown

-- the lower of two, of which the second may be none
unfoldable pub lower_mark : ℕ → ℕ → ℕ
lower_mark own mark = cond (mark == 0) own (cond (nat_lt own mark) own mark)

-- ---- one word

-- the row is of no option, has no start and is not the time's high word
abbrev pub Apart : Row → Type 0
Apart r = (r.option == 0 ≡ true) × (r.start == 0 ≡ true) × (r.how == time_high ≡ false)

-- the lowest of 2 to 5 that word n shows if its row is r, or 0
unfoldable pub shown_by : Row → List ℕ → ℕ → ℕ
shown_by r s n =
    lowest_where
    (is_heeded s r && is_shown 2 s n r)
    (is_heeded s r && is_shown 3 s n r)
    (is_heeded s r && is_shown 4 s n r)
    (is_heeded s r && is_shown 5 s n r)

-- the same of a word outside options that is not the time's high one: w and `start` are the values of the word and of its start
unfoldable pub shown_of : Row → ℕ → ℕ → ℕ
shown_of r w start =
    let x = from_bits binary32 w in
    lowest_where (shows2 r w) (shows3 r x (from_bits binary64 0)) (shows4 r x (from_bits binary32 start)) (shows5 r x)

-- the lower of a mark and that of word n, which shows k, in a walk that ends after word `last`
unfoldable pub kept_at : ℕ → ℕ → ℕ → ℕ → ℕ
kept_at mark last n k =
    let own = k * 128 + n in
    cond (nat_lt last n) mark (cond (mark == 0) own (cond (nat_lt own mark) own mark))

-- a word that shows 0 leaves the mark
unfoldable pub kept_with : ℕ → ℕ → ℕ → ℕ → ℕ
kept_with mark last n k = cond (k == 0) mark (kept_at mark last n k)

-- ---- words in a row

-- the walk over k words from word n on
unfoldable pub sweep_from : List ℕ → ℕ → ℕ → ℕ → ℕ → ℕ
sweep_from s last n zero mark = mark
sweep_from s last n (suc k) mark = sweep_from s last (suc n) k (kept_with mark last n (shown_by (row_no n) s n))

-- the same over given rows: those of a field that begins with word n
unfoldable pub sweep_rows : List ℕ → ℕ → ℕ → List Row → ℕ → ℕ
sweep_rows s last n [] mark = mark
sweep_rows s last n (r ∷ rows) mark = sweep_rows s last (n + 1) rows (kept_with mark last n (shown_by r s n))

abbrev pub pair_of : Row → List Row
pair_of r = r ∷ r ∷ []

-- rows that lie in no option, so that an option may hold them
abbrev pub are_outside : List Row → Bool
are_outside [] = true
are_outside (r ∷ rows) = r.option == 0 && are_outside rows

-- ---- the count

-- so many words more, up to the last
unfoldable pub counted_of : ℕ → ℕ → ℕ → ℕ
counted_of count last words = cond (nat_le last count) count (cond (nat_lt (last - count) words) last (count + words))

-- both, over k words from word n on
unfoldable pub walk_from : List ℕ → ℕ → ℕ → ℕ → Walk → Walk
walk_from s last n k w = record { count = counted_of w.count last k; mark = sweep_from s last n k w.mark }

-- the walk over the first words of a frame, up to `last`; of a frame of another length the mark of 1, at no word
unfoldable pub walk_of : List ℕ → ℕ → Walk
walk_of s last =
    cond (not (length s == 416)) (record { count = 0; mark = 128 })
    (walk_from s last 1 104 (record { count = 0; mark = 0 }))

-- ---- the walk on its way

-- the mark alone moves on
abbrev pub with_mark : Sweeping → ℕ → Sweeping
with_mark w mark = record { bytes = w.bytes; last = w.last; walk = record { count = w.walk.count; mark = mark } }

-- with word n, which shows k
abbrev pub keeping : Sweeping → ℕ → ℕ → Sweeping
keeping w n k = with_mark w (kept_with w.walk.mark w.last n k)

-- with the words of a field that begins with word n
abbrev pub keeping_rows : Sweeping → ℕ → List Row → Sweeping
keeping_rows w n rows = with_mark w (sweep_rows w.bytes w.last n rows w.walk.mark)

-- and they are counted
abbrev pub taking : Sweeping → ℕ → List Row → Sweeping
taking w n rows = record {
  bytes = w.bytes;
  last = w.last;
  walk = record { count = counted_of w.walk.count w.last (length rows); mark = sweep_rows w.bytes w.last n rows w.walk.mark };
}

-- k words from word n on
abbrev pub taking_words : Sweeping → ℕ → ℕ → Sweeping
taking_words w n k = record { bytes = w.bytes; last = w.last; walk = walk_from w.bytes w.last n k w.walk }

-- what a walk over some bytes comes to; there is none over a frame of another length
abbrev pub walk_in : Option Sweeping → Walk
walk_in None = record { count = 0; mark = 128 }
walk_in (Some w) = w.walk

-- ---- what the fields' laws need
pub outside_one : (r : Row) → Apart r → are_outside (r ∷ []) ≡ true
outside_one r (outside, whole, single) = rw outside

pub outside_pair : (r : Row) → Apart r → are_outside (r ∷ r ∷ []) ≡ true
outside_pair r (outside, whole, single) = rw outside

pub outside_both : (xs ys : List Row) → are_outside xs ≡ true → are_outside ys ≡ true → are_outside (xs ++ ys) ≡ true
outside_both [] ys before after = after
outside_both (r ∷ xs) ys before after =
    let here = and_left (r.option == 0) (are_outside xs) before in
    rw (here, outside_both xs ys (and_right (r.option == 0) (are_outside xs) before) after)

pub length-option : (m : ℕ) (rows : List Row) (k : ℕ) → length rows ≡ k → length (flag ∷ option_at m rows) ≡ 1 + k
length-option m rows k e = omega (arith, e, go rows)
  where
    go : (rows : List Row) → length (option_at m rows) ≡ length rows
    go [] = refl
    go (r ∷ rows) = ap suc (go rows)

pub length-both : (xs ys : List Row) (j k : ℕ) → length xs ≡ j → length ys ≡ k → length (xs ++ ys) ≡ j + k
length-both xs ys j k e f = omega (arith, e, f, length-append xs ys)
