-- What the functions of the walk need of single words and of options. Assumes nothing.
use Rattle.std.specs.Prelude.{◌≡◌, ℕ, ◌+◌, ◌*◌, ◌<◌, ◌≤◌, Bool, true, false, ◌&&◌, ◌==◌, eqb, List, [], ◌∷◌, ◌++◌, length}
use mathlib.Core.Path.{refl, sym, ap, ◌∙◌}
use native.Mathlib.Nat.{add-zero}
use native.Mathlib.Omega.{arith}
use borrow.Author.Tests.{le-ltb, lt-ltb, ne_eqb}
use Rattle.area.specs.Layout.{Row, flag, end_of, inside, option_at}
use Rattle.area.specs.Frame.{word_no, flag_no, number_no}
use Rattle.area.specs.Checks.{is_heeded, shows2, shows3, shows4, shows5, is_shown, lowest_where}
use Rattle.refusals.specs.Refusal.{number_of}
use Rattle.refusals.specs.declared.Refusal.{Refusal}
use Rattle.area.specs.Marks.{Sweeping, Apart, are_outside, lower_mark, shown_by, shown_of, kept_at, kept_with, sweep_rows, counted_of, with_mark, keeping, keeping_rows, taking}
use Rattle.area.proofs.MarkLaws.{some_number}
use Rattle.numbers.proofs.TestLaws.{either, or_right, neither, and_left, and_right}

-- ---- a word outside options, by its value

pub shown_word : (r : Row) (s : List ℕ) (n : ℕ) → Apart r → shown_by r s n ≡ shown_of r (word_no s n) 0
unfolding shown_by shown_of is_heeded is_shown shows2 shows3 shows4 shows5 number_no
shown_word r s n (outside, whole, single) = rw (outside, whole, single)

pub shown_end : (s : List ℕ) (n m : ℕ) → 0 < m → shown_by (end_of m) s n ≡ shown_of (end_of 1) (word_no s n) (word_no s m)
unfolding shown_by shown_of is_heeded is_shown shows2 shows3 shows4 shows5 number_no
shown_end s n m some = rw (ne_eqb m 0 (λ z. omega (arith, z)))

-- a number that is shown by a word's value, or by an end's and its start's, is shown by the word
pub word_shows : (r : Row) (s : List ℕ) (n w k : ℕ) → Apart r → k ≡ shown_of r w 0 → w ≡ word_no s n → k ≡ shown_by r s n
word_shows r s n w k alone shows word = shows ∙ rw word (sym (shown_word r s n alone))

pub end_shows : (s : List ℕ) (n m w start k : ℕ) → 0 < m → k ≡ shown_of (end_of 1) w start → w ≡ word_no s n → start ≡ word_no s m →
    k ≡ shown_by (end_of m) s n
end_shows s n m w start k some shows word begin = shows ∙ rw (word, begin) (sym (shown_end s n m some))

-- ---- the walk with one word more
pub keeping_none : (w : Sweeping) (n : ℕ) → w ≡ keeping w n 0
unfolding kept_with
keeping_none w n = refl

pub keeping_after : (w : Sweeping) (n k : ℕ) → w.last < n → w ≡ keeping w n k
unfolding kept_with kept_at
keeping_after w n k l = rw (lt-ltb w.last n l) (ap (with_mark w) (either (λ (m : ℕ). w.walk.mark ≡ m) (k == 0) w.walk.mark w.walk.mark refl refl))

pub keeping_refusal : (w : Sweeping) (n : ℕ) (r : Refusal) (mark : ℕ) → n ≤ w.last → mark ≡ lower_mark (number_of r * 128 + n) w.walk.mark →
    with_mark w mark ≡ keeping w n (number_of r)
unfolding kept_with kept_at lower_mark
keeping_refusal w n r mark l mark_is = rw (mark_is, some_number r, le-ltb w.last n l)

-- with the words of a field, and their count
pub taking_is : (w v : Sweeping) (n k count : ℕ) (rows : List Row) → v ≡ keeping_rows w n rows → k ≡ length rows →
    count ≡ counted_of v.walk.count v.last k → record { bytes = v.bytes; last = v.last; walk = record { count = count; mark = v.walk.mark } } ≡ taking w n rows
taking_is w v n k count rows v_is k_is count_is = rw (count_is, v_is, k_is)

-- ---- the words of an option whose flag is word m

-- each row is heeded
abbrev pub all_heeded : List ℕ → List Row → Bool
all_heeded s [] = true
all_heeded s (r ∷ rows) = is_heeded s r && all_heeded s rows

-- what a word shows, by whether it is heeded
abbrev heeded_shows : Bool → Row → List ℕ → ℕ → ℕ
heeded_shows h r s n = lowest_where (h && is_shown 2 s n r) (h && is_shown 3 s n r) (h && is_shown 4 s n r) (h && is_shown 5 s n r)

module _ (s : List ℕ) (last m : ℕ) where
  shown_by_lem : (h : Bool) (r : Row) (n : ℕ) → is_heeded s (inside m r) ≡ h → shown_by (inside m r) s n ≡ heeded_shows h r s n
  unfolding shown_by is_shown shows2 shows3 shows4 shows5
  shown_by_lem h r n e = ap (λ (b : Bool). heeded_shows b r s n) e

  shown_on : (r : Row) (n : ℕ) → flag_no s m ≡ true → is_heeded s r ≡ true → shown_by (inside m r) s n ≡ shown_by r s n
  unfolding shown_by is_heeded flag_no
  shown_on r n on heeded =
      shown_by_lem true r n (or_right (eqb m 0) (flag_no s m) on) ∙ ap (λ (b : Bool). heeded_shows b r s n) (sym heeded)

  shown_off : (r : Row) (n : ℕ) → eqb m 0 ≡ false → flag_no s m ≡ false → shown_by (inside m r) s n ≡ 0
  unfolding is_heeded flag_no
  shown_off r n some off = shown_by_lem false r n (neither (eqb m 0) (flag_no s m) some off)

  -- on: as outside an option
  option_on : (rows : List Row) (n mark : ℕ) → flag_no s m ≡ true → all_heeded s rows ≡ true →
      sweep_rows s last n (option_at m rows) mark ≡ sweep_rows s last n rows mark
  unfolding sweep_rows
  option_on [] n mark on heeded = refl
  option_on (r ∷ rows) n mark on heeded =
      ap (λ (k : ℕ). sweep_rows s last (n + 1) (option_at m rows) (kept_with mark last n k)) (shown_on r n on (and_left (is_heeded s r) (all_heeded s rows) heeded))
      ∙ option_on rows (n + 1) _ on (and_right (is_heeded s r) (all_heeded s rows) heeded)

  -- off: they show nothing
  option_off : (rows : List Row) (n mark : ℕ) → eqb m 0 ≡ false → flag_no s m ≡ false → sweep_rows s last n (option_at m rows) mark ≡ mark
  unfolding sweep_rows kept_with
  option_off [] n mark some off = refl
  option_off (r ∷ rows) n mark some off =
      ap (λ (k : ℕ). sweep_rows s last (n + 1) (option_at m rows) (kept_with mark last n k)) (shown_off r n some off)
      ∙ option_off rows (n + 1) mark some off

  -- an option's flag, then its words
  pub with_on : (rows : List Row) (mark : ℕ) → word_no s m == 1 ≡ true → all_heeded s rows ≡ true →
      sweep_rows s last (m + 1) rows (kept_with mark last m (shown_by flag s m)) ≡ sweep_rows s last m (flag ∷ option_at m rows) mark
  unfolding sweep_rows flag_no
  with_on rows mark on heeded = sym (option_on rows (m + 1) _ on heeded)

  pub with_off : (rows : List Row) (mark : ℕ) → 0 < m → word_no s m == 1 ≡ false →
      kept_with mark last m (shown_by flag s m) ≡ sweep_rows s last m (flag ∷ option_at m rows) mark
  unfolding sweep_rows flag_no
  with_off rows mark some off = sym (option_off rows (m + 1) _ (ne_eqb m 0 (λ z. omega (arith, z))) off)

-- ---- the rows of a field

-- rows outside options are heeded
pub heeded_outside : (s : List ℕ) (rows : List Row) → are_outside rows ≡ true → all_heeded s rows ≡ true
unfolding is_heeded
heeded_outside s [] outside = refl
heeded_outside s (r ∷ rows) outside =
    let here = and_left (r.option == 0) (are_outside rows) outside in
    rw (here, heeded_outside s rows (and_right (r.option == 0) (are_outside rows) outside))

-- one field after the other
pub sweep-append : (s : List ℕ) (last n : ℕ) (xs ys : List Row) (mark : ℕ) →
    sweep_rows s last n (xs ++ ys) mark ≡ sweep_rows s last (n + length xs) ys (sweep_rows s last n xs mark)
unfolding sweep_rows
sweep-append s last n [] ys mark = rw add-zero
sweep-append s last n (r ∷ xs) ys mark = sweep-append s last (n + 1) xs ys _ ∙ ap (λ (m : ℕ). sweep_rows s last m ys (sweep_rows s last (n + 1) xs (kept_with mark last n (shown_by r s n)))) (omega arith)

pub keeping-append : (w : Sweeping) (n k : ℕ) (xs ys : List Row) → length xs ≡ k →
    keeping_rows (keeping_rows w n xs) (n + k) ys ≡ keeping_rows w n (xs ++ ys)
keeping-append w n k xs ys e = ap (with_mark w) (rw (← e) (sym (sweep-append w.bytes w.last n xs ys w.walk.mark)))
