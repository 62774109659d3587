-- No word needs a later one: what the first n words show is told by these alone. With it, what holds of every walk. Assumes nothing.
use Rattle.std.specs.Prelude.{◌≡◌, ℕ, zero, suc, ◌+◌, ◌-◌, ◌<◌, ◌≤◌, Bool, true, ◌&&◌, leb, List, [], ◌∷◌, length, get_or}
use mathlib.Core.Path.{refl, sym, ap, ◌∙◌, subst}
use native.Mathlib.Omega.{arith}
use borrow.Author.Tests.{leb-true, eq-eqb}
use Rattle.area.specs.Layout.{Row, kind, layout, rows, row_at, row_no}
use Rattle.area.specs.Frame.{word_no, number_no, time_no}
use Rattle.area.specs.Checks.{is_heeded, is_shown, shows_no, any_shows}
use Rattle.area.specs.Sweep.{Swept, SameWords, lowest_of, swept_of, SweepHolds}
use Rattle.numbers.proofs.TestLaws.{and_left, and_right}
use Rattle.area.proofs.WalkLaws.{up_to_is, on_the_way, swept_refusal}

-- ---- each row names words up to its own
abbrev is_back : ℕ → Row → Bool
is_back n r = leb r.option n && leb r.start n

abbrev are_back : ℕ → List Row → Bool
are_back n [] = true
are_back n (r ∷ rs) = is_back n r && are_back (suc n) rs

rows_back : are_back 1 rows ≡ true
unfolding rows layout
rows_back = refl

back : (n : ℕ) (r : Row) → is_back n r ≡ true → (r.option ≤ n) × (r.start ≤ n)
back n r h =
    (leb-true r.option n (and_left (leb r.option n) (leb r.start n) h), leb-true r.start n (and_right (leb r.option n) (leb r.start n) h))

back_at : (rs : List Row) (n k : ℕ) → are_back n rs ≡ true → ((get_or rs k (kind 0)).option ≤ n + k) × ((get_or rs k (kind 0)).start ≤ n + k)
back_at [] n k h = (omega arith, omega arith)
back_at (r ∷ rs) n zero h = let b = back n r (and_left (is_back n r) (are_back (suc n) rs) h) in (omega (arith, b.0), omega (arith, b.1))
back_at (r ∷ rs) n (suc k) h = let b = back_at rs (suc n) k (and_right (is_back n r) (are_back (suc n) rs) h) in (omega (arith, b.0), omega (arith, b.1))

row_back : (n : ℕ) → 0 < n → ((row_no n).option ≤ n) × ((row_no n).start ≤ n)
unfolding row_no row_at
row_back n some = let b = back_at rows 1 (n - 1) rows_back in (omega (arith, b.0), omega (arith, b.1))

-- ---- so the words up to n tell what each of them shows
module _ (s t : List ℕ) where
  -- word 0 is read as word 1
  same_from_0 : (n : ℕ) → 0 < n → SameWords s t n → (m : ℕ) → m ≤ n → word_no t m ≡ word_no s m
  unfolding word_no
  same_from_0 n some same zero l = same 1 (omega arith) (omega arith)
  same_from_0 n some same (suc m) l = same (suc m) (omega arith) l

  shows_alone : (k n : ℕ) → 0 < n → SameWords s t n → shows_no k t n ≡ shows_no k s n
  unfolding shows_no is_heeded is_shown number_no time_no
  shows_alone k n some same =
      let to = same_from_0 n some same in
      let b = row_back n some in
      rw (to (row_no n).option b.0, to (row_no n).start b.1, to (n - 1 + 1) (omega (arith, some)), to (n - 1) (omega arith), to n (omega arith))

  fewer : (n : ℕ) → SameWords s t (suc n) → SameWords s t n
  fewer n same m some l = same m some (omega (arith, l))

  any_alone : (k n : ℕ) → SameWords s t n → any_shows k t n ≡ any_shows k s n
  unfolding any_shows
  any_alone k zero same = refl
  any_alone k (suc n) same = rw (any_alone k n (fewer n same), shows_alone k (suc n) (omega arith) same)

  lowest_alone : (n : ℕ) → SameWords s t n → lowest_of t n ≡ lowest_of s n
  unfolding lowest_of
  lowest_alone n same = rw (any_alone 2 n same, any_alone 3 n same, any_alone 4 n same, any_alone 5 n same)

-- ---- what holds of every walk
sweep_holds : (s : List ℕ) (n : ℕ) → SweepHolds s n (swept_of s n)
unfolding swept_of
sweep_holds s n =
    record {
      counts = counts;
      keeps = keeps;
      alone = λ whole fits t same. keeps whole fits ∙ sym (lowest_alone s t n same);
      on_the_way = λ whole fits. let at = on_the_way s n fits in (at.0 ∙ sym (counts whole fits), at.1 ∙ sym (keeps whole fits));
      refuses = λ e. ap (λ (m : ℕ). (swept_of s m).kept) e ∙ swept_refusal s;
    }
  where
    counts : length s ≡ 416 → n ≤ 104 → (swept_of s n).count ≡ n
    counts whole fits = rw (eq-eqb (length s) 416 whole) (up_to_is n fits)

    keeps : length s ≡ 416 → n ≤ 104 → (swept_of s n).kept ≡ lowest_of s n
    keeps whole fits = rw (eq-eqb (length s) 416 whole) (ap (lowest_of s) (up_to_is n fits))

pub holds_of : (s : List ℕ) (n : ℕ) (r : Swept) → r ≡ swept_of s n → SweepHolds s n r
holds_of s n r is = subst (SweepHolds s n) (sym is) (sweep_holds s n)
