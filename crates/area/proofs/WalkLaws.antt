-- The walk over the first n words keeps the lowest number that they show, with the word at which it was kept first; over all of them it tells
-- what checks 2 to 5 tell. Assumes nothing.
use Rattle.std.specs.Prelude.{◌≡◌, ℕ, zero, suc, ◌+◌, ◌-◌, ◌*◌, ◌/◌, ◌%◌, ◌<◌, ◌≤◌, Bool, true, false, cond, not, ◌||◌, eqb, ltb, leb, List, length}
use mathlib.Core.Path.{refl, sym, ap, ◌∙◌, subst}
use native.Mathlib.Nat.{add-zero, zero-add, add-suc, suc-add, add_assoc, sub-zero}
use native.Mathlib.Omega.{arith}
use borrow.Author.Tests.{eqb-true, eqb-false, not-false, ne_eqb, eq-eqb, ltb-true, ltb-false, lt-ltb, le-ltb, leb-true, leb-false, le-leb, lt-leb}
use Rattle.area.specs.Layout.{row_no}
use Rattle.area.specs.Checks.{shows_no, any_shows, lowest_where, frame_refusal}
use Rattle.area.specs.Sweep.{lowest_of, words_up_to, swept_of}
use Rattle.area.specs.Marks.{Sweeping, taking_words, shown_by, kept_at, kept_with, sweep_from, counted_of, walk_from, walk_of}
use Rattle.numbers.proofs.TestLaws.{either}

-- ---- the lowest number with one word more

-- the lower of two numbers, of which 0 is none
unfoldable pub lower_of : ℕ → ℕ → ℕ
lower_of low k = cond (eqb k 0) low (cond (eqb low 0) k (cond (ltb k low) k low))

-- k is the lower of the two, 0 being none
abbrev Least : ℕ → ℕ → Type 0
Least k x = (lower_of k x ≡ k) × (lower_of x k ≡ k)

lower_cond : (k : ℕ) (a b : Bool) (x y : ℕ) → Least k k → Least k x → Least k y →
    lower_of (cond a k x) (cond b k y) ≡ cond (a || b) k (lower_of x y)
lower_cond k true true x y h hx hy = h.0
lower_cond k true false x y h hx hy = hy.0
lower_cond k false true x y h hx hy = hx.1
lower_cond k false false x y h hx hy = refl

lowest_step : (a b c d a' b' c' d' : Bool) →
    lower_of (lowest_where a b c d) (lowest_where a' b' c' d') ≡ lowest_where (a || a') (b || b') (c || c') (d || d')
unfolding lower_of
lowest_step a b c d a' b' c' d' =
    let five : (k : ℕ) → Least k 5 → Least k 0 → (t : Bool) → Least k (cond t 5 0) = λ k p q t. either (Least k) t 5 0 p q in
    let four : (k : ℕ) → Least k 4 → Least k 5 → Least k 0 → (t u : Bool) → Least k (cond t 4 (cond u 5 0))
    = λ k o p q t u. either (Least k) t 4 (cond u 5 0) o (five k p q u) in
    let three : (t u v : Bool) → Least 2 (cond t 3 (cond u 4 (cond v 5 0)))
    = λ t u v. either (Least 2) t 3 (cond u 4 (cond v 5 0)) (refl, refl) (four 2 (refl, refl) (refl, refl) (refl, refl) u v) in
    lower_cond 2 a a' _ _ (refl, refl) (three b c d) (three b' c' d')
    ∙ ap (cond (a || a') 2)
    (lower_cond 3 b b' _ _ (refl, refl) (four 3 (refl, refl) (refl, refl) (refl, refl) c d) (four 3 (refl, refl) (refl, refl) (refl, refl) c' d')
    ∙ ap (cond (b || b') 3)
    (lower_cond 4 c c' _ _ (refl, refl) (five 4 (refl, refl) (refl, refl) d) (five 4 (refl, refl) (refl, refl) d')
    ∙ ap (cond (c || c') 4) (lower_cond 5 d d' 0 0 (refl, refl) (refl, refl) (refl, refl))))

-- what word n shows
abbrev pub shown_no : List ℕ → ℕ → ℕ
shown_no s n = shown_by (row_no n) s n

pub lowest_next : (s : List ℕ) (n : ℕ) → lower_of (lowest_of s n) (shown_no s (suc n)) ≡ lowest_of s (suc n)
unfolding lowest_of any_shows shows_no shown_by
lowest_next s n =
    lowest_step
    (any_shows 2 s n) (any_shows 3 s n) (any_shows 4 s n) (any_shows 5 s n)
    (shows_no 2 s (suc n)) (shows_no 3 s (suc n)) (shows_no 4 s (suc n)) (shows_no 5 s (suc n))

-- ---- its word

-- where the number kept after n words was kept first: where it changed last
abbrev pub since : List ℕ → ℕ → ℕ
since s zero = 0
since s (suc n) = cond (eqb (lowest_of s (suc n)) (lowest_of s n)) (since s n) (suc n)

-- one number kept and the next: no change, or the first, or lower
pub data Change (low low' : ℕ) : Type 0 where
  same : low' ≡ low → Change low low'
  first : low ≡ 0 → 0 < low' → Change low low'
  lower : low' < low → 0 < low' → Change low low'

change : (low k : ℕ) → Change low (lower_of low k)
unfolding lower_of
change low k = go (eqb k 0) refl (eqb low 0) refl (ltb k low) refl
  where
    go : (p : Bool) → eqb k 0 ≡ p → (q : Bool) → eqb low 0 ≡ q → (r : Bool) → ltb k low ≡ r → Change low (cond p low (cond q k (cond r k low)))
    go true ep q eq r er = same refl
    go false ep true eq r er = first (eqb-true low 0 eq) (omega (arith, eqb-false k 0 ep))
    go false ep false eq true er = lower (ltb-true k low er) (omega (arith, eqb-false k 0 ep))
    go false ep false eq false er = same refl

pub next_change : (s : List ℕ) (n : ℕ) → Change (lowest_of s n) (lowest_of s (suc n))
next_change s n = subst (Change (lowest_of s n)) (lowest_next s n) (change (lowest_of s n) (shown_no s (suc n)))

-- the word is among those taken; there is none where no number is kept, and one where one is
pub since_within : (s : List ℕ) (n : ℕ) → since s n ≤ n
since_within s zero = omega arith
since_within s (suc n) =
    either (λ (w : ℕ). w ≤ suc n) (eqb (lowest_of s (suc n)) (lowest_of s n)) (since s n) (suc n) (omega (arith, since_within s n)) (omega arith)

pub since_none : (s : List ℕ) (n : ℕ) → lowest_of s n ≡ 0 → since s n ≡ 0
since_none s zero none = refl
since_none s (suc n) none = go (next_change s n) (since_none s n)
  where
    go : Change (lowest_of s n) (lowest_of s (suc n)) → (lowest_of s n ≡ 0 → since s n ≡ 0) → since s (suc n) ≡ 0
    go (same e) before = rw (eq-eqb (lowest_of s (suc n)) (lowest_of s n) e) (before (sym e ∙ none))
    go (first e some) before = absurd (omega (arith, none, some))
    go (lower l some) before = absurd (omega (arith, none, some))

pub since_some : (s : List ℕ) (n : ℕ) → 0 < lowest_of s n → 0 < since s n
unfolding lowest_of any_shows
since_some s zero some = absurd (omega (arith, some))
since_some s (suc n) some = go (eqb (lowest_of s (suc n)) (lowest_of s n)) refl (since_some s n)
  where
    go : (b : Bool) → eqb (lowest_of s (suc n)) (lowest_of s n) ≡ b → (0 < lowest_of s n → 0 < since s n) → 0 < cond b (since s n) (suc n)
    go true e before = before (omega (arith, some, eqb-true (lowest_of s (suc n)) (lowest_of s n) e))
    go false e before = omega arith

-- ---- the mark after n words
abbrev pub mark_after : List ℕ → ℕ → ℕ
mark_after s n = lowest_of s n * 128 + since s n

-- one word more, of which `low` and w are what is kept so far
mark_step : (low w n k last : ℕ) → w ≤ n → n < 104 → (low ≡ 0 → w ≡ 0) → ltb last (suc n) ≡ false →
    kept_with (low * 128 + w) last (suc n) k ≡ lower_of low k * 128 + cond (eqb (lower_of low k) low) w (suc n)
unfolding kept_with kept_at lower_of
mark_step low w n k last within fits none goes = go (eqb k 0) refl (eqb low 0) refl (ltb k low) refl
  where
    go : (p : Bool) → eqb k 0 ≡ p → (q : Bool) → eqb low 0 ≡ q → (r : Bool) → ltb k low ≡ r →
        kept_with (low * 128 + w) last (suc n) k ≡ lower_of low k * 128 + cond (eqb (lower_of low k) low) w (suc n)
    go true ep q eq r er = rw (ep, eq-eqb low low refl)
    go false ep true eq r er =
        let zero_is = eqb-true low 0 eq in
        let w_is = none zero_is in
        rw (ep, goes, eq, ne_eqb k low (λ e. eqb-false k 0 ep (e ∙ zero_is)), eq-eqb (low * 128 + w) 0 (omega (arith, zero_is, w_is)))
    go false ep false eq true er =
        let l = ltb-true k low er in
        rw (ep, goes, eq, er, ne_eqb k low (λ e. omega (arith, e, l)), ne_eqb (low * 128 + w) 0 (λ e. omega (arith, e, l)), lt-ltb (k * 128 + suc n) (low * 128 + w) (omega (arith, l, fits)))
    go false ep false eq false er =
        let l = ltb-false k low er in
        rw (ep, goes, eq, er, eq-eqb low low refl, ne_eqb (low * 128 + w) 0 (λ e. eqb-false low 0 eq (omega (arith, e))), le-ltb (k * 128 + suc n) (low * 128 + w) (omega (arith, l, within)))

mark_next : (s : List ℕ) (last n : ℕ) → n < 104 → ltb last (suc n) ≡ false →
    kept_with (mark_after s n) last (suc n) (shown_no s (suc n)) ≡ mark_after s (suc n)
mark_next s last n fits goes =
    mark_step (lowest_of s n) (since s n) n (shown_no s (suc n)) last (since_within s n) fits (since_none s n) goes
    ∙ ap (λ (low : ℕ). low * 128 + cond (eqb low (lowest_of s n)) (since s n) (suc n)) (lowest_next s n)

-- ---- the walk
abbrev cut : ℕ → ℕ → ℕ
cut last n = cond (ltb last n) last n

after_last : (mark last n k : ℕ) → ltb last n ≡ true → kept_with mark last n k ≡ mark
unfolding kept_with kept_at
after_last mark last n k e = rw e (either (λ (m : ℕ). m ≡ mark) (eqb k 0) mark mark refl refl)

sweep_next : (s : List ℕ) (last n : ℕ) → n < 104 →
    kept_with (mark_after s (cut last n)) last (suc n) (shown_no s (suc n)) ≡ mark_after s (cut last (suc n))
sweep_next s last n fits = go (ltb last (suc n)) refl
  where
    go : (b : Bool) → ltb last (suc n) ≡ b → kept_with (mark_after s (cut last n)) last (suc n) (shown_no s (suc n)) ≡ mark_after s (cond b last (suc n))
    go true e = after_last (mark_after s (cut last n)) last (suc n) (shown_no s (suc n)) e ∙ ap (mark_after s) (ends (ltb last n) refl)
      where
        ends : (b : Bool) → ltb last n ≡ b → cond b last n ≡ last
        ends true h = refl
        ends false h = omega (arith, ltb-true last (suc n) e, ltb-false last n h)
    go false e =
        ap (λ (m : ℕ). kept_with (mark_after s m) last (suc n) (shown_no s (suc n))) (rw (le-ltb last n (omega (arith, ltb-false last (suc n) e))))
        ∙ mark_next s last n fits e

sweep_marks : (s : List ℕ) (last n k : ℕ) → n + k ≤ 104 → sweep_from s last (suc n) k (mark_after s (cut last n)) ≡ mark_after s (cut last (n + k))
unfolding sweep_from
sweep_marks s last n zero fits = rw add-zero
sweep_marks s last n (suc k) fits =
    ap (sweep_from s last (suc (suc n)) k) (sweep_next s last n (omega (arith, fits)))
    ∙ sweep_marks s last (suc n) k (omega (arith, fits))
    ∙ rw (add-suc, suc-add)

-- over the first n words, or all
pub sweep_is : (s : List ℕ) (n : ℕ) → sweep_from s n 1 104 0 ≡ mark_after s (words_up_to n)
unfolding lowest_of any_shows words_up_to
sweep_is s n = ap (sweep_from s n 1 104) start ∙ sweep_marks s n 0 104 (omega arith)
  where
    start : 0 ≡ mark_after s (cut n 0)
    start = rw (le-ltb n 0 (omega arith))

-- ---- the count

-- two fields in a row
counted_more : (count last a b : ℕ) → counted_of (counted_of count last a) last b ≡ counted_of count last (a + b)
unfolding counted_of
counted_more count last a b = go (leb last count) refl (ltb (last - count) a) refl (leb last (count + a)) refl (ltb (last - count) (a + b)) refl
  where
    go : (p : Bool) → leb last count ≡ p → (q : Bool) → ltb (last - count) a ≡ q → (r : Bool) → leb last (count + a) ≡ r →
        (t : Bool) → ltb (last - count) (a + b) ≡ t → counted_of (counted_of count last a) last b ≡ counted_of count last (a + b)
    go true ep q eq r er t et = rw (ep, ep)
    go false ep true eq r er true et = rw (ep, eq, et, le-leb last last (omega arith))
    go false ep true eq r er false et = absurd (omega (arith, ltb-true (last - count) a eq, ltb-false (last - count) (a + b) et))
    go false ep false eq true er true et =
        rw (ep, eq, er, et) (omega (arith, leb-true last (count + a) er, ltb-false (last - count) a eq, leb-false last count ep))
    go false ep false eq true er false et =
        rw (ep, eq, er, et) (omega (arith, leb-true last (count + a) er, ltb-false (last - count) (a + b) et, leb-false last count ep))
    go false ep false eq false er true et =
        rw (ep, eq, er, et, lt-ltb (last - (count + a)) b (omega (arith, ltb-true (last - count) (a + b) et, leb-false last (count + a) er)))
    go false ep false eq false er false et =
        rw (ep, eq, er, et, le-ltb (last - (count + a)) b (omega (arith, ltb-false (last - count) (a + b) et)), add_assoc)

counted_is : (n : ℕ) → counted_of 0 n 104 ≡ words_up_to n
unfolding counted_of words_up_to
counted_is zero = refl
counted_is (suc n) = rw (lt-leb (suc n) 0 (omega arith), sub-zero)

-- ---- field after field

sweep_more : (s : List ℕ) (last n k j mark : ℕ) → sweep_from s last (n + k) j (sweep_from s last n k mark) ≡ sweep_from s last n (k + j) mark
unfolding sweep_from
sweep_more s last n zero j mark = rw (add-zero, zero-add)
sweep_more s last n (suc k) j mark = rw (add-suc, ← suc-add n k, suc-add k j) (sweep_more s last (suc n) k j (kept_with mark last n (shown_no s n)))

-- j words after k
pub part : (w before after : Sweeping) (n k j : ℕ) → before ≡ taking_words w n k → after ≡ taking_words before (n + k) j → after ≡ taking_words w n (k + j)
unfolding walk_from
part w before after n k j before_is after_is = after_is ∙ rw (before_is, counted_more, sweep_more)

-- ---- the number and the word of a mark
kept_is : (low w : ℕ) → w < 128 → (low * 128 + w) / 128 ≡ low
kept_is low w h = omega (arith, h)

word_is : (low w : ℕ) → w < 128 → (low * 128 + w) % 128 ≡ w
word_is low w h = omega (arith, h)

number_kept : (s : List ℕ) (n : ℕ) → n ≤ 104 → mark_after s n / 128 ≡ lowest_of s n
number_kept s n fits = kept_is (lowest_of s n) (since s n) (omega (arith, since_within s n, fits))

pub word_kept : (s : List ℕ) (n : ℕ) → n ≤ 104 → mark_after s n % 128 ≡ since s n
word_kept s n fits = word_is (lowest_of s n) (since s n) (omega (arith, since_within s n, fits))

pub up_to_is : (n : ℕ) → n ≤ 104 → words_up_to n ≡ n
unfolding words_up_to
up_to_is n fits = go (ltb n 104) refl
  where
    go : (b : Bool) → ltb n 104 ≡ b → cond b n 104 ≡ n
    go true e = refl
    go false e = omega (arith, fits, ltb-false n 104 e)

up_to : (n : ℕ) → words_up_to n ≤ 104
unfolding words_up_to
up_to n = go (ltb n 104) refl
  where
    go : (b : Bool) → ltb n 104 ≡ b → cond b n 104 ≤ 104
    go true e = omega (arith, ltb-true n 104 e)
    go false e = omega arith

-- ---- what checks 2 to 5 tell
pub whole_is : (s : List ℕ) → not (eqb (length s) 416) ≡ false → length s ≡ 416
whole_is s h = eqb-true (length s) 416 (not-false (eqb (length s) 416) h)

pub lowest_is : (s : List ℕ) → not (eqb (length s) 416) ≡ false → lowest_of s 104 ≡ frame_refusal s
unfolding frame_refusal lowest_of
lowest_is s whole = rw whole

-- ---- of any bytes
pub swept_is : (s : List ℕ) (n : ℕ) → record { count = (walk_of s n).count; kept = (walk_of s n).mark / 128 } ≡ swept_of s n
unfolding walk_of walk_from swept_of
swept_is s n = go (not (eqb (length s) 416)) refl
  where
    go : (b : Bool) → not (eqb (length s) 416) ≡ b → record { count = (walk_of s n).count; kept = (walk_of s n).mark / 128 } ≡ swept_of s n
    go true e = rw e
    go false e = rw (e, counted_is n, sweep_is s n, number_kept s (words_up_to n) (up_to n))

-- the walk over all words, after n of them
pub on_the_way : (s : List ℕ) (n : ℕ) → n ≤ 104 →
    ((walk_from s 104 1 n (record { count = 0; mark = 0 })).count ≡ n) × ((walk_from s 104 1 n (record { count = 0; mark = 0 })).mark / 128 ≡ lowest_of s n)
unfolding walk_from counted_of lowest_of any_shows
on_the_way s n fits = (
  rw (go (ltb 104 n) refl),
  rw (sweep_marks s 104 0 n (omega (arith, fits)), zero-add, le-ltb 104 n fits) (number_kept s n fits),
)
  where
    go : (b : Bool) → ltb 104 n ≡ b → cond b 104 (0 + n) ≡ n
    go true e = absurd (omega (arith, fits, ltb-true 104 n e))
    go false e = zero-add n

-- over all words it keeps the refusal
pub swept_refusal : (s : List ℕ) → (swept_of s 104).kept ≡ frame_refusal s
unfolding swept_of words_up_to lowest_of frame_refusal
swept_refusal s = go (not (eqb (length s) 416)) refl
  where
    go : (b : Bool) → not (eqb (length s) 416) ≡ b → (swept_of s 104).kept ≡ frame_refusal s
    go true e = rw e
    go false e = rw e
