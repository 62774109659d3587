-- Checks 2 to 5 in one walk over the words, in order: after the first n words, how many they are, and the number kept, "the lowest of
-- 2 to 5 that these alone show, or 0".
use Rattle.std.specs.Prelude.{◌≡◌, ℕ, zero, suc, ◌/◌, ◌<◌, ◌≤◌, true, cond, not, List, length, ◌==◌, nat_lt}
use Rattle.refusals.specs.Refusal.{number_in}
use Rattle.area.specs.declared.sweep.Swept as Code
use Rattle.area.specs.Frame.{word_no}
use Rattle.area.specs.Checks.{shows_no, any_shows, lowest_where, frame_refusal}
use Rattle.area.specs.Marks.{walk_from}

-- after some words: how many they are, and the number kept
pub record Swept : Type 0 where
  pub count : ℕ
  pub kept : ℕ

abbrev pub numbers_of : Code.Swept → Swept
numbers_of r = record { count = r.count; kept = number_in r.kept }

-- the lowest of 2 to 5 that one of the first n words shows, or 0
unfoldable pub lowest_of : List ℕ → ℕ → ℕ
lowest_of s n = lowest_where (any_shows 2 s n) (any_shows 3 s n) (any_shows 4 s n) (any_shows 5 s n)

-- how many the first n words of a frame are: n, or 104 where n is more
unfoldable pub words_up_to : ℕ → ℕ
words_up_to n = cond (nat_lt n 104) n 104

-- the walk over the first n words; of a frame of another length it takes no word, and 1 applies
unfoldable pub swept_of : List ℕ → ℕ → Swept
swept_of s n =
    cond (not (length s == 416)) (record { count = 0; kept = 1 })
    (record { count = words_up_to n; kept = lowest_of s (words_up_to n) })

-- the first n words are the same
abbrev pub SameWords : List ℕ → List ℕ → ℕ → Type 0
SameWords s t n = (m : ℕ) → 0 < m → m ≤ n → word_no t m ≡ word_no s m

-- after n of its 104 words the walk over all of them has this count, and keeps this number
abbrev pub StandsAt : List ℕ → ℕ → Swept → Type 0
StandsAt s n r = let w = walk_from s 104 1 n (record { count = 0; mark = 0 }) in (w.count ≡ r.count) × (w.mark / 128 ≡ r.kept)

-- what holds of the walk over the first n words of a frame
pub record SweepHolds (s : List ℕ) (n : ℕ) (r : Swept) : Type 0 where
  pub counts : length s ≡ 416 → n ≤ 104 → r.count ≡ n
  pub keeps : length s ≡ 416 → n ≤ 104 → r.kept ≡ lowest_of s n
  -- "these alone": every frame that begins with them shows the same
  pub alone : length s ≡ 416 → n ≤ 104 → (t : List ℕ) → SameWords s t n → r.kept ≡ lowest_of t n
  -- the walk over all words, by which frames are refused, stands there after its first n words
  pub on_the_way : length s ≡ 416 → n ≤ 104 → StandsAt s n r
  -- over all of them it keeps what the checks tell, each tried on the whole frame before the next
  pub refuses : n ≡ 104 → r.kept ≡ frame_refusal s

-- the first of the words 1 to n after which the number kept is k, or 0
unfoldable pub first_keeping : List ℕ → ℕ → ℕ → ℕ
first_keeping s k zero = 0
first_keeping s k (suc n) =
    cond (first_keeping s k n == 0)
    (cond (lowest_of s (suc n) == k) (suc n) 0)
    (first_keeping s k n)

-- the first word after which the number kept is the frame's refusal of 2 to 5, or 0 where there is none
unfoldable pub bad_word : List ℕ → ℕ
bad_word s = cond (nat_lt 1 (frame_refusal s)) (first_keeping s (frame_refusal s) 104) 0

-- what holds of it: the word is there exactly where 2 to 5 refuses the frame, and shows that number itself
pub record BadWordHolds (s : List ℕ) (n : ℕ) : Type 0 where
  pub none : frame_refusal s ≤ 1 → n ≡ 0
  pub some : 1 < frame_refusal s → (0 < n) × (n ≤ 104)
  pub shows : 1 < frame_refusal s → shows_no (frame_refusal s) s n ≡ true
