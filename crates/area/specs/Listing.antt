-- Document 01's listing: a frame in bytes, and what it prints, run from a fresh state: "0 00000000 43960000 00000000 00000000 11".
use Rattle.std.specs.Prelude.{◌≡◌, ℕ, ◌+◌, true, false, List, [], ◌∷◌, ◌++◌, replicate}
use Rattle.std.specs.Prelude.{refl}
use Rattle.std.specs.Float.{inf, binary32}
use Rattle.std.specs.Float.Ieee.{of_bits, of_int}
use Rattle.numbers.specs.Table.{Table}
use Rattle.numbers.specs.F32.{num, zero}
use Rattle.words.specs.Words.{bytes_of}
use Rattle.area.specs.State.{clamped_offset}
use Rattle.area.specs.Layout as At
use Rattle.area.specs.Frame.{word_no}
use Rattle.area.specs.Steps.{step_at, is_accepted}
use Rattle.area.specs.Moved.{is_moved, is_moved_by_words}
use Rattle.area.specs.declared.state.State.{State}

-- ---- the words of its numbers
abbrev f1 : ℕ
f1 = 0x3f80_0000

abbrev f64 : ℕ
f64 = 0x4280_0000

abbrev f100 : ℕ
f100 = 0x42c8_0000

abbrev f180 : ℕ
f180 = 0x4334_0000

abbrev f200 : ℕ
f200 = 0x4348_0000

abbrev f300 : ℕ
f300 = 0x4396_0000

abbrev f400 : ℕ
f400 = 0x43c8_0000

abbrev infinite : ℕ
infinite = 0x7f80_0000

-- each is the word of its number
record Words : Type 0 where
  pub is_1 : of_bits binary32 f1 ≡ num 1
  pub is_64 : of_bits binary32 f64 ≡ num 64
  pub is_100 : of_bits binary32 f100 ≡ num 100
  pub is_180 : of_bits binary32 f180 ≡ num 180
  pub is_200 : of_bits binary32 f200 ≡ num 200
  pub is_300 : of_bits binary32 f300 ≡ num 300
  pub is_400 : of_bits binary32 f400 ≡ num 400
  pub is_infinite : of_bits binary32 infinite ≡ inf false

words : Words
unfolding of_bits of_int
words = record { is_1 = refl; is_64 = refl; is_100 = refl; is_180 = refl; is_200 = refl; is_300 = refl; is_400 = refl; is_infinite = refl }

-- ---- the frame

-- "all other words 0"
abbrev zeros : ℕ → List ℕ
zeros n = replicate n 0

-- 1-26: "vertical only, both shrinking", "max_size infinite", "minimum 64", from word 9 on "hidden bars", from 24 on "stick on y"
abbrev settings : List ℕ
settings = 0 ∷ 1 ∷ 1 ∷ 1 ∷ infinite ∷ infinite ∷ f64 ∷ f64 ∷ (zeros 15 ++ (0 ∷ 1 ∷ 0 ∷ []))

-- 27-39: "floating, width 0", from word 37 on "decay_time, stop_distance"
abbrev style : List ℕ
style = 1 ∷ (zeros 9 ++ (f1 ∷ f1 ∷ 0 ∷ []))

-- 40-81: "Available (0, 0) to (200, 100), clip the same"
abbrev host : List ℕ
host = 0 ∷ 0 ∷ f200 ∷ f100 ∷ 0 ∷ 0 ∷ f200 ∷ f100 ∷ zeros 34

-- 82-104: "content 180 by 400", word 88 "the scroll delta's points per second 1"
abbrev content : List ℕ
content = f180 ∷ f400 ∷ (zeros 4 ++ (f1 ∷ zeros 16))

-- its 104 words
abbrev pub listing_words : List ℕ
listing_words = settings ++ (style ++ (host ++ content))

-- its 416 bytes
unfoldable pub listing : List ℕ
unfolding bytes_of
listing = bytes_of listing_words

-- ---- what it shows, from the state s, under any table: nothing moves in it, so no entry is read
pub record ListingShown (table : Table) (s : State) : Type 0 where
  -- as printed: the refusal, the stored offset, the velocity, the stuck flags
  pub accepted : is_accepted (step_at table s listing) ≡ true
  pub stores : (step_at table s listing).state.offset ≡ zero ∷ of_bits binary32 f300 ∷ []
  pub rests : (step_at table s listing).state.vel ≡ zero ∷ zero ∷ []
  pub stuck : (step_at table s listing).state.scroll_stuck_to_end ≡ true ∷ true ∷ []
  -- what demand 3's laws ask of a frame: rubber band off; sticking on y; no move, in either reading
  pub no_rubber_band : word_no listing At.kinetic_rubber_band ≡ 0
  pub sticks : word_no listing (At.stick_to_end + 1) ≡ 1
  pub unmoved : (is_moved table s listing 0 ≡ false) × (is_moved table s listing 1 ≡ false)
  pub unmoved_by_words : (is_moved_by_words listing 0 ≡ false) × (is_moved_by_words listing 1 ≡ false)
  -- the shown offset: on y the list's end, 300
  pub shows : clamped_offset (step_at table s listing).state ≡ zero ∷ of_bits binary32 f300 ∷ []
