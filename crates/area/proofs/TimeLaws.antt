-- A time that was written is read back; so a run's next time is the sum, which is not less. Assumes nothing.
use Rattle.std.specs.Prelude.{◌≡◌, ℕ, ◌+◌, ◌-◌, ◌*◌, ◌/◌, ◌%◌, ◌<◌, ◌≤◌, true, false, T, List, length}
use native.Mathlib.Nat.{div-add-mod}
use native.Mathlib.Omega.{arith}
use mathlib.Core.Path.{ap, ◌∙◌}
use borrow.Author.Tests.{not-false}
use lib.Dec.{lit<}
use lib.Ieee.{Float, binary64, fits, of_bits, to_bits, add, lt, le}
use lib.Ieee.Fits.{add-fits}
use lib.Ieee.Bits.{of_bits-to_bits, of_bits-fits, to_bits-lt}
use Rattle.words.specs.Words.{put_at, word_at}
use Rattle.words.proofs.ReadLaws.{written_word}
use Rattle.numbers.specs.F32 as F32
use Rattle.numbers.specs.Scalar.{is_finite}
use Rattle.numbers.proofs.MonotoneLaws.{add_more}
use Rattle.numbers.proofs.WithinLaws.{le_trans, not_below}
use Rattle.area.specs.Layout as At
use Rattle.area.specs.Frame.{word_no, time_no, time_words}
use Rattle.area.specs.SettlingRun.{is_no_increment, advanced}
use Rattle.numbers.proofs.TestLaws.{and_left}

-- ---- the two words of a time
pub low_small : (b : ℕ) → b % 4294967296 < 4294967296
low_small b = omega arith

pub high_small : (t : Float) → T (fits binary64 t) → to_bits binary64 t / 4294967296 < 4294967296
high_small t held = halved (to_bits binary64 t) (to_bits-lt binary64 t held)
  where
    halved : (b : ℕ) → b < 18446744073709551616 → b / 4294967296 < 4294967296
    halved b small = omega (arith, small)

pub time_read_back : (s : List ℕ) (n : ℕ) (t : Float) → T (fits binary64 t) → word_no s n ≡ to_bits binary64 t % 4294967296
    → word_no s (n + 1) ≡ to_bits binary64 t / 4294967296 → time_no s n ≡ t
unfolding time_no
time_read_back s n t held low high =
    ap (λ (w : ℕ). of_bits binary64 (word_no s (n + 1) * 4294967296 + w)) low
    ∙ ap (λ (w : ℕ). of_bits binary64 (w * 4294967296 + to_bits binary64 t % 4294967296)) high
    ∙ ap (of_bits binary64) (joined (to_bits binary64 t))
    ∙ of_bits-to_bits binary64 t held
  where
    joined : (b : ℕ) → b / 4294967296 * 4294967296 + b % 4294967296 ≡ b
    joined b = omega (arith, div-add-mod b 4294967296)

-- written over the words from at on, and read there
module _ (at : ℕ) (t : Float) (held : T (fits binary64 t)) (bytes : List ℕ) (room : 4 * at + 8 ≤ length bytes) where
  pub time_written : time_no (put_at at (time_words t) bytes) (at + 1) ≡ t
  unfolding word_no
  time_written =
      time_read_back (put_at at (time_words t) bytes) (at + 1) t held
      (ap (word_at (put_at at (time_words t) bytes)) (here at) ∙ written_word at (time_words t) bytes room 0 (lit< tt) (low_small _))
      (ap (word_at (put_at at (time_words t) bytes)) (there at) ∙ written_word at (time_words t) bytes room 1 (lit< tt) (high_small t held))
    where
      here : (at : ℕ) → at + 1 - 1 ≡ at + 0
      here at = omega arith

      there : (at : ℕ) → at + 1 + 1 - 1 ≡ at + 1
      there at = omega arith

-- ---- a frame whose time has moved on
pub time_of_next : (increment : Float) (bytes : List ℕ) → length bytes ≡ 416
    → time_no (advanced increment bytes) At.time ≡ add binary64 (time_no bytes At.time) increment
unfolding advanced
time_of_next increment bytes whole =
    let sum = add binary64 (time_no bytes At.time) increment in
    time_written 51 sum (add-fits binary64 (time_no bytes At.time) increment) bytes (omega (arith, whole))

time_fits : (bytes : List ℕ) (n : ℕ) → T (fits binary64 (time_no bytes n))
unfolding time_no
time_fits bytes n = of_bits-fits binary64 _

pub next_not_less : (increment : Float) (bytes : List ℕ) → length bytes ≡ 416 → is_no_increment increment ≡ false → is_finite (time_no bytes At.time) ≡ true
    → lt (time_no (advanced increment bytes) At.time) (time_no bytes At.time) ≡ false
unfolding le lt of_bits
next_not_less increment bytes whole some finite =
    let forward = and_left (le (of_bits binary64 0) increment) _ (not-false _ some) in
    let least : T (le F32.zero increment) = le_trans F32.zero (of_bits binary64 0) increment tt (rw forward tt) in
    ap (λ (t : Float). lt t (time_no bytes At.time)) (time_of_next increment bytes whole)
    ∙ not_below (time_no bytes At.time) _ (add_more binary64 (time_no bytes At.time) increment (time_fits bytes At.time) finite least)
