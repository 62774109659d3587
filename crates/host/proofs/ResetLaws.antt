-- A reset on a record of any bytes: the state that it stands for is reset; and where it is the record of a state, that of the state reset is
-- left. Assumes nothing.
use mathlib.Core.Path.{◌≡◌, refl, sym, ap, ◌∙◌}
use mathlib.Core.Bool.{true}
use mathlib.Core.Logic.{inl}
use mathlib.Core.List.{List, ◌++◌}
use Prim.Native.Nat.{ℕ, ◌+◌, ◌-◌, ◌*◌, ◌≤◌}
use native.Mathlib.Omega.{arith}
use borrow.Author.Tests.{ltb-true}
use lib.Dec.{ltb}
use lib.ListN.{length}
use lib.Ieee.{Float, binary64}
use lib.Ieee.Bits.{of_bits-fits}
use Rattle.words.specs.Words.{bytes_of, put_at}
use Rattle.words.proofs.KeptLaws.{length_bytes, kept_word}
use Rattle.area.specs.State.{no_time}
use Rattle.area.specs.Frame.{word_no, number_no, flag_no, time_no, time_words, pair_no, flags_no, pos2_no, rect_no, option_no, maybe_number_no, maybe_rect_no}
use Rattle.area.specs.Clock.{reset_of}
use Rattle.area.specs.declared.state.State.{State}
use Rattle.area.proofs.TimeLaws.{time_written}
use Rattle.area.specs.Parts.{target_no}
use Rattle.records.specs.Record.{maybe_target_no, state_words, record_of, state_of}
use Rattle.host.specs.Calls.{reset_on}
use Rattle.records.proofs.PartLaws.{words_of, bytes_append, words_append, put_after, total_is}
use Rattle.records.proofs.RecordLaws.{field_parts, time_parts, state_parts, field_right, state_right, state_words_lem}

-- ---- any bytes
module _ (s : List ℕ) (long : length s ≡ 156) where
  abbrev left : List ℕ
  left = reset_on s

  room : 4 * 37 + 8 ≤ length s
  room = omega (arith, long)

  -- the Rust's own words stay
  stays : (n : ℕ) → ltb n 38 ≡ true → word_no left n ≡ word_no s n
  unfolding word_no reset_on
  stays n h = kept_word 37 (time_words no_time) s room (n - 1) (inl (omega (arith, ltb-true n 38 h)))

  time_cleared : time_no left 38 ≡ no_time
  unfolding reset_on
  time_cleared = time_written 37 no_time (of_bits-fits binary64 0) s room

  pair_stays : (n : ℕ) → ltb n 38 ≡ true → ltb (n + 1) 38 ≡ true → pair_no left n ≡ pair_no s n
  unfolding pair_no number_no
  pair_stays n h k = rw (stays n h, stays (n + 1) k)

  flags_stay : (n : ℕ) → ltb n 38 ≡ true → ltb (n + 1) 38 ≡ true → flags_no left n ≡ flags_no s n
  unfolding flags_no flag_no
  flags_stay n h k = rw (stays n h, stays (n + 1) k)

  targets_stay : (maybe_target_no left 5 ≡ maybe_target_no s 5) × (maybe_target_no left 11 ≡ maybe_target_no s 11)
  unfolding option_no target_no flag_no time_no number_no
  targets_stay = (
    rw (stays 5 refl, stays 6 refl, stays 7 refl, stays 8 refl, stays 9 refl, stays 10 refl),
    rw (stays 11 refl, stays 12 refl, stays 13 refl, stays 14 refl, stays 15 refl, stays 16 refl),
  )

  presses_stay : (maybe_number_no left 25 ≡ maybe_number_no s 25) × (maybe_number_no left 27 ≡ maybe_number_no s 27)
  unfolding option_no flag_no number_no
  presses_stay = (rw (stays 25 refl, stays 26 refl), rw (stays 27 refl, stays 28 refl))

  rect_stays : maybe_rect_no left 31 ≡ maybe_rect_no s 31
  unfolding option_no rect_no pos2_no flag_no number_no
  rect_stays = rw (stays 31 refl, stays 32 refl, stays 33 refl, stays 34 refl, stays 35 refl)

  pub reset_stands : state_of (reset_on s) ≡ reset_of (state_of s)
  unfolding state_of reset_of
  reset_stands = rw (
    pair_stays 1 refl refl,
    pair_stays 3 refl refl,
    targets_stay.0,
    targets_stay.1,
    flags_stay 17 refl refl,
    flags_stay 19 refl refl,
    flags_stay 21 refl refl,
    pair_stays 23 refl refl,
    presses_stay.0,
    presses_stay.1,
    flags_stay 29 refl refl,
    rect_stays,
    flags_stay 36 refl refl,
    time_cleared,
  )

-- ---- the record of a state

-- the bytes of the Rust's own fields, and of a time behind them
abbrev field_bytes : State → List ℕ
field_bytes s = bytes_of (words_of (field_parts s))

abbrev time_bytes : Float → List ℕ
time_bytes t = bytes_of (words_of (time_parts t))

record_parts : (s : State) → record_of s ≡ field_bytes s ++ time_bytes s.remembered_time
record_parts s =
    let time = time_parts s.remembered_time in
    ap bytes_of (sym (state_words_lem s) ∙ words_append (field_parts s) time) ∙ bytes_append (words_of (field_parts s)) (words_of time)

fields_long : (s : State) → length (field_bytes s) ≡ 148
fields_long s = omega (arith, length_bytes (words_of (field_parts s)), total_is (field_parts s) (field_right s))

record_long : (s : State) → length (record_of s) ≡ 156
unfolding state_words
record_long s = omega (arith, length_bytes (words_of (state_parts s)), total_is (state_parts s) (state_right s))

-- the time is written over the time
time_over : (t u : Float) (p : List ℕ) → length p ≡ 148 → put_at 37 (time_words t) (p ++ time_bytes u) ≡ p ++ time_bytes t
unfolding bytes_of
time_over t u p long = put_after 37 (time_words t) p (time_bytes u) long

reset_parts : (s : State) → (field_bytes (reset_of s) ≡ field_bytes s) × ((reset_of s).remembered_time ≡ no_time)
unfolding reset_of
reset_parts s = (refl, refl)

record_reset : (s : State) → reset_on (record_of s) ≡ record_of (reset_of s)
unfolding reset_on
record_reset s =
    let same = reset_parts s in
    ap (put_at 37 (time_words no_time)) (record_parts s)
    ∙ time_over no_time s.remembered_time (field_bytes s) (fields_long s)
    ∙ (λ i. sym same.0 i ++ time_bytes (sym same.1 i))
    ∙ sym (record_parts (reset_of s))

pub record ResetOf (s : List ℕ) : Type 0 where
  pub written : reset_on s ≡ record_of (reset_of (state_of s))
  pub stands : state_of (reset_on s) ≡ reset_of (state_of s)

pub reset_of_lem : (s : List ℕ) → s ≡ record_of (state_of s) → ResetOf s
reset_of_lem s is = record {
  written = ap reset_on is ∙ record_reset (state_of s);
  stands = reset_stands s (ap length is ∙ record_long (state_of s));
}
