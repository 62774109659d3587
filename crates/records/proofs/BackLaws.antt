-- A state that is written and read again is the same, and what is written is not damaged: between the calls nothing is lost.
use Rattle.std.specs.Prelude.{Option, Some, None}
use Rattle.numbers.specs.declared.shape.Rect.{Rect}
use Rattle.area.specs.declared.state.ScrollingToTarget.{ScrollingToTarget}
use Rattle.std.specs.Prelude.{Float}
use mathlib.Core.Path.{◌≡◌, refl, ap, ◌∙◌}
use mathlib.Core.Bool.{Bool, true, false}
use mathlib.Core.List.{List, [], ◌∷◌}
use Prim.Native.Nat.{ℕ, ◌+◌, ◌<◌}
use native.Mathlib.Omega.{arith}
use lib.Dec.{eqb, ltb, lit<}
use lib.ListN.{get_or}
use lib.Ieee.{Float, binary32, binary64, of_bits, to_bits}
use lib.Ieee.Bits.{of_bits-to_bits, to_bits-lt}
use Rattle.words.specs.Words.{word_at}
use Rattle.area.specs.Frame.{word_no, number_no, flag_no, pair_no, flags_no, pos2_no, rect_no, option_no, maybe_number_no, maybe_rect_no}
use Rattle.area.specs.Parts.{target_no}
use Rattle.area.specs.Pair.{flag}
use Rattle.area.specs.State.{no_target, no_press}
use Rattle.area.specs.declared.state.State.{State}
use Rattle.records.specs.Record.{option_words, span_words, rect_words, number_word, flag_word, number_words, flag_words, target_words, press_words, maybe_rect_words, state_words, record_of}
use Rattle.records.specs.Record.{maybe_target_no, state_of, is_no_flag, is_damaged}
use Rattle.records.specs.Held.{Is32, ArePair, AreFlags, IsTarget, AreTargets, IsPress, ArePresses, IsRect, IsHeld}
use Rattle.area.proofs.TimeLaws.{low_small, high_small, time_read_back}
use Rattle.records.proofs.RecordLaws.{state_parts, state_right}
use Rattle.records.proofs.ReadLaws.{start, part_at, Reads, reads}

-- ---- a number, a flag
pub number_small : (x : Float) → Is32 x → number_word x < 4294967296
number_small x held = to_bits-lt binary32 x held

pub number_back : (s : List ℕ) (n : ℕ) (x : Float) → Is32 x → word_no s n ≡ number_word x → number_no s n ≡ x
unfolding number_no
number_back s n x held word = ap (of_bits binary32) word ∙ of_bits-to_bits binary32 x held

pub flag_small : (b : Bool) → flag_word b < 4294967296
flag_small true = lit< tt
flag_small false = lit< tt

is_flag : (b : Bool) → eqb (flag_word b) 1 ≡ b
is_flag true = refl
is_flag false = refl

pub flag_back : (s : List ℕ) (n : ℕ) (b : Bool) → word_no s n ≡ flag_word b → flag_no s n ≡ b
unfolding flag_no
flag_back s n b word = ap (λ (w : ℕ). eqb w 1) word ∙ is_flag b

-- ---- pairs
pair_back : (s : List ℕ) (n : ℕ) (v : List Float) → ArePair v → Reads s n (number_words v) → pair_no s n ≡ v
unfolding pair_no
pair_back s n [] held read = absurd held
pair_back s n (x ∷ []) held read = absurd held
pair_back s n (x ∷ y ∷ []) held read = rw (
  number_back s n x held.0 (read 0 n (omega arith) (lit< tt) (number_small x held.0)),
  number_back s (n + 1) y held.1 (read 1 (n + 1) refl (lit< tt) (number_small y held.1)),
)
pair_back s n (x ∷ y ∷ z ∷ v) held read = absurd held

flags_back : (s : List ℕ) (n : ℕ) (v : List Bool) → AreFlags v → Reads s n (flag_words v) → flags_no s n ≡ v
unfolding flags_no
flags_back s n [] held read = absurd held
flags_back s n (a ∷ []) held read = absurd held
flags_back s n (a ∷ b ∷ []) held read = rw (
  flag_back s n a (read 0 n (omega arith) (lit< tt) (flag_small a)),
  flag_back s (n + 1) b (read 1 (n + 1) refl (lit< tt) (flag_small b)),
)
flags_back s n (a ∷ b ∷ c ∷ v) held read = absurd held

-- ---- options
target_back : (s : List ℕ) (n : ℕ) (t : Option ScrollingToTarget) → IsTarget t → Reads s n (target_words t) → maybe_target_no s n ≡ t
unfolding option_no target_no
target_back s n None held read = rw (flag_back s n false (read 0 n (omega arith) (lit< tt) (lit< tt)))
target_back s n (Some t) held read = rw (
  flag_back s n true (read 0 n (omega arith) (lit< tt) (lit< tt)),
  time_read_back s (n + 1) t.start held.0
      (read 1 (n + 1) refl (lit< tt) (low_small (to_bits binary64 t.start)))
      (read 2 (n + 1 + 1) (omega arith) (lit< tt) (high_small t.start held.0)),
  time_read_back s (n + 1 + 2) t.end held.1
      (read 3 (n + 1 + 2) (omega arith) (lit< tt) (low_small (to_bits binary64 t.end)))
      (read 4 (n + 1 + 2 + 1) (omega arith) (lit< tt) (high_small t.end held.1)),
  number_back s (n + 1 + 4) t.target_offset held.2 (read 5 (n + 1 + 4) (omega arith) (lit< tt) (number_small t.target_offset held.2)),
)

press_back : (s : List ℕ) (n : ℕ) (p : Option Float) → IsPress p → Reads s n (press_words p) → maybe_number_no s n ≡ p
unfolding option_no
press_back s n None held read = rw (flag_back s n false (read 0 n (omega arith) (lit< tt) (lit< tt)))
press_back s n (Some x) held read = rw (
  flag_back s n true (read 0 n (omega arith) (lit< tt) (lit< tt)),
  number_back s (n + 1) x held (read 1 (n + 1) refl (lit< tt) (number_small x held)),
)

rect_back : (s : List ℕ) (n : ℕ) (r : Option Rect) → IsRect r → Reads s n (maybe_rect_words r) → maybe_rect_no s n ≡ r
unfolding option_no rect_no pos2_no
rect_back s n None held read = rw (flag_back s n false (read 0 n (omega arith) (lit< tt) (lit< tt)))
rect_back s n (Some r) held read = rw (
  flag_back s n true (read 0 n (omega arith) (lit< tt) (lit< tt)),
  number_back s (n + 1) r.min.x held.0 (read 1 (n + 1) refl (lit< tt) (number_small r.min.x held.0)),
  number_back s (n + 1 + 1) r.min.y held.1 (read 2 (n + 1 + 1) (omega arith) (lit< tt) (number_small r.min.y held.1)),
  number_back s (n + 1 + 2) r.max.x held.2 (read 3 (n + 1 + 2) (omega arith) (lit< tt) (number_small r.max.x held.2)),
  number_back s (n + 1 + 2 + 1) r.max.y held.3 (read 4 (n + 1 + 2 + 1) (omega arith) (lit< tt) (number_small r.max.y held.3)),
)

targets_back : (s : List ℕ) (n m : ℕ) (v : List (Option ScrollingToTarget)) → AreTargets v → Reads s n (target_words (get_or v 0 no_target))
    → Reads s m (target_words (get_or v 1 no_target)) → maybe_target_no s n ∷ maybe_target_no s m ∷ [] ≡ v
targets_back s n m [] held first second = absurd held
targets_back s n m (t ∷ []) held first second = absurd held
targets_back s n m (t ∷ u ∷ []) held first second = rw (target_back s n t held.0 first, target_back s m u held.1 second)
targets_back s n m (t ∷ u ∷ w ∷ v) held first second = absurd held

presses_back : (s : List ℕ) (n m : ℕ) (v : List (Option Float)) → ArePresses v → Reads s n (press_words (get_or v 0 no_press))
    → Reads s m (press_words (get_or v 1 no_press)) → maybe_number_no s n ∷ maybe_number_no s m ∷ [] ≡ v
presses_back s n m [] held first second = absurd held
presses_back s n m (p ∷ []) held first second = absurd held
presses_back s n m (p ∷ q ∷ []) held first second = rw (press_back s n p held.0 first, press_back s m q held.1 second)
presses_back s n m (p ∷ q ∷ r ∷ v) held first second = absurd held

-- ---- the state
abbrev pub part : (s : State) (i : ℕ) → Reads (record_of s) (start (state_parts s) i + 1) (part_at (state_parts s) i)
unfolding state_words
part s i = reads (state_parts s) i (state_right s)

pub written_is_read : (s : State) → IsHeld s → state_of (record_of s) ≡ s
unfolding state_of
written_is_read s held =
    let b = record_of s in
    rw (
      pair_back b 1 s.offset held.offset (part s 0),
      pair_back b 3 s.max_offset held.max_offset (part s 1),
      targets_back b 5 11 s.offset_target held.offset_target (part s 2) (part s 3),
      flags_back b 17 s.show_scroll held.show_scroll (part s 4),
      flags_back b 19 s.content_is_too_large held.content_is_too_large (part s 5),
      flags_back b 21 s.scroll_bar_interaction held.scroll_bar_interaction (part s 6),
      pair_back b 23 s.vel held.vel (part s 7),
      presses_back b 25 27 s.scroll_start_offset_from_top_left held.scroll_start_offset_from_top_left (part s 8) (part s 9),
      flags_back b 29 s.scroll_stuck_to_end held.scroll_stuck_to_end (part s 10),
      rect_back b 31 s.interact_rect held.interact_rect (part s 11),
      flags_back b 36 s.bounced_this_momentum held.bounced_this_momentum (part s 12),
      time_read_back b 38 s.remembered_time held.remembered_time
          (part s 13 0 38 refl (lit< tt) (low_small (to_bits binary64 s.remembered_time)))
          (part s 13 1 39 refl (lit< tt) (high_small s.remembered_time held.remembered_time)),
    )

-- ---- no flag that is written is damaged, whatever the state
fine : (s : List ℕ) (n : ℕ) (b : Bool) → word_no s n ≡ flag_word b → is_no_flag (word_no s) n ≡ false
fine s n true word = ap (ltb 1) word
fine s n false word = ap (ltb 1) word

fine_first : (s : List ℕ) (n : ℕ) (v : List Bool) → Reads s n (flag_words v) → is_no_flag (word_no s) n ≡ false
fine_first s n v read = fine s n (flag v 0) (read 0 n (omega arith) (lit< tt) (flag_small (flag v 0)))

fine_second : (s : List ℕ) (n : ℕ) (v : List Bool) → Reads s n (flag_words v) → is_no_flag (word_no s) (n + 1) ≡ false
fine_second s n v read = fine s (n + 1) (flag v 1) (read 1 (n + 1) refl (lit< tt) (flag_small (flag v 1)))

fine_option : {A : Type 0} (count : ℕ) (words : A → List ℕ) (s : List ℕ) (n : ℕ) (o : Option A) → Reads s n (option_words count words o)
    → is_no_flag (word_no s) n ≡ false
fine_option count words s n None read = fine s n false (read 0 n (omega arith) (omega arith) (lit< tt))
fine_option count words s n (Some a) read = fine s n true (read 0 n (omega arith) (omega arith) (lit< tt))

pub written_is_undamaged : (s : State) → is_damaged (word_at (record_of s)) 0 ≡ false
unfolding is_damaged word_no
written_is_undamaged s =
    let b = record_of s in
    rw (
      fine_option 5 span_words b 5 (get_or s.offset_target 0 no_target) (part s 2),
      fine_option 5 span_words b 11 (get_or s.offset_target 1 no_target) (part s 3),
      fine_first b 17 s.show_scroll (part s 4),
      fine_second b 17 s.show_scroll (part s 4),
      fine_first b 19 s.content_is_too_large (part s 5),
      fine_second b 19 s.content_is_too_large (part s 5),
      fine_first b 21 s.scroll_bar_interaction (part s 6),
      fine_second b 21 s.scroll_bar_interaction (part s 6),
      fine_option 1 (λ x. number_word x ∷ []) b 25 (get_or s.scroll_start_offset_from_top_left 0 no_press) (part s 8),
      fine_option 1 (λ x. number_word x ∷ []) b 27 (get_or s.scroll_start_offset_from_top_left 1 no_press) (part s 9),
      fine_first b 29 s.scroll_stuck_to_end (part s 10),
      fine_second b 29 s.scroll_stuck_to_end (part s 10),
      fine_option 4 rect_words b 31 s.interact_rect (part s 11),
      fine_first b 36 s.bounced_this_momentum (part s 12),
      fine_second b 36 s.bounced_this_momentum (part s 12),
    )
