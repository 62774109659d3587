-- What the library writes is tidy: tidied it has the same words. Assumes nothing.
use Rattle.std.specs.Prelude.{Option, Some, None}
use Rattle.numbers.specs.declared.shape.Rect.{Rect}
use Rattle.area.specs.declared.state.ScrollingToTarget.{ScrollingToTarget}
use Rattle.std.specs.Prelude.{Float}
use mathlib.Core.Path.{◌≡◌, refl, sym, ap, ◌∙◌}
use mathlib.Core.Bool.{Bool}
use mathlib.Core.List.{List, [], ◌∷◌, ◌++◌}
use Prim.Native.Nat.{ℕ, zero, suc, ◌+◌, ◌-◌, ◌<◌}
use native.Mathlib.Omega.{arith}
use lib.Dec.{eqb, lit<}
use lib.ListN.{length, get_or}
use lib.Seq.{ext_get_or}
use lib.Ieee.{Float, binary64, to_bits}
use Rattle.words.specs.Words.{word_at}
use Rattle.area.specs.Pair.{flag}
use Rattle.area.specs.State.{no_target, no_press}
use Rattle.area.specs.Frame.{word_no, time_words}
use Rattle.area.specs.declared.state.State.{State}
use Rattle.area.proofs.TimeLaws.{low_small, high_small}
use Rattle.records.specs.Record.{number_word, number_words, flag_words, target_words, press_words, rect_words, maybe_rect_words, state_words, record_of}
use Rattle.records.specs.Held.{Is64, ArePair, IsTarget, AreTargets, IsPress, ArePresses, IsRect, IsHeld}
use Rattle.records.specs.Tidied.{words_from, words_unless, option_words, tidied, TidiedHolds}
use Rattle.records.proofs.ReadLaws.{Reads}
use Rattle.records.proofs.BackLaws.{number_small, flag_small, part}
use Rattle.records.proofs.ClearedLaws.{from_length, from_get}
use Rattle.records.proofs.TidiedStateLaws.{tidied_reads}

-- ---- each written word is below 2 ^ 32
abbrev Fit : List ℕ → Type 0
Fit [] = Unit {0}
Fit (x ∷ l) = (x < 4294967296) × Fit l

fit_word : (l : List ℕ) → Fit l → (i : ℕ) → get_or l i 0 < 4294967296
fit_word [] fits i = lit< tt
fit_word (x ∷ l) fits zero = fits.0
fit_word (x ∷ l) fits (suc i) = fit_word l fits.1 i

fit_numbers : (v : List Float) → ArePair v → Fit (number_words v)
fit_numbers [] held = absurd held
fit_numbers (x ∷ []) held = absurd held
fit_numbers (x ∷ y ∷ []) held = (number_small x held.0, (number_small y held.1, tt))
fit_numbers (x ∷ y ∷ z ∷ v) held = absurd held

fit_flags : (v : List Bool) → Fit (flag_words v)
fit_flags v = (flag_small (flag v 0), (flag_small (flag v 1), tt))

fit_time : (t : Float) (l : List ℕ) → Is64 t → Fit l → Fit (time_words t ++ l)
fit_time t l held rest = (low_small (to_bits binary64 t), (high_small t held, rest))

-- ---- what is read is what was written
here : (p : ℕ) → p ≡ p + 1 - 1
here p = omega arith

along : (p j : ℕ) → p + j ≡ p + 1 + j - 1
along p j = omega arith

plain : (b : List ℕ) (p m : ℕ) (ws : List ℕ) → length ws ≡ m → Fit ws → Reads b (p + 1) ws → words_from (word_at b) p m ≡ ws
unfolding word_no
plain b p m ws long fits read =
    ext_get_or 0 (words_from (word_at b) p m) ws (from_length (word_at b) p m ∙ sym long) (λ j below.
    from_get (word_at b) p m j (omega (arith, below, from_length (word_at b) p m))
    ∙ ap (word_at b) (along p j)
    ∙ read j (p + 1 + j) refl (omega (arith, below, long, from_length (word_at b) p m)) (fit_word ws fits j))

-- the first of the words
flag_word : (b : List ℕ) (p x : ℕ) (ws : List ℕ) → x < 4294967296 → Reads b (p + 1) (x ∷ ws) → word_at b p ≡ x
unfolding word_no
flag_word b p x ws fits read = ap (word_at b) (here p) ∙ read 0 (p + 1) (omega arith) (omega arith) fits

-- an option that is absent, and one that is there
absent : (b : List ℕ) (p m : ℕ) (ws : List ℕ) → Reads b (p + 1) (0 ∷ ws) → option_words (word_at b) p m ≡ words_unless (eqb 0 0) (word_at b) p m
absent b p m ws read = ap (λ (x : ℕ). words_unless (eqb x 0) (word_at b) p m) (flag_word b p 0 ws (lit< tt) read)

present : (b : List ℕ) (p m : ℕ) (ws : List ℕ) → length (1 ∷ ws) ≡ m → Fit ws → Reads b (p + 1) (1 ∷ ws) → option_words (word_at b) p m ≡ 1 ∷ ws
present b p m ws long fits read =
    ap (λ (x : ℕ). words_unless (eqb x 0) (word_at b) p m) (flag_word b p 1 ws (lit< tt) read)
    ∙ plain b p m (1 ∷ ws) long (lit< tt, fits) read

target_tidy : (b : List ℕ) (p : ℕ) (t : Option ScrollingToTarget) → IsTarget t → Reads b (p + 1) (target_words t) → option_words (word_at b) p 6 ≡ target_words t
target_tidy b p None held read = absent b p 6 (0 ∷ 0 ∷ 0 ∷ 0 ∷ 0 ∷ []) read
target_tidy b p (Some t) held read =
    present b p 6 (time_words t.start ++ (time_words t.end ++ (number_word t.target_offset ∷ []))) refl
    (fit_time t.start (time_words t.end ++ (number_word t.target_offset ∷ [])) held.0
    (fit_time t.end (number_word t.target_offset ∷ []) held.1 (number_small t.target_offset held.2, tt)))
    read

press_tidy : (b : List ℕ) (p : ℕ) (x : Option Float) → IsPress x → Reads b (p + 1) (press_words x) → option_words (word_at b) p 2 ≡ press_words x
press_tidy b p None held read = absent b p 2 (0 ∷ []) read
press_tidy b p (Some x) held read = present b p 2 (number_word x ∷ []) refl (number_small x held, tt) read

rect_tidy : (b : List ℕ) (p : ℕ) (r : Option Rect) → IsRect r → Reads b (p + 1) (maybe_rect_words r) → option_words (word_at b) p 5 ≡ maybe_rect_words r
rect_tidy b p None held read = absent b p 5 (0 ∷ 0 ∷ 0 ∷ 0 ∷ []) read
rect_tidy b p (Some r) held read =
    present b p 5 (rect_words r) refl
    (number_small r.min.x held.0, (number_small r.min.y held.1, (number_small r.max.x held.2, (number_small r.max.y held.3, tt))))
    read

first_target : (v : List (Option ScrollingToTarget)) → AreTargets v → IsTarget (get_or v 0 no_target)
first_target [] held = absurd held
first_target (t ∷ []) held = absurd held
first_target (t ∷ u ∷ []) held = held.0
first_target (t ∷ u ∷ w ∷ v) held = absurd held

second_target : (v : List (Option ScrollingToTarget)) → AreTargets v → IsTarget (get_or v 1 no_target)
second_target [] held = absurd held
second_target (t ∷ []) held = absurd held
second_target (t ∷ u ∷ []) held = held.1
second_target (t ∷ u ∷ w ∷ v) held = absurd held

first_press : (v : List (Option Float)) → ArePresses v → IsPress (get_or v 0 no_press)
first_press [] held = absurd held
first_press (p ∷ []) held = absurd held
first_press (p ∷ q ∷ []) held = held.0
first_press (p ∷ q ∷ r ∷ v) held = absurd held

second_press : (v : List (Option Float)) → ArePresses v → IsPress (get_or v 1 no_press)
second_press [] held = absurd held
second_press (p ∷ []) held = absurd held
second_press (p ∷ q ∷ []) held = held.1
second_press (p ∷ q ∷ r ∷ v) held = absurd held

-- ---- the record, in the parts that state_words has
spread : (w : ℕ → ℕ) → tidied w 0
    ≡ words_from w 0 2
    ++ (words_from w 2 2
    ++ (option_words w 4 6
    ++ (option_words w 10 6
    ++ (words_from w 16 2
    ++ (words_from w 18 2
    ++ (words_from w 20 2
    ++ (words_from w 22 2
    ++ (option_words w 24 2
    ++ (option_words w 26 2
    ++ (words_from w 28 2
    ++ (option_words w 30 5
    ++ (words_from w 35 2
    ++ words_from w 37 2))))))))))))
unfolding tidied words_from
spread w = refl

pub tidied_written : (s : State) → IsHeld s → tidied (word_at (record_of s)) 0 ≡ state_words s
unfolding state_words
tidied_written s held =
    let b = record_of s in
    spread (word_at b)
    ∙ rw (
      plain b 0 2 (number_words s.offset) refl (fit_numbers s.offset held.offset) (part s 0),
      plain b 2 2 (number_words s.max_offset) refl (fit_numbers s.max_offset held.max_offset) (part s 1),
      target_tidy b 4 (get_or s.offset_target 0 no_target) (first_target s.offset_target held.offset_target) (part s 2),
      target_tidy b 10 (get_or s.offset_target 1 no_target) (second_target s.offset_target held.offset_target) (part s 3),
      plain b 16 2 (flag_words s.show_scroll) refl (fit_flags s.show_scroll) (part s 4),
      plain b 18 2 (flag_words s.content_is_too_large) refl (fit_flags s.content_is_too_large) (part s 5),
      plain b 20 2 (flag_words s.scroll_bar_interaction) refl (fit_flags s.scroll_bar_interaction) (part s 6),
      plain b 22 2 (number_words s.vel) refl (fit_numbers s.vel held.vel) (part s 7),
      press_tidy b 24 (get_or s.scroll_start_offset_from_top_left 0 no_press)
          (first_press s.scroll_start_offset_from_top_left held.scroll_start_offset_from_top_left) (part s 8),
      press_tidy b 26 (get_or s.scroll_start_offset_from_top_left 1 no_press)
          (second_press s.scroll_start_offset_from_top_left held.scroll_start_offset_from_top_left) (part s 9),
      plain b 28 2 (flag_words s.scroll_stuck_to_end) refl (fit_flags s.scroll_stuck_to_end) (part s 10),
      rect_tidy b 30 s.interact_rect held.interact_rect (part s 11),
      plain b 35 2 (flag_words s.bounced_this_momentum) refl (fit_flags s.bounced_this_momentum) (part s 12),
      plain b 37 2 (time_words s.remembered_time) refl (fit_time s.remembered_time [] held.remembered_time tt) (part s 13),
    )

pub tidied_holds : TidiedHolds
tidied_holds = record { stands = tidied_reads; written = tidied_written }
