-- What an accepted wheel call leaves in out is read back as its answer, and so the law of which turns are taken holds of the words. Assumes
-- nothing.
use mir.Val.{bool_byte}
use mathlib.Core.Path.{◌≡◌, refl, sym, ap, ◌∙◌, subst}
use mathlib.Core.Bool.{Bool, true, false, not}
use mathlib.Core.List.{List, [], ◌∷◌}
use Prim.Native.Nat.{ℕ, suc, ◌+◌, ◌-◌, ◌*◌, ◌<◌}
use native.Mathlib.Omega.{arith}
use lib.Dec.{T}
use lib.ListN.{get_or}
use lib.Ieee.{Float, binary32, of_bits, to_bits, is_nan}
use lib.Ieee.Bits.{of_bits-fits, to_bits-of_bits}
use Rattle.words.specs.Words.{word_at, bytes_of}
use Rattle.words.proofs.ReadLaws.{read_back}
use Rattle.numbers.specs.Scalar.{is_finite}
use Rattle.numbers.proofs.ClampLaws.{finite_number}
use Rattle.axis.specs.Call.{wheel_call_of}
use Rattle.axis.specs.WheelLaw.{WheelHolds}
use Rattle.axis.specs.declared.wheel.Wheeled.{Wheeled}
use Rattle.refusals.specs.Refusal.{Answered}
use Rattle.axis.proofs.WheelLaws.{AcceptedHolds, call_holds, call_passed, overscroll_is_outside}
use Rattle.area.specs.Frame.{word_no, number_no, flag_no, rangef_no}
use Rattle.area.specs.Parts.{axis_no}
use Rattle.records.specs.Record.{number_word, flag_word}
use Rattle.records.specs.Held.{Is32}
use Rattle.host.specs.Calls.{axis_of, scroll_of, wheeled_of, WheelOnHolds}
use Rattle.records.proofs.BackLaws.{number_small, number_back, flag_small, flag_back}

-- the four words
abbrev pub wheel_words : Wheeled → List ℕ
wheel_words a =
    number_word a.offset ∷ number_word a.vel ∷ flag_word a.bounced_this_momentum ∷ flag_word a.consumed ∷ []

module _ (a : Wheeled) (offset : Is32 a.offset) (vel : Is32 a.vel) where
  abbrev left : List ℕ
  left = bytes_of (wheel_words a)

  word : (i : ℕ) → get_or (wheel_words a) i 0 < 4294967296 → word_no left (suc i) ≡ get_or (wheel_words a) i 0
  unfolding word_no
  word i small = ap (word_at left) before ∙ read_back (wheel_words a) i small
    where
      before : suc i - 1 ≡ i
      before = omega arith

  wheeled_back : wheeled_of left ≡ a
  wheeled_back = rw (
    number_back left 1 a.offset offset (word 0 (number_small a.offset offset)),
    number_back left 2 a.vel vel (word 1 (number_small a.vel vel)),
    flag_back left 3 a.bounced_this_momentum (word 2 (flag_small a.bounced_this_momentum)),
    flag_back left 4 a.consumed (word 3 (flag_small a.consumed)),
  )

-- a flag as a number
pub flag_byte : (b : Bool) → bool_byte b ≡ flag_word b
flag_byte true = refl
flag_byte false = refl

-- a word of bytes is one of 32 bits
pub word_small : (s : List ℕ) → ((i : ℕ) → get_or s i 0 < 256) → (n : ℕ) → word_no s n < 4294967296
unfolding word_no word_at
word_small s bytes n =
    let i = 4 * (n - 1) in
    omega (arith, bytes i, bytes (i + 1), bytes (i + 2), bytes (i + 3))

-- a word whose number is finite is that number's
finite_word : (w : ℕ) → w < 4294967296 → is_finite (of_bits binary32 w) ≡ true → to_bits binary32 (of_bits binary32 w) ≡ w
finite_word w small finite = to_bits-of_bits binary32 w small (no_nan (of_bits binary32 w) finite)
  where
    no_nan : (x : Float) → is_finite x ≡ true → T (not (is_nan x))
    no_nan x h = subst (λ (b : Bool). T (not b)) (sym (finite_number x h)) tt

-- ---- the law
module _ (call : List ℕ) (a : Answered Wheeled) (same : a ≡ wheel_call_of (axis_of call) (number_no call 7) (number_no call 8) (scroll_of call) (flag_no call 13)) where
  pub on_holds : a.refusal ≡ 0 → Is32 a.value.offset → Is32 a.value.vel → word_no call 7 < 4294967296 → word_no call 8 < 4294967296
      → WheelOnHolds call (bytes_of (wheel_words a.value))
  unfolding number_no axis_no rangef_no
  on_holds accepted offset vel small_7 small_8 =
      let w = a.value in
      let out = bytes_of (wheel_words w) in
      let finite = call_passed _ _ _ _ _ (sym (ap (λ (b : Answered Wheeled). b.refusal) same) ∙ accepted) in
      let holds = subst (AcceptedHolds (axis_of call) (number_no call 7) (number_no call 8) (scroll_of call) (flag_no call 13)) (sym same) (call_holds _ _ _ _ _) accepted in
      record {
        law = subst (WheelHolds (axis_of call) (number_no call 7) (number_no call 8) (scroll_of call) (flag_no call 13)) (sym (wheeled_back w offset vel)) holds;
        outside =
            overscroll_is_outside (axis_of call) (number_no call 7) (of_bits-fits binary32 _, finite.min) (of_bits-fits binary32 _, finite.max)
            (of_bits-fits binary32 _, finite.offset_finite);
        offset_word = λ h. of_number out 1 w.offset offset (word w offset vel 0 (number_small _ offset)) h ∙ finite_word (word_no call 7) small_7 finite.offset_finite;
        velocity_word = λ h. of_number out 2 w.vel vel (word w offset vel 1 (number_small _ vel)) h ∙ finite_word (word_no call 8) small_8 finite.vel_finite;
        bounced_word = of_flag out 3 w.bounced_this_momentum (word w offset vel 2 (flag_small w.bounced_this_momentum));
        answer_word = of_flag out 4 w.consumed (word w offset vel 3 (flag_small w.consumed));
      }
    where
      of_number : (s : List ℕ) (n : ℕ) (x : Float) → Is32 x → word_no s n ≡ number_word x → {y : Float} → number_no s n ≡ y → word_no s n ≡ to_bits binary32 y
      of_number s n x held here same = here ∙ ap (to_bits binary32) (sym (number_back s n x held here) ∙ same)

      of_flag : (s : List ℕ) (n : ℕ) (b : Bool) → word_no s n ≡ flag_word b → word_no s n ≡ flag_word (flag_no s n)
      of_flag s n b here = here ∙ ap flag_word (sym (flag_back s n b here))
