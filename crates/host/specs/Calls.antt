-- The calls of the library: what each answers, and what each leaves in the bytes that it is lent.
use Rattle.std.specs.Prelude.{ℕ, ◌≡◌, Bool, cond, ◌||◌, List, [], ◌∷◌, eqb, ltb, Result, Ok, Err, Float}
use Rattle.words.specs.Words.{word_at, bytes_of, put_at}
use Rattle.numbers.specs.Table.{Table, table_at}
use Rattle.axis.specs.Call.{drag_call_of, step_call_under, wheel_call_of}
use Rattle.axis.specs.WheelLaw.{OverscrollIsOutside, WheelHolds}
use Rattle.axis.specs.declared.physics.AxisPhysics.{AxisPhysics}
use Rattle.axis.specs.declared.wheel.WheelScroll.{WheelScroll}
use Rattle.axis.specs.declared.wheel.Wheeled.{Wheeled}
use Rattle.axis.specs.declared.step.Stepped.{Stepped}
use Rattle.refusals.specs.Refusal.{Answered, number_of}
use Rattle.refusals.specs.declared.Refusal.{Refusal}
use Rattle.area.specs.State.{no_time, default, clamped_offset}
use Rattle.area.specs.Frame.{word_no, number_no, flag_no, time_words}
use Rattle.area.specs.Parts.{axis_no, scroll_no}
use Rattle.area.specs.Checks.{frame_refusal}
use Rattle.area.specs.Call.{call_under}
use Rattle.area.specs.Outcome.{Answer}
use Rattle.records.specs.Record.{number_word, number_words, flag_word, record_of, out_words, state_of, is_damaged, is_no_flag}

-- strakobud_fresh
unfoldable pub fresh_bytes : List ℕ
fresh_bytes = record_of default

-- strakobud_reset: "clears that time and nothing else", whatever the other bytes hold
unfoldable pub reset_on : List ℕ → List ℕ
reset_on state = put_at 37 (time_words no_time) state

-- ---- strakobud_frame_by, and strakobud_frame
pub record FrameLeft : Type 0 where
  pub refusal : ℕ
  pub state : List ℕ
  pub out : List ℕ

-- "the answer is 0 or the refusal; on a refusal neither buffer changes"
abbrev pub left_by : Answer → List ℕ → List ℕ → FrameLeft
left_by a state out =
    cond (eqb a.outcome.refusal 0)
    (record { refusal = 0; state = record_of a.state; out = bytes_of (out_words a.outcome) })
    (record { refusal = a.outcome.refusal; state = state; out = out })

-- "A state flag that is not 0 or 1 is a damaged state: 6, in 6's place"
abbrev pub damaged_refusal : List ℕ → ℕ
damaged_refusal frame = cond (eqb (frame_refusal frame) 0) 6 (frame_refusal frame)

-- under a table
unfoldable pub frame_under : Table → List ℕ → List ℕ → List ℕ → FrameLeft
frame_under table state frame out =
    cond (is_damaged (word_at state) 0)
    (record { refusal = damaged_refusal frame; state = state; out = out })
    (left_by (call_under table (state_of state) frame) state out)

-- T serves where no table is given
abbrev pub frame_on : List ℕ → List ℕ → List ℕ → FrameLeft
frame_on = frame_under table_at

-- ---- the other calls: an answer, and what out holds then
pub record Left : Type 0 where
  pub refusal : ℕ
  pub out : List ℕ

-- strakobud_offset
unfoldable pub offset_on : List ℕ → List ℕ → Left
offset_on state out =
    cond (is_damaged (word_at state) 0)
    (record { refusal = 6; out = out })
    (record { refusal = 0; out = bytes_of (number_words (clamped_offset (state_of state))) })

-- what the code of an axis call answers, the words or its refusal: in out are those words or what was given
abbrev pub words_left : List ℕ → Result (List ℕ) Refusal → Left
words_left given (Ok words) = record { refusal = 0; out = bytes_of words }
words_left given (Err refusal) = record { refusal = number_of refusal; out = bytes_of given }

-- "the axis words"
abbrev pub axis_of : List ℕ → AxisPhysics
axis_of call = axis_no call 1

-- strakobud_drag: "then for drag offset, delta"; "A flag or kind of an axis call outside its values: 2, ahead of 3"; "On a refusal out
-- holds what was given, with answer 0"
abbrev pub drag_left : Answered Float → List ℕ → Left
drag_left a call =
    cond (eqb a.refusal 0)
    (record { refusal = 0; out = bytes_of (number_word a.value ∷ []) })
    (record { refusal = a.refusal; out = bytes_of (word_no call 7 ∷ []) })

unfoldable pub drag_on : List ℕ → Left
drag_on call =
    cond (is_no_flag (word_no call) 6)
    (record { refusal = 2; out = bytes_of (word_no call 7 ∷ []) })
    (drag_left (drag_call_of (axis_of call) (number_no call 7) (number_no call 8)) call)

-- strakobud_step_by, and strakobud_step: "for step offset, velocity, dt, hold"; out: "offset, velocity, answer"
abbrev pub step_given : List ℕ → ℕ → Left
step_given call refusal = record { refusal = refusal; out = bytes_of (word_no call 7 ∷ word_no call 8 ∷ 0 ∷ []) }

abbrev pub step_left : Answered Stepped → List ℕ → Left
step_left a call =
    cond (eqb a.refusal 0)
    (record { refusal = 0; out = bytes_of (number_word a.value.offset ∷ number_word a.value.vel ∷ flag_word a.value.moving ∷ []) })
    (step_given call a.refusal)

-- under a table
unfoldable pub step_under : Table → List ℕ → Left
step_under table call =
    cond (is_no_flag (word_no call) 6 || is_no_flag (word_no call) 10)
    (step_given call 2)
    (step_left (step_call_under table (axis_of call) (number_no call 7) (number_no call 8) (number_no call 9) (flag_no call 10)) call)

abbrev pub step_on : List ℕ → Left
step_on = step_under table_at

-- strakobud_wheel: "for wheel offset, velocity, delta, source, can_chain_to_parent, dt, bounced"; out: "offset, velocity, bounced, answer"
abbrev pub scroll_of : List ℕ → WheelScroll
scroll_of call = scroll_no call 9

abbrev pub wheel_given : List ℕ → ℕ → Left
wheel_given call refusal = record { refusal = refusal; out = bytes_of (word_no call 7 ∷ word_no call 8 ∷ word_no call 13 ∷ 0 ∷ []) }

abbrev pub wheel_left : Answered Wheeled → List ℕ → Left
wheel_left a call =
    cond (eqb a.refusal 0)
    (record {
      refusal = 0;
      out =
          bytes_of
          (number_word a.value.offset
          ∷ number_word a.value.vel
          ∷ flag_word a.value.bounced_this_momentum
          ∷ flag_word a.value.consumed
          ∷ []);
    })
    (wheel_given call a.refusal)

abbrev pub is_wheel_outside : List ℕ → Bool
is_wheel_outside call = is_no_flag (word_no call) 6 || ltb 4 (word_no call 10) || is_no_flag (word_no call) 11 || is_no_flag (word_no call) 13

unfoldable pub wheel_on : List ℕ → Left
wheel_on call =
    cond (is_wheel_outside call)
    (wheel_given call 2)
    (wheel_left (wheel_call_of (axis_of call) (number_no call 7) (number_no call 8) (scroll_of call) (flag_no call 13)) call)

-- what an accepted call leaves in out, as the wheel's answer
abbrev pub wheeled_of : List ℕ → Wheeled
wheeled_of out = record { offset = number_no out 1; vel = number_no out 2; bounced_this_momentum = flag_no out 3; consumed = flag_no out 4 }

-- document 02's law of which turns are taken (K6; crates/axis/specs/WheelLaw.antt) holds of it; an overscroll other than 0 is an offset outside
-- the bounds; what is "as given" is so word for word; and flag and answer are 0 or 1
pub record WheelOnHolds (call out : List ℕ) : Type 0 where
  pub law : WheelHolds (axis_of call) (number_no call 7) (number_no call 8) (scroll_of call) (flag_no call 13) (wheeled_of out)
  pub outside : OverscrollIsOutside (axis_of call) (number_no call 7)
  pub offset_word : number_no out 1 ≡ number_no call 7 → word_no out 1 ≡ word_no call 7
  pub velocity_word : number_no out 2 ≡ number_no call 8 → word_no out 2 ≡ word_no call 8
  pub bounced_word : word_no out 3 ≡ flag_word (flag_no out 3)
  pub answer_word : word_no out 4 ≡ flag_word (flag_no out 4)
