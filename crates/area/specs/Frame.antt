-- The frame that the words stand for. "pairs and points in order x, y; rectangles as min, max. An option is a flag, then its words,
-- ignored if the flag is 0."
use Rattle.std.specs.Prelude.{Option, Some, None}
use Rattle.std.specs.Prelude.{◌≡◌, ℕ, ◌+◌, ◌-◌, ◌*◌, ◌<◌, ◌≤◌, Bool, cond, List, [], ◌∷◌, length, ◌==◌, from_bits, to_bits}
use Rattle.std.specs.Prelude.{Float}
use Rattle.std.specs.Float.{binary32, binary64}
use Rattle.words.specs.Words.{word_at, long_words}
use Rattle.numbers.specs.declared.shape.Align.{Align}
use Rattle.numbers.specs.declared.shape.Pos2.{Pos2}
use Rattle.numbers.specs.declared.shape.Rect.{Rect}
use Rattle.numbers.specs.declared.range.Rangef.{Rangef}
use Rattle.axis.specs.declared.wheel.WheelSource.{WheelSource}
use Rattle.axis.specs.Wheel.{source_of}
use Rattle.area.specs.declared.fields.BarResponse.{BarResponse}
use Rattle.area.specs.declared.fields.ScrollAnimation.{ScrollAnimation}
use Rattle.area.specs.declared.fields.ScrollTarget.{ScrollTarget}
use Rattle.area.specs.declared.fields.ScrollBarVisibility.{ScrollBarVisibility}
use Rattle.area.specs.declared.fields.DragScroll.{DragScroll}
use Rattle.area.specs.declared.fields.Settings.{Settings}
use Rattle.area.specs.declared.fields.Style.{Style}
use Rattle.area.specs.declared.fields.Host.{Host}
use Rattle.area.specs.declared.fields.Content.{Content}
use Rattle.area.specs.declared.fields.Frame.{Frame}
use Rattle.area.specs.Layout as At

-- ---- a word, by its number from 1
unfoldable pub word_no : List ℕ → ℕ → ℕ
word_no s n = word_at s (n - 1)

-- word n and the k words after it are all there; no frame or record has more than 200 words
abbrev pub Holds : List ℕ → ℕ → ℕ → Type 0
Holds s n k = (0 < n) × (n + k ≤ 200) × (4 * (n + k) ≤ length s)

-- a frame's 104 words
abbrev pub Whole : List ℕ → Type 0
Whole s = length s ≡ 416

unfoldable pub number_no : List ℕ → ℕ → Float
number_no s n = from_bits binary32 (word_no s n)

unfoldable pub flag_no : List ℕ → ℕ → Bool
flag_no s n = word_no s n == 1

-- "time (f64, low word first)"
unfoldable pub time_no : List ℕ → ℕ → Float
time_no s n = from_bits binary64 (word_no s (n + 1) * 4294967296 + word_no s n)

-- as it is written
abbrev pub time_words : Float → List ℕ
time_words t = long_words (to_bits binary64 t)

-- ---- pairs, points, rectangles, ranges
unfoldable pub pair_no : List ℕ → ℕ → List Float
pair_no s n = number_no s n ∷ number_no s (n + 1) ∷ []

unfoldable pub flags_no : List ℕ → ℕ → List Bool
flags_no s n = flag_no s n ∷ flag_no s (n + 1) ∷ []

unfoldable pub pos2_no : List ℕ → ℕ → Pos2
pos2_no s n = record { x = number_no s n; y = number_no s (n + 1) }

unfoldable pub rect_no : List ℕ → ℕ → Rect
rect_no s n = record { min = pos2_no s n; max = pos2_no s (n + 2) }

unfoldable pub rangef_no : List ℕ → ℕ → Rangef
rangef_no s n = record { min = number_no s n; max = number_no s (n + 1) }

-- ---- words of one kind, given what a word stands for; options, given how what may be absent is read
unfoldable pub kind_no : {A : Type 0} → (ℕ → A) → List ℕ → ℕ → A
kind_no of s n = of (word_no s n)

unfoldable pub both_no : {A : Type 0} → (ℕ → A) → List ℕ → ℕ → List A
both_no of s n = of (word_no s n) ∷ of (word_no s (n + 1)) ∷ []

unfoldable pub option_no : {A : Type 0} → (List ℕ → ℕ → A) → List ℕ → ℕ → Option A
option_no read s n = cond (flag_no s n) (Some (read s (n + 1))) None

abbrev pub maybe_number_no : List ℕ → ℕ → Option Float
maybe_number_no = option_no number_no

abbrev pub maybe_pos2_no : List ℕ → ℕ → Option Pos2
maybe_pos2_no = option_no pos2_no

abbrev pub maybe_rect_no : List ℕ → ℕ → Option Rect
maybe_rect_no = option_no rect_no

-- ---- kinds: a value past the last is turned back by check 2, and reads as the last
-- "visibility (0 hidden, 1 when needed, 2 always)"
abbrev pub visibility_of : ℕ → ScrollBarVisibility
visibility_of w = cond (w == 0) ScrollBarVisibility.AlwaysHidden (cond (w == 1) ScrollBarVisibility.VisibleWhenNeeded ScrollBarVisibility.AlwaysVisible)

-- "drag (0 Never, 1 OnTouch, 2 Always)"
abbrev pub drag_of : ℕ → DragScroll
drag_of w = cond (w == 0) DragScroll.Never (cond (w == 1) DragScroll.OnTouch DragScroll.Always)

-- "align (0 none, 1 Min, 2 Center, 3 Max)"
abbrev pub align_of : ℕ → Option Align
align_of w =
    cond (w == 0) None
    (cond (w == 1) (Some Align.Min)
    (cond (w == 2) (Some Align.Center) (Some Align.Max)))

abbrev pub visibility_no : List ℕ → ℕ → ScrollBarVisibility
visibility_no = kind_no visibility_of

abbrev pub drag_no : List ℕ → ℕ → DragScroll
drag_no = kind_no drag_of

-- "source (0 none, 1 Unknown, 2 Wheel, 3 Trackpad, 4 Momentum)"
abbrev pub source_no : List ℕ → ℕ → Option WheelSource
source_no = kind_no source_of

abbrev pub align_no : List ℕ → ℕ → Option Align
align_no = kind_no align_of

-- ---- "for each axis's bar hovered, dragged, press option 3"
unfoldable pub bar_response_no : List ℕ → ℕ → BarResponse
bar_response_no s n = record { hovered = flag_no s n; dragged = flag_no s (n + 1); press = maybe_pos2_no s (n + 2) }

-- "animation 3 (points per second, shortest, longest)"
unfoldable pub animation_no : List ℕ → ℕ → ScrollAnimation
animation_no s n = record { points_per_second = number_no s n; duration = rangef_no s (n + 1) }

-- "a target option of 7: flag, start, end, align, animation 3"
unfoldable pub scroll_target_no : List ℕ → ℕ → ScrollTarget
scroll_target_no s n = record { range = rangef_no s n; align = align_no s (n + 2); animation = animation_no s (n + 3) }

abbrev pub maybe_scroll_target_no : List ℕ → ℕ → Option ScrollTarget
maybe_scroll_target_no = option_no scroll_target_no

-- ---- the frame
unfoldable pub settings_of : List ℕ → Settings
settings_of s = record {
  direction_enabled = flags_no s At.direction_enabled;
  auto_shrink = flags_no s At.auto_shrink;
  max_size = pair_no s At.max_size;
  min_scrolled_size = pair_no s At.min_scrolled_size;
  scroll_bar_visibility = visibility_no s At.scroll_bar_visibility;
  scroll_bar_rect = maybe_rect_no s At.scroll_bar_rect;
  offset = maybe_number_no s At.offset_x ∷ maybe_number_no s At.offset_y ∷ [];
  scroll_bar = flag_no s At.scroll_bar;
  drag = drag_no s At.drag;
  mouse_wheel = flag_no s At.mouse_wheel;
  wheel_scroll_multiplier = pair_no s At.wheel_scroll_multiplier;
  stick_to_end = flags_no s At.stick_to_end;
  animated = flag_no s At.animated;
}

unfoldable pub style_of : List ℕ → Style
style_of s = record {
  floating = flag_no s At.floating;
  allocated_width = number_no s At.allocated_width;
  bar_width = number_no s At.bar_width;
  bar_inner_margin = number_no s At.bar_inner_margin;
  bar_outer_margin = number_no s At.bar_outer_margin;
  floating_width = number_no s At.floating_width;
  handle_min_length = number_no s At.handle_min_length;
  item_spacing = pair_no s At.item_spacing;
  always_scroll_the_only_direction = flag_no s At.always_scroll_the_only_direction;
  kinetic = record {
    decay_time = number_no s At.kinetic_decay_time;
    stop_distance = number_no s At.kinetic_stop_distance;
    rubber_band = flag_no s At.kinetic_rubber_band;
  };
}

unfoldable pub host_of : List ℕ → Host
host_of s = record {
  available = rect_no s At.available;
  clip = rect_no s At.clip;
  enabled = flag_no s At.enabled;
  touch = flag_no s At.touch;
  scrolling_ancestor = flag_no s At.scrolling_ancestor;
  stable_dt = number_no s At.stable_dt;
  time = time_no s At.time;
  pointer = maybe_pos2_no s At.pointer;
  pointer_delta = pair_no s At.pointer_delta;
  pointer_velocity = pair_no s At.pointer_velocity;
  dragged = flag_no s At.dragged;
  drag_stopped = flag_no s At.drag_stopped;
  source = source_no s At.source;
  smooth_scroll_delta = pair_no s At.smooth_scroll_delta;
  bar_factors = pair_no s At.bar_factors;
  opening_factors = pair_no s At.opening_factors;
  hover_factors = pair_no s At.hover_factors;
  bars = bar_response_no s At.bar_x ∷ bar_response_no s At.bar_y ∷ [];
}

unfoldable pub content_of : List ℕ → Content
content_of s = record {
  size = pair_no s At.content_size;
  min = pair_no s At.content_min;
  scroll_delta = pair_no s At.scroll_delta;
  animation = animation_no s At.scroll_delta_animation;
  targets = maybe_scroll_target_no s At.target_x ∷ maybe_scroll_target_no s At.target_y ∷ [];
}

unfoldable pub frame_of : List ℕ → Frame
frame_of s = record { settings = settings_of s; style = style_of s; host = host_of s; content = content_of s }
