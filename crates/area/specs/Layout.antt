-- "The frame in bytes": 104 words, numbered from 1, and what the checks ask of each. The decoder names a field by its first word,
-- and the checks walk the rows.
use Rattle.std.specs.Prelude.{◌≡◌, ℕ, ◌+◌, ◌-◌, Bool, true, ◌&&◌, List, [], ◌∷◌, ◌++◌, length, ◌==◌, slice_index_or}
use Rattle.std.specs.Prelude.{refl}

-- ---- a row: how a word is read; the most that a flag or kind may be; the flag word of the option that the word lies in and the word that
-- it may not be below, each 0 if there is none; what else is asked of it
pub record Row : Type 0 where
  pub how : ℕ
  pub most : ℕ
  pub option : ℕ
  pub bound : ℕ
  pub start : ℕ

-- how: a whole number from 0 to `most` (a flag's is 1), a number, a number or +infinity, or half of the time
abbrev pub whole : ℕ
whole = 0

abbrev pub number : ℕ
number = 1

abbrev pub number_or_infinity : ℕ
number_or_infinity = 2

abbrev pub time_low : ℕ
time_low = 3

abbrev pub time_high : ℕ
time_high = 4

-- what besides: nothing; not negative, or from 0 to 1 (check 4); decay_time, stop_distance or points per second (check 5)
abbrev pub any : ℕ
any = 0

abbrev pub not_negative : ℕ
not_negative = 1

abbrev pub from_zero_to_one : ℕ
from_zero_to_one = 2

abbrev pub decay_time : ℕ
decay_time = 3

abbrev pub stop_distance : ℕ
stop_distance = 4

abbrev pub above_zero : ℕ
above_zero = 5

abbrev pub kind : ℕ → Row
kind n = record { how = whole; most = n; option = 0; bound = any; start = 0 }

abbrev pub flag : Row
flag = kind 1

abbrev pub bounded : ℕ → ℕ → Row
bounded h b = record { how = h; most = 0; option = 0; bound = b; start = 0 }

abbrev pub plain : Row
plain = bounded number any

-- a size, length, width, margin or dt
abbrev pub size : Row
size = bounded number not_negative

abbrev pub size_or_infinity : Row
size_or_infinity = bounded number_or_infinity not_negative

abbrev pub factor : Row
factor = bounded number from_zero_to_one

abbrev pub points_per_second : Row
points_per_second = bounded number_or_infinity above_zero

-- the end of a rectangle's side, a duration or a target range that starts at word n
abbrev pub end_of : ℕ → Row
end_of n = record { how = number; most = 0; option = 0; bound = any; start = n }

-- the row inside the option whose flag is word n
abbrev pub inside : ℕ → Row → Row
inside n r = record { how = r.how; most = r.most; option = n; bound = r.bound; start = r.start }

-- ---- the words that begin a field
abbrev pub direction_enabled : ℕ
direction_enabled = 1

abbrev pub auto_shrink : ℕ
auto_shrink = 3

abbrev pub max_size : ℕ
max_size = 5

abbrev pub min_scrolled_size : ℕ
min_scrolled_size = 7

abbrev pub scroll_bar_visibility : ℕ
scroll_bar_visibility = 9

abbrev pub scroll_bar_rect : ℕ
scroll_bar_rect = 10

abbrev pub offset_x : ℕ
offset_x = 15

abbrev pub offset_y : ℕ
offset_y = 17

abbrev pub scroll_bar : ℕ
scroll_bar = 19

abbrev pub drag : ℕ
drag = 20

abbrev pub mouse_wheel : ℕ
mouse_wheel = 21

abbrev pub wheel_scroll_multiplier : ℕ
wheel_scroll_multiplier = 22

abbrev pub stick_to_end : ℕ
stick_to_end = 24

abbrev pub animated : ℕ
animated = 26

abbrev pub floating : ℕ
floating = 27

abbrev pub allocated_width : ℕ
allocated_width = 28

abbrev pub bar_width : ℕ
bar_width = 29

abbrev pub bar_inner_margin : ℕ
bar_inner_margin = 30

abbrev pub bar_outer_margin : ℕ
bar_outer_margin = 31

abbrev pub floating_width : ℕ
floating_width = 32

abbrev pub handle_min_length : ℕ
handle_min_length = 33

abbrev pub item_spacing : ℕ
item_spacing = 34

abbrev pub always_scroll_the_only_direction : ℕ
always_scroll_the_only_direction = 36

abbrev pub kinetic_decay_time : ℕ
kinetic_decay_time = 37

abbrev pub kinetic_stop_distance : ℕ
kinetic_stop_distance = 38

abbrev pub kinetic_rubber_band : ℕ
kinetic_rubber_band = 39

abbrev pub available : ℕ
available = 40

abbrev pub clip : ℕ
clip = 44

abbrev pub enabled : ℕ
enabled = 48

abbrev pub touch : ℕ
touch = 49

abbrev pub scrolling_ancestor : ℕ
scrolling_ancestor = 50

abbrev pub stable_dt : ℕ
stable_dt = 51

abbrev pub time : ℕ
time = 52

abbrev pub pointer : ℕ
pointer = 54

abbrev pub pointer_delta : ℕ
pointer_delta = 57

abbrev pub pointer_velocity : ℕ
pointer_velocity = 59

abbrev pub dragged : ℕ
dragged = 61

abbrev pub drag_stopped : ℕ
drag_stopped = 62

abbrev pub source : ℕ
source = 63

abbrev pub smooth_scroll_delta : ℕ
smooth_scroll_delta = 64

abbrev pub bar_factors : ℕ
bar_factors = 66

abbrev pub opening_factors : ℕ
opening_factors = 68

abbrev pub hover_factors : ℕ
hover_factors = 70

abbrev pub bar_x : ℕ
bar_x = 72

abbrev pub bar_y : ℕ
bar_y = 77

abbrev pub content_size : ℕ
content_size = 82

abbrev pub content_min : ℕ
content_min = 84

abbrev pub scroll_delta : ℕ
scroll_delta = 86

abbrev pub scroll_delta_animation : ℕ
scroll_delta_animation = 88

abbrev pub target_x : ℕ
target_x = 91

abbrev pub target_y : ℕ
target_y = 98

-- ---- the table
pub record Field : Type 0 where
  pub at : ℕ
  pub rows : List Row

abbrev field : ℕ → List Row → Field
field n rows = record { at = n; rows = rows }

-- a rectangle at word n, a range at word n, an animation at word n, a bar's response at word n
abbrev pub rect_at : ℕ → List Row
rect_at n = plain ∷ plain ∷ end_of n ∷ end_of (n + 1) ∷ []

abbrev pub range_at : ℕ → List Row
range_at n = plain ∷ end_of n ∷ []

abbrev pub animation_at : ℕ → List Row
animation_at n = points_per_second ∷ range_at (n + 1)

abbrev pub bar_at : ℕ → List Row
bar_at n = flag ∷ flag ∷ flag ∷ inside (n + 2) plain ∷ inside (n + 2) plain ∷ []

-- an option at word n, whose words are the rows
abbrev pub option_at : ℕ → List Row → List Row
option_at n [] = []
option_at n (r ∷ rows) = inside n r ∷ option_at n rows

-- a target option at word n: range, align, animation
abbrev pub target_rows : ℕ → List Row
target_rows n = plain ∷ end_of (n + 1) ∷ kind 3 ∷ animation_at (n + 4)

abbrev pub target_at : ℕ → List Row
target_at n = flag ∷ option_at n (target_rows n)

abbrev settings : List Field
settings =
    field direction_enabled (flag ∷ flag ∷ [])
    ∷ field auto_shrink (flag ∷ flag ∷ [])
    ∷ field max_size (size_or_infinity ∷ size_or_infinity ∷ [])
    ∷ field min_scrolled_size (size ∷ size ∷ [])
    ∷ field scroll_bar_visibility (kind 2 ∷ [])
    ∷ field scroll_bar_rect (flag ∷ option_at scroll_bar_rect (rect_at (scroll_bar_rect + 1)))
    ∷ field offset_x (flag ∷ inside offset_x plain ∷ [])
    ∷ field offset_y (flag ∷ inside offset_y plain ∷ [])
    ∷ field scroll_bar (flag ∷ [])
    ∷ field drag (kind 2 ∷ [])
    ∷ field mouse_wheel (flag ∷ [])
    ∷ field wheel_scroll_multiplier (plain ∷ plain ∷ [])
    ∷ field stick_to_end (flag ∷ flag ∷ [])
    ∷ field animated (flag ∷ [])
    ∷ []

abbrev style : List Field
style =
    field floating (flag ∷ [])
    ∷ field allocated_width (size ∷ [])
    ∷ field bar_width (size ∷ [])
    ∷ field bar_inner_margin (size ∷ [])
    ∷ field bar_outer_margin (size ∷ [])
    ∷ field floating_width (size ∷ [])
    ∷ field handle_min_length (size ∷ [])
    ∷ field item_spacing (plain ∷ plain ∷ [])
    ∷ field always_scroll_the_only_direction (flag ∷ [])
    ∷ field kinetic_decay_time (bounded number decay_time ∷ [])
    ∷ field kinetic_stop_distance (bounded number stop_distance ∷ [])
    ∷ field kinetic_rubber_band (flag ∷ [])
    ∷ []

abbrev host : List Field
host =
    field available (rect_at available)
    ∷ field clip (rect_at clip)
    ∷ field enabled (flag ∷ [])
    ∷ field touch (flag ∷ [])
    ∷ field scrolling_ancestor (flag ∷ [])
    ∷ field stable_dt (size ∷ [])
    ∷ field time (bounded time_low any ∷ bounded time_high any ∷ [])
    ∷ field pointer (flag ∷ inside pointer plain ∷ inside pointer plain ∷ [])
    ∷ field pointer_delta (plain ∷ plain ∷ [])
    ∷ field pointer_velocity (plain ∷ plain ∷ [])
    ∷ field dragged (flag ∷ [])
    ∷ field drag_stopped (flag ∷ [])
    ∷ field source (kind 4 ∷ [])
    ∷ field smooth_scroll_delta (plain ∷ plain ∷ [])
    ∷ field bar_factors (factor ∷ factor ∷ [])
    ∷ field opening_factors (factor ∷ factor ∷ [])
    ∷ field hover_factors (factor ∷ factor ∷ [])
    ∷ field bar_x (bar_at bar_x)
    ∷ field bar_y (bar_at bar_y)
    ∷ []

abbrev content : List Field
content =
    field content_size (size ∷ size ∷ [])
    ∷ field content_min (plain ∷ plain ∷ [])
    ∷ field scroll_delta (plain ∷ plain ∷ [])
    ∷ field scroll_delta_animation (animation_at scroll_delta_animation)
    ∷ field target_x (target_at target_x)
    ∷ field target_y (target_at target_y)
    ∷ []

unfoldable pub layout : List Field
layout = settings ++ (style ++ (host ++ content))

-- the rows of all fields, in order
abbrev pub rows_of : List Field → List Row
rows_of [] = []
rows_of (f ∷ fields) = f.rows ++ rows_of fields

unfoldable pub rows : List Row
unfolding layout
rows = rows_of layout

-- the row of word n
unfoldable pub row_at : ℕ → Row
unfolding rows
row_at k = slice_index_or rows k (kind 0)

unfoldable pub row_no : ℕ → Row
unfolding row_at
row_no n = row_at (n - 1)

-- each field begins where the one before it ends, the first at word 1, and the last ends with word 104
abbrev placed : ℕ → List Field → Bool
placed n [] = n == 105
placed n (f ∷ fields) = f.at == n && placed (n + length f.rows) fields

fields_follow : placed 1 layout ≡ true
unfolding layout
fields_follow = refl
