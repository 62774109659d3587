-- What holds of every state in the code: each pair is two, and each number is one that its format holds.
use Rattle.std.specs.Prelude.{Option, Some, None}
use Rattle.numbers.specs.declared.shape.Rect.{Rect}
use Rattle.area.specs.declared.state.ScrollingToTarget.{ScrollingToTarget}
use Rattle.std.specs.Prelude.{Bool, List, [], ◌∷◌, T, Float}
use Rattle.std.specs.Float.{binary32, binary64}
use Rattle.std.specs.Float.Ieee.{fits}
use Rattle.area.specs.declared.state.State.{State}

abbrev pub Is32 : Float → Type 0
Is32 x = T (fits binary32 x)

abbrev pub Is64 : Float → Type 0
Is64 x = T (fits binary64 x)

abbrev pub ArePair : List Float → Type 0
ArePair [] = ⊥
ArePair (x ∷ []) = ⊥
ArePair (x ∷ y ∷ []) = Is32 x × Is32 y
ArePair (x ∷ y ∷ z ∷ v) = ⊥

abbrev pub AreFlags : List Bool → Type 0
AreFlags [] = ⊥
AreFlags (a ∷ []) = ⊥
AreFlags (a ∷ b ∷ []) = Unit {0}
AreFlags (a ∷ b ∷ c ∷ v) = ⊥

abbrev pub IsTarget : Option ScrollingToTarget → Type 0
IsTarget None = Unit {0}
IsTarget (Some t) = Is64 t.start × Is64 t.end × Is32 t.target_offset

abbrev pub AreTargets : List (Option ScrollingToTarget) → Type 0
AreTargets [] = ⊥
AreTargets (t ∷ []) = ⊥
AreTargets (t ∷ u ∷ []) = IsTarget t × IsTarget u
AreTargets (t ∷ u ∷ v ∷ w) = ⊥

abbrev pub IsPress : Option Float → Type 0
IsPress None = Unit {0}
IsPress (Some x) = Is32 x

abbrev pub ArePresses : List (Option Float) → Type 0
ArePresses [] = ⊥
ArePresses (p ∷ []) = ⊥
ArePresses (p ∷ q ∷ []) = IsPress p × IsPress q
ArePresses (p ∷ q ∷ r ∷ v) = ⊥

abbrev pub IsRect : Option Rect → Type 0
IsRect None = Unit {0}
IsRect (Some r) = Is32 r.min.x × Is32 r.min.y × Is32 r.max.x × Is32 r.max.y

pub record IsHeld (s : State) : Type 0 where
  pub offset : ArePair s.offset
  pub max_offset : ArePair s.max_offset
  pub offset_target : AreTargets s.offset_target
  pub show_scroll : AreFlags s.show_scroll
  pub content_is_too_large : AreFlags s.content_is_too_large
  pub scroll_bar_interaction : AreFlags s.scroll_bar_interaction
  pub vel : ArePair s.vel
  pub scroll_start_offset_from_top_left : ArePresses s.scroll_start_offset_from_top_left
  pub scroll_stuck_to_end : AreFlags s.scroll_stuck_to_end
  pub interact_rect : IsRect s.interact_rect
  pub bounced_this_momentum : AreFlags s.bounced_this_momentum
  pub remembered_time : Is64 s.remembered_time
