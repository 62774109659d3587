-- Document 02's K6, "Which wheel turns are taken": what integrators read from the wheel's answer. Nothing of the wheel's own definition is
-- named here, so that the law can be read by itself (docs/WHEEL.md has it row by row).
use Rattle.std.specs.Prelude.{◌≡◌, ℕ, Bool, true, false, cond, not, ◌&&◌, ◌||◌, ◌==◌, Option, Some, None}
use Rattle.std.specs.Prelude.{Float}
use Rattle.std.specs.Float.Ieee.{lt, le, eq, ne}
use Rattle.numbers.specs.F32.{minus, zero}
use Rattle.numbers.specs.Scalar.{is_finite}
use Rattle.axis.specs.declared.physics.AxisPhysics.{AxisPhysics}
use Rattle.axis.specs.declared.wheel.WheelScroll.{WheelScroll}
use Rattle.axis.specs.declared.wheel.WheelSource.{WheelSource}
use Rattle.axis.specs.declared.wheel.Wheeled.{Wheeled}

-- document 01's numbers of the sources: "0 none, 1 Unknown, 2 Wheel, 3 Trackpad, 4 Momentum"
abbrev pub source_number : Option WheelSource → ℕ
source_number None = 0
source_number (Some WheelSource.Unknown) = 1
source_number (Some WheelSource.Wheel) = 2
source_number (Some WheelSource.Trackpad) = 3
source_number (Some WheelSource.Momentum) = 4

abbrev pub from_trackpad : WheelScroll → Bool
from_trackpad scroll = source_number scroll.source == 3

abbrev pub from_momentum : WheelScroll → Bool
from_momentum scroll = source_number scroll.source == 4

-- the offset can move "that way, by the Rust's own test"
abbrev pub can : AxisPhysics → Float → WheelScroll → Bool
can axis offset scroll =
    (lt scroll.delta zero && lt axis.bounds.min offset) || (lt zero scroll.delta && lt offset axis.bounds.max)

-- how far the offset lies past the bound that it has crossed, as rounded: 0 where it has crossed none
abbrev pub overscroll : AxisPhysics → Float → Float
overscroll axis offset =
    minus offset (cond (lt offset axis.bounds.min) axis.bounds.min (cond (lt axis.bounds.max offset) axis.bounds.max offset))

-- of finite numbers of f32 that is other than 0 exactly where the offset lies outside the bounds (proofs/WheelLaws.antt)
abbrev pub is_outside : AxisPhysics → Float → Bool
is_outside axis offset = lt offset axis.bounds.min || lt axis.bounds.max offset

abbrev pub OverscrollIsOutside : AxisPhysics → Float → Type 0
OverscrollIsOutside axis offset = ne (overscroll axis offset) zero ≡ is_outside axis offset

-- "rubber banding, by its grounds in the Rust", takes the turn: it can move, it lies outside already, or no parent could have it
abbrev pub band : AxisPhysics → Float → WheelScroll → Bool
band axis offset scroll =
    axis.style.rubber_band
    && (from_trackpad scroll || from_momentum scroll)
    && (can axis offset scroll || ne (overscroll axis offset) zero || not scroll.can_chain_to_parent)

-- "document 01's corner of Momentum after a bounce" takes it
abbrev pub corner : AxisPhysics → WheelScroll → Bool → Bool
corner axis scroll bounced = axis.style.rubber_band && from_momentum scroll && bounced

-- The law, of a turn that an axis is handed at an offset, a velocity and a bounce flag, and of what it leaves. It holds of every accepted call:
-- whether the offset lies inside the bounds or outside, and with zeros of either sign and subnormal numbers anywhere.
pub record WheelHolds (axis : AxisPhysics) (offset vel : Float) (scroll : WheelScroll) (bounced : Bool) (left : Wheeled) : Type 0 where
  -- "an answer of false leaves offset and velocity as given", bit for bit
  pub leaves : left.consumed ≡ false → (left.offset ≡ offset) × (left.vel ≡ vel)
  -- "an answer of true with rubber band off leaves the offset inside the bounds and the velocity as given"
  pub inside : left.consumed ≡ true → axis.style.rubber_band ≡ false
      → (le axis.bounds.min left.offset ≡ true) × (le left.offset axis.bounds.max ≡ true) × (left.vel ≡ vel)
  -- "a source other than Momentum always ends with the bounce flag clear"
  pub clears : from_momentum scroll ≡ false → left.bounced_this_momentum ≡ false
  -- "False is answered exactly when the delta is 0, or the offset cannot move that way .. and neither rubber banding .. nor .. corner .. takes it"
  pub exactly : not left.consumed
      ≡ (eq scroll.delta zero || (not (can axis offset scroll) && not (band axis offset scroll) && not (corner axis scroll bounced)))

-- Without any refusal it holds wherever the bounds are in order and the delta is finite, with every offset, velocity, extent and dt, infinities
-- and a not-a-number among them, and whatever comes out, an infinite offset or velocity too. Every accepted call is so, and every turn of a frame
-- that passes checks 1 to 5.
abbrev pub IsCovered : AxisPhysics → WheelScroll → Type 0
IsCovered axis scroll = (le axis.bounds.min axis.bounds.max ≡ true) × (is_finite scroll.delta ≡ true)
