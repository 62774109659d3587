-- docs/WHEEL.md, row by row: what the law alone (specs/WheelLaw.antt) says of who takes a turn.
use Rattle.std.specs.Prelude.{◌≡◌, Bool, true, false, ◌||◌, Some}
use Rattle.std.specs.Prelude.{Float}
use Rattle.std.specs.Float.Ieee.{eq, ne}
use Rattle.numbers.specs.F32.{zero}
use Rattle.axis.specs.WheelLaw.{from_trackpad, from_momentum, can, overscroll, WheelHolds}
use Rattle.axis.specs.declared.physics.AxisPhysics.{AxisPhysics}
use Rattle.axis.specs.declared.wheel.WheelScroll.{WheelScroll}
use Rattle.axis.specs.declared.wheel.WheelSource.{WheelSource}
use Rattle.axis.specs.declared.wheel.Wheeled.{Wheeled}

-- the cells of a row; one that says "any" asks nothing
abbrev pub DeltaIs0 : WheelScroll → Bool → Type 0
DeltaIs0 scroll is = eq scroll.delta zero ≡ is

abbrev pub Trackpads : WheelScroll → Bool → Type 0
Trackpads scroll is = (from_trackpad scroll || from_momentum scroll) ≡ is

abbrev pub RubberBand : AxisPhysics → Bool → Type 0
RubberBand axis is = axis.style.rubber_band ≡ is

abbrev pub CanMove : AxisPhysics → Float → WheelScroll → Bool → Type 0
CanMove axis offset scroll is = can axis offset scroll ≡ is

abbrev pub Outside : AxisPhysics → Float → Bool → Type 0
Outside axis offset is = ne (overscroll axis offset) zero ≡ is

abbrev pub Parent : WheelScroll → Bool → Type 0
Parent scroll is = scroll.can_chain_to_parent ≡ is

-- a row is named by its source or rubber band, and by who takes the turn
pub record WheelRows (axis : AxisPhysics) (offset : Float) (scroll : WheelScroll) (bounced taken : Bool) : Type 0 where
  pub delta_0 : DeltaIs0 scroll true → taken ≡ false
  pub off_can : RubberBand axis false → DeltaIs0 scroll false → CanMove axis offset scroll true → taken ≡ true
  pub off_nobody : RubberBand axis false → DeltaIs0 scroll false → CanMove axis offset scroll false → taken ≡ false
  pub others_can : Trackpads scroll false → RubberBand axis true → DeltaIs0 scroll false → CanMove axis offset scroll true → taken ≡ true
  pub others_nobody : Trackpads scroll false → RubberBand axis true → DeltaIs0 scroll false → CanMove axis offset scroll false → taken ≡ false
  pub trackpads_can : Trackpads scroll true → RubberBand axis true → DeltaIs0 scroll false → CanMove axis offset scroll true → taken ≡ true
  pub trackpads_overscroll : Trackpads scroll true → RubberBand axis true → DeltaIs0 scroll false → CanMove axis offset scroll false
      → Outside axis offset true → taken ≡ true
  pub trackpads_no_parent : Trackpads scroll true → RubberBand axis true → DeltaIs0 scroll false → CanMove axis offset scroll false
      → Outside axis offset false → Parent scroll false → taken ≡ true
  pub trackpad_nobody : scroll.source ≡ Some WheelSource.Trackpad → RubberBand axis true → DeltaIs0 scroll false → CanMove axis offset scroll false
      → Outside axis offset false → Parent scroll true → taken ≡ false
  pub momentum_corner : scroll.source ≡ Some WheelSource.Momentum → RubberBand axis true → DeltaIs0 scroll false → CanMove axis offset scroll false
      → Outside axis offset false → Parent scroll true → bounced ≡ true → taken ≡ true
  pub momentum_nobody : scroll.source ≡ Some WheelSource.Momentum → RubberBand axis true → DeltaIs0 scroll false → CanMove axis offset scroll false
      → Outside axis offset false → Parent scroll true → bounced ≡ false → taken ≡ false

-- whatever keeps the law has these rows (proofs/WheelRowLaws.antt)
abbrev pub RowsOfTheLaw : Type 0
RowsOfTheLaw = (axis : AxisPhysics) (offset vel : Float) (scroll : WheelScroll) (bounced : Bool) (left : Wheeled)
    → WheelHolds axis offset vel scroll bounced left → WheelRows axis offset scroll bounced left.consumed
