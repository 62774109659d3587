use Rattle.area.proofs.SweepLaws.{keeping_none, keeping_after, keeping_refusal}
use Rattle.area.proofs.sweep.walk.Walk.keep.Goals as goal

pub returns-in_default : goal.returns-in_default
returns-in_default c = rw c.in_default.is (keeping_none _ _)

pub returns-then-is_after : goal.returns-then-is_after
returns-then-is_after c = rw (← c.self.view_is) (keeping_after _ _ _ c.if-is_after.true)

pub returns : goal.returns
returns c = rw (c.in-Err.is, ← c.self.view_is) (keeping_refusal _ _ _ _ c.if-is_after.false c.with-kept.ensures)
