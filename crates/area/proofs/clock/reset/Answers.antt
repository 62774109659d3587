use Rattle.area.specs.Clock.{reset_of}
use mathlib.Core.Path.{refl}
use Rattle.area.proofs.clock.reset.Goals as goal

pub returns : goal.returns
unfolding reset_of
returns c = refl
