-- The corners of a target under way. Assumes nothing.
use Rattle.std.specs.Prelude.{◌≡◌}
use mathlib.Core.Path.{refl}
use lib.Ieee.{lt, of_bits}
use Rattle.numbers.proofs.FactorLaws.{zero_length_gives_1, before_start_gives_0}
use Rattle.numbers.proofs.LerpLaws.{lerp_by_0_stays}
use Rattle.area.specs.declared.prepared.AxisBegun.{AxisBegun}
use Rattle.area.specs.Follow.{is_near, arrived, moved_towards, approach_of}
use Rattle.area.specs.Corners.{ZeroLengthArrives, BeforeStartMovesBy0, MovedBy0Stays}
use Rattle.numbers.proofs.TestLaws.{either}

pub zero_length_arrives : ZeroLengthArrives
unfolding approach_of moved_towards lt of_bits
zero_length_arrives b t time dt h k =
    rw (zero_length_gives_1 t.start t.end time dt h k)
    (either (λ (x : AxisBegun). x ≡ arrived b t) (is_near b.motion.offset t) (arrived b t) (arrived b t) refl refl)

pub before_start_moves_by_0 : BeforeStartMovesBy0
unfolding approach_of moved_towards lt of_bits
before_start_moves_by_0 b t time dt far before = rw (far, before_start_gives_0 t.start t.end time dt before)

pub moved_by_0_stays : MovedBy0Stays
moved_by_0_stays b t = lerp_by_0_stays b.motion.offset t.target_offset
