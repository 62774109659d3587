-- "per axis d": x is 0 and y is 1.
use Rattle.std.specs.Prelude.{ℕ}
use Rattle.numbers.specs.declared.axis.Axis.{Axis}

abbrev pub index_of : Axis → ℕ
index_of Axis.X = 0
index_of Axis.Y = 1

abbrev pub other_of : Axis → Axis
other_of Axis.X = Axis.Y
other_of Axis.Y = Axis.X
