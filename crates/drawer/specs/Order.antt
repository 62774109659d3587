-- The order of the ids in a chain, on which the cost of the check rests.
use Rattle.std.specs.Prelude.{List, [], ◌∷◌, ℕ, ◌<◌}
use Rattle.drawer.specs.Chains.{times}
use Rattle.drawer.specs.Drawer.{id_in}

-- each record's id is below those of all the records after it
abbrev pub Ascends : ℕ → (ℕ → ℕ) → List ℕ → Type 0
Ascends width w [] = Unit {0}
Ascends width w (r ∷ l) = ((q : ℕ) → 0 < times q l → id_in width w r < id_in width w q) × Ascends width w l
