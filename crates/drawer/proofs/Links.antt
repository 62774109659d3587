-- A chain without a bound on its length, as a relation; and ids that ascend along it.
use mathlib.Core.Path.{◌≡◌}
use mathlib.Core.List.{List, [], ◌∷◌}
use Prim.Native.Nat.{ℕ, ◌*◌, ◌<◌}

-- from the link at word p on stand exactly these records, and the chain ends
abbrev pub Links : ℕ → (ℕ → ℕ) → ℕ → List ℕ → Type 0
Links width w p [] = w p ≡ 0
Links width w p (r ∷ l) = (w p ≡ r) × (0 < r) × Links width w (width * r) l

-- the link that follows the records a, of those from the link at word p on
abbrev pub link_after : ℕ → ℕ → List ℕ → ℕ
link_after width p [] = p
link_after width p (r ∷ a) = link_after width (width * r) a
