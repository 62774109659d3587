-- How the check goes along a chain, each record once, with the ids' order seen on the way. A reader of the promises may skip
-- this: that the check comes to what is_drawer says is proved.
use Rattle.std.specs.Prelude.{◌≡◌, Bool, true, false, cond, not, ◌&&◌, ◌||◌, List, [], ◌∷◌, ℕ, zero, suc, ◌+◌, ◌*◌, ◌%◌, ◌<◌, ◌≤◌, eqb, ltb, length, Option, Some, None}
use Rattle.std.specs.List.{list_any}
use Rattle.drawer.specs.Drawer.{id_in, is_state}
use Rattle.drawer.specs.Search.{is_record}
use Rattle.drawer.specs.declared.tour.Tour.{Tour}

-- a record has room for a state, and the number of a word of 65,536 such records stays within 32 bits
abbrev pub IsWidth : ℕ → Type 0
IsWidth width = (42 ≤ width) × (width ≤ 64)

-- all n records are there
abbrev pub Sized : ℕ → ℕ → List ℕ → Type 0
Sized width n s = IsWidth width × (n ≤ 65536) × (length s ≡ 4 * (width * n))

-- record r and link p lie in the buffer
abbrev pub LiesIn : ℕ → ℕ → ℕ → List ℕ → Type 0
LiesIn width r p s = (4 * (width * r + width) ≤ length s) × (4 * p + 4 ≤ length s) × (r < 65536)

-- record r may stand in chain k, as far as one record shows it
abbrev pub suits : ℕ → (ℕ → ℕ) → ℕ → ℕ → Bool
suits width w k r = cond (eqb k 16) true (eqb (id_in width w r % 16) k && is_state width w r)

unfoldable pub is_placed : ℕ → (ℕ → ℕ) → ℕ → ℕ → ℕ → Bool
is_placed width w n k r = cond (ltb r n) (suits width w k r) false

-- from record r on at most m records: None where the chain does not end or a record may not stand in it
unfoldable pub tour_from : ℕ → (ℕ → ℕ) → ℕ → ℕ → ℕ → ℕ → ℕ → ℕ → ℕ → Bool → Option Tour
tour_from width w n k zero r count last prev up = cond (eqb r 0) (Some (record { count = count; last = last; up = up })) None
tour_from width w n k (suc m) r count last prev up =
    cond (eqb r 0)
    (Some (record { count = count; last = last; up = up }))
    (cond (is_placed width w n k r)
    (tour_from width w n k m (w (width * r)) (count + 1) r (id_in width w r) (up && (eqb last 0 || ltb prev (id_in width w r))))
    None)

-- the ids from record r on, of at most m records
unfoldable pub ids_from : ℕ → (ℕ → ℕ) → ℕ → ℕ → ℕ → List ℕ
ids_from width w n zero r = []
ids_from width w n (suc m) r = cond (is_record n r) (id_in width w r ∷ ids_from width w n m (w (width * r))) []

-- whether any stands in a list twice
unfoldable pub holds_twice : List ℕ → Bool
holds_twice [] = false
holds_twice (x ∷ l) = list_any (λ y. eqb y x) l || holds_twice l

-- a chain's last record is that of one of the chains before it
unfoldable pub is_met : List ℕ → ℕ → Bool
is_met lasts x = not (eqb x 0) && list_any (λ y. eqb y x) lasts

-- no id twice in chain k, where up says whether its ids ascend
unfoldable pub is_single : ℕ → (ℕ → ℕ) → ℕ → ℕ → Bool → Bool
is_single width w n k up = (eqb k 16 || up) || not (holds_twice (ids_from width w n n (w k)))
