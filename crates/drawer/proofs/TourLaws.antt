-- A turn of each loop that goes along a chain.
use mathlib.Core.Path.{◌≡◌, refl}
use mathlib.Core.Bool.{Bool, true, false, cond, ◌&&◌, ◌||◌}
use mathlib.Core.List.{List, [], ◌∷◌}
use Prim.Native.Nat.{ℕ, zero, suc, ◌+◌, ◌*◌, ◌<◌}
use native.Mathlib.Omega.{arith}
use borrow.Author.Tests.{ltb-true, lt-ltb, eqb-true, ne_eqb}
use lib.Dec.{eqb, ltb}
use lib.ListN.{length, get_or}
use Rattle.std.specs.Prelude.{Some, None}
use Rattle.std.specs.Bool.{then_some}
use Rattle.std.specs.List.{list_any}
use Rattle.drawer.specs.declared.tour.Tour.{Tour}
use Rattle.numbers.proofs.TestLaws.{and_right, and_both}
use Rattle.drawer.specs.Drawer.{id_in}
use Rattle.drawer.specs.Tours.{suits, is_placed, tour_from}
use Rattle.drawer.specs.Search.{is_record}
use Rattle.drawer.proofs.TestLaws.{clash}

module _ (width : ℕ) (w : ℕ → ℕ) (n k : ℕ) where
  pub tour_end : (m r count last prev : ℕ) (up : Bool) → 0 < m → r ≡ 0
      → tour_from width w n k m r count last prev up ≡ Some (record { count = count; last = last; up = up })
  unfolding tour_from
  tour_end zero r count last prev up more e = absurd (omega arith)
  tour_end (suc m) r count last prev up more e = rw (e)

  pub tour_out : (m r count last prev : ℕ) (up : Bool) → 0 < m → 0 < r → is_placed width w n k r ≡ false
      → tour_from width w n k m r count last prev up ≡ None
  unfolding tour_from
  tour_out zero r count last prev up more e f = absurd (omega arith)
  tour_out (suc m) r count last prev up more e f = rw (ne_eqb r 0 (λ z. omega arith), f)

  pub tour_next : (m j r count last prev : ℕ) (up : Bool) → m ≡ suc j → 0 < r → is_placed width w n k r ≡ true
      → tour_from width w n k m r count last prev up ≡ tour_from width w n k j (w (width * r)) (count + 1) r (id_in width w r) (up && (eqb last 0 || ltb prev (id_in width w r)))
  unfolding tour_from
  tour_next m j r count last prev up more e f = rw (more, ne_eqb r 0 (λ z. omega arith), f)

  pub tour_last : (m r count last prev : ℕ) (up : Bool) → m ≡ 0 → tour_from width w n k m r count last prev up ≡ then_some (eqb r 0) (record { count = count; last = last; up = up })
  unfolding tour_from
  tour_last m r count last prev up more = rw (more) (go (eqb r 0) (record { count = count; last = last; up = up }))
    where
      go : (b : Bool) (t : Tour) → cond b (Some t) None ≡ then_some b t
      go true t = refl
      go false t = refl

-- ---- a record of a chain, as far as its index shows it
pub record_below : (n r : ℕ) → is_record n r ≡ true → r < n
record_below n r e = ltb-true r n (and_right (ltb 0 r) (ltb r n) e)

pub unplaced : (width : ℕ) (w : ℕ → ℕ) (n k r : ℕ) → 0 < r → is_record n r ≡ false → is_placed width w n k r ≡ false
unfolding is_placed
unplaced width w n k r some e = go (ltb r n) refl
  where
    go : (b : Bool) → ltb r n ≡ b → cond b (suits width w k r) false ≡ false
    go true f = absurd (clash (is_record n r) (and_both (ltb 0 r) (ltb r n) (lt-ltb 0 r some) f) e)
    go false f = refl

pub placed_suits : (width : ℕ) (w : ℕ → ℕ) (n k r : ℕ) → is_record n r ≡ true → is_placed width w n k r ≡ suits width w k r
unfolding is_placed
placed_suits width w n k r e = rw (and_right (ltb 0 r) (ltb r n) e)

-- ---- a number among the first k of a list
pub any_found : (l : List ℕ) (x : ℕ) → list_any (λ y. eqb y x) l ≡ true → (j : ℕ) × (j < length l) × (get_or l j 0 ≡ x)
any_found [] x e = absurd (clash false e refl)
any_found (y ∷ l) x e = go (eqb y x) refl e (λ f. any_found l x f)
  where
    go : (b : Bool) → eqb y x ≡ b → b || list_any (λ z. eqb z x) l ≡ true → (list_any (λ z. eqb z x) l ≡ true → (j : ℕ) × (j < length l) × (get_or l j 0 ≡ x))
        → (j : ℕ) × (j < suc (length l)) × (get_or (y ∷ l) j 0 ≡ x)
    go true f g rest = (0, omega arith, eqb-true y x f)
    go false f g rest = let s = rest g in (suc s.0, omega (arith, s.1), s.2)
