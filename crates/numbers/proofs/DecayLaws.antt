-- exp of every x at or below 0 is from 0 to 1 under every table, and under T 0 exactly below -80. Assumes nothing.
use Rattle.std.proofs.Common.{◌≡◌, ℕ, suc, Bool, true, false, T, List, pos, sym, refl, ap, ◌∙◌, subst}
use lib.Ieee.{Float, fin, neg, sub, mul, div, of_bits, of_int, lt, le, eq, to_unsigned}
use lib.Ieee.Bits.{is_true}
use Rattle.numbers.specs.F32.{over, one, two, sixteen, eighty}
use Rattle.numbers.specs.F32 as F32
use Rattle.numbers.specs.Scalar.{powi2_of, is_finite}
use Rattle.numbers.specs.Table.{Table, table_at, table_of, IsTable}
use Rattle.numbers.specs.Exp.{by_table, halved_of, exp_of, IsInUnit, IsBounded, EveryTable, Decays}
use Rattle.numbers.proofs.WithinLaws.{Within, AreFinite, le_of_eq, le_trans, wider, at_least, product}
use Rattle.numbers.proofs.TableLaws.{t_is_table, at_most}
use Rattle.numbers.proofs.LoadLaws.{lent_at_most, loaded_is_table}
use Rattle.numbers.proofs.ExpLaws.{IsCapped, from_16, power, t_from_10, t_from_16}
use Rattle.numbers.proofs.HalvedLaws.{goes_on, stops, From, IsHalf, half_from, below_80, from_80, reached}

-- ---- with halvings: exp is at least low, where by the table alone it is at least last

-- what a computation shows of low and of the bound above -16, for a square at least as large as less
record Squares (last low less : Float) : Type 0 where
  range : AreFinite low one
  not_below_0 : T (le F32.zero low)
  squared : T (le less (powi2_of low))
  above_last : T (le less last)

module _ (table : Table) (last : Float) (by_table_lem : (x : Float) → Within (fin true 1 (pos 4)) F32.zero x → Within last one (by_table table x)) where
  module _ (left j : ℕ) (is_half : IsHalf j) (low less : Float) (is : Squares last low less)
      (fewer : (x : Float) → From j x → Within low one (halved_of table left x)) where
    more : (x : Float) → From (suc j) x → (t : Bool) → lt x (neg sixteen) ≡ t → Within less one (halved_of table (suc left) x)
    unfolding mul neg of_bits le lt eq
    more x w true h =
        let e = halved_of table left (over x two) in
        let v = fewer (over x two) (half_from j is_half x w) in
        subst (Within less one) (sym (goes_on table left x h))
        (wider (powi2_of low) (powi2_of one) less one (powi2_of e) is.squared tt
        (product low one e low one e is.range is.range is.not_below_0 is.not_below_0 v v))
    more x w false h =
        let v = by_table_lem x (at_least x true 1 (pos 4) w.1 h, w.1) in
        subst (Within less one) (sym (stops table (suc left) x h)) (le_trans less last (by_table table x) is.above_last v.0, v.1)

  module _ (a b c d : Float) (ab : Squares last a b) (bc : Squares last b c) (cd : Squares last c d)
      (from_10 : (x : Float) → From 1 x → Within a one (by_table table x)) where
    within_10 : (x : Float) → From 1 x → Within a one (halved_of table 0 x)
    unfolding halved_of
    within_10 x w = from_10 x w

    within_20 : (x : Float) → From 2 x → Within b one (halved_of table 1 x)
    unfolding div of_bits le lt eq
    within_20 x w = more 0 1 tt a b ab within_10 x w (lt x (neg sixteen)) refl

    within_40 : (x : Float) → From 3 x → Within c one (halved_of table 2 x)
    unfolding div of_bits le lt eq
    within_40 x w = more 1 2 tt b c bc within_20 x w (lt x (neg sixteen)) refl

    within_80 : (x : Float) → From 4 x → Within d one (halved_of table 3 x)
    unfolding div of_bits le lt eq
    within_80 x w = more 2 3 tt c d cd within_40 x w (lt x (neg sixteen)) refl

-- ---- by any table whose entries are capped

abbrev InUnit : Float → Type 0
InUnit e = (le F32.zero e ≡ true) × (le e one ≡ true)

zero_squares : Squares F32.zero F32.zero F32.zero
unfolding is_finite mul of_bits le lt eq
zero_squares = record { range = record { low = refl; high = refl }; not_below_0 = tt; squared = tt; above_last = tt }

capped_within : (table : Table) → IsCapped table → (x : Float) → From 4 x → Within F32.zero one (halved_of table 3 x)
unfolding of_bits le lt eq
capped_within table capped =
    within_80 table F32.zero (from_16 table capped) F32.zero F32.zero F32.zero F32.zero zero_squares zero_squares zero_squares
    (λ x w. from_16 table capped x (le_trans (fin true 1 (pos 4)) (fin true 5 (pos 1)) x tt w.0, w.1))

zero_in_unit : InUnit F32.zero
unfolding of_bits le lt eq
zero_in_unit = (refl, refl)

in_unit : (table : Table) → IsCapped table → (x : Float) → IsInUnit x (exp_of table x)
in_unit table capped x b = go (lt x (neg eighty)) refl
  where
    go : (t : Bool) → lt x (neg eighty) ≡ t → InUnit (exp_of table x)
    go true h = subst InUnit (sym (below_80 table x h)) zero_in_unit
    go false h =
        let w = capped_within table capped x (reached x (subst T (sym b) tt) h) in
        subst InUnit (sym (from_80 table x h)) (is_true (le F32.zero (halved_of table 3 x)) w.0, is_true (le (halved_of table 3 x) one) w.1)

at_0 : (table : Table) → IsTable table → (exp_of table F32.zero ≡ one) × (exp_of table (neg F32.zero) ≡ one)
unfolding by_table halved_of exp_of of_bits of_int neg sub mul div lt le to_unsigned
at_0 table is = (rw is.first, rw is.first)

is_bounded : (table : Table) → IsTable table → IsBounded table
is_bounded table is = record { in_unit = in_unit table (at_most table is); at_0 = at_0 table is }

pub every_table : EveryTable
every_table = record { ordered = is_bounded; loaded = λ bytes z. is_bounded (table_of bytes) (loaded_is_table bytes z) }

-- and of bytes that nobody loaded, since a lent entry counts as 2^40 at most
pub bounded : (bytes : List ℕ) (x r : Float) → r ≡ exp_of (table_of bytes) x → IsInUnit x r
bounded bytes x r h = subst (IsInUnit x) (sym h) (in_unit (table_of bytes) (lent_at_most bytes) x)

-- ---- by T: above 0 from -80 on

abbrev P : ℕ → ℕ → Type 0
P n m = Squares (power 24) (power n) (power m)

t_within : (x : Float) → From 4 x → Within (power 143) one (halved_of table_at 3 x)
unfolding is_finite mul of_bits le lt eq
t_within =
    let once : P 17 35 = record { range = record { low = refl; high = refl }; not_below_0 = tt; squared = tt; above_last = tt } in
    let twice : P 35 71 = record { range = record { low = refl; high = refl }; not_below_0 = tt; squared = tt; above_last = tt } in
    let thrice : P 71 143 = record { range = record { low = refl; high = refl }; not_below_0 = tt; squared = tt; above_last = tt } in
    within_80 table_at (power 24) t_from_16 (power 17) (power 35) (power 71) (power 143) once twice thrice t_from_10

no_zero : T (le (power 143) F32.zero) → ⊥
unfolding of_bits le lt eq
no_zero h = h

not_zero : (e : Float) → T (le (power 143) e) → eq e F32.zero ≡ false
not_zero e h = go (eq e F32.zero) refl
  where
    go : (t : Bool) → eq e F32.zero ≡ t → t ≡ false
    go true p = absurd (no_zero (le_trans (power 143) e F32.zero h (le_of_eq e F32.zero p)))
    go false p = refl

zero_exactly : (x : Float) → le x F32.zero ≡ true → eq (exp_of table_at x) F32.zero ≡ lt x (neg eighty)
unfolding of_bits lt eq
zero_exactly x b = go (lt x (neg eighty)) refl
  where
    go : (t : Bool) → lt x (neg eighty) ≡ t → eq (exp_of table_at x) F32.zero ≡ t
    go true h = ap (λ (e : Float). eq e F32.zero) (below_80 table_at x h)
    go false h =
        ap (λ (e : Float). eq e F32.zero) (from_80 table_at x h) ∙ not_zero (halved_of table_at 3 x) (t_within x (reached x (subst T (sym b) tt) h)).0

decays : (x : Float) → Decays x (exp_of table_at x)
decays x = (in_unit table_at (at_most table_at t_is_table) x, zero_exactly x)

pub so_decays : (x r : Float) → r ≡ exp_of table_at x → (r ≡ exp_of table_at x) × Decays x r
so_decays x r h = (h, subst (Decays x) (sym h) (decays x))
