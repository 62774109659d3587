-- The options of a record cleared one after another, as the code goes through their ranges.
use mathlib.Core.Path.{◌≡◌, refl, sym, ap, subst, ◌∙◌}
use mathlib.Core.List.{List, [], ◌∷◌}
use Prim.Native.Nat.{ℕ, ◌+◌, ◌-◌, ◌<◌, ◌≤◌}
use native.Mathlib.Omega.{arith}
use lib.Dec.{lit<, lit≤}
use lib.ListN.{length, take, drop, get_or}
use Rattle.std.proofs.Math.Seq.{drop-cons}
use Rattle.std.proofs.Math.Numerals.{suc-eq-add-one}
use borrow.Rule.Slice.PartMut.{put_mid, same_len_mid}
use Rattle.records.specs.Tidied.{words_from, tidied}
use Rattle.records.proofs.ClearedLaws.{from_length, cleared, tidied_clear}

abbrev pub clear_in : ℕ × ℕ → List ℕ → List ℕ
clear_in r l = put_mid r.0 (r.1 - r.0) l (cleared (take (r.1 - r.0) (drop r.0 l)))

unfoldable pub clear_each : List (ℕ × ℕ) → List ℕ → List ℕ
clear_each [] l = l
clear_each (r ∷ rs) l = clear_each rs (clear_in r l)

-- each has a flag, and lies in the record
abbrev pub AreInside : List (ℕ × ℕ) → Type 0
AreInside [] = Unit {0}
AreInside (r ∷ rs) = (r.0 < r.1) × (r.1 ≤ 39) × AreInside rs

abbrev pub options : List (ℕ × ℕ)
options =
    (4, 10)
    ∷ (10, 16)
    ∷ (24, 26)
    ∷ (26, 28)
    ∷ (30, 35)
    ∷ []

pub next_option : (j : ℕ) → j < 5 → drop j options ≡ get_or options j (0, 0) ∷ drop (j + 1) options
next_option j inside = drop-cons options j (0, 0) inside ∙ ap (λ (i : ℕ). get_or options j (0, 0) ∷ drop i options) (suc-eq-add-one j)

pub clear_options : (w : ℕ → ℕ) (at : ℕ) → clear_each options (words_from w at 39) ≡ tidied w at
unfolding clear_each
clear_options w at = tidied_clear w at refl refl refl refl refl refl

-- what is left to clear makes of the words the tidied record
abbrev pub IsLeft : (ℕ → ℕ) → ℕ → List (ℕ × ℕ) → List ℕ → Type 0
IsLeft w at left l = (length l ≡ 39) × AreInside left × (clear_each left l ≡ tidied w at)

module _ (w : ℕ → ℕ) (at : ℕ) where
  pub all_left : {left : List (ℕ × ℕ)} {l : List ℕ} → left ≡ options → l ≡ words_from w at 39 → IsLeft w at left l
  all_left {left} {l} all read =
      subst (λ (rs : List (ℕ × ℕ)). IsLeft w at rs l) (sym all) (
        ap length read ∙ from_length w at 39,
        inside,
        ap (clear_each options) read ∙ clear_options w at,
      )
    where
      inside : AreInside options
      inside = (lit< tt, lit≤ tt, (lit< tt, lit≤ tt, (lit< tt, lit≤ tt, (lit< tt, lit≤ tt, (lit< tt, lit≤ tt, tt)))))

  pub one_less : {left rest : List (ℕ × ℕ)} {r : ℕ × ℕ} (l : List ℕ) {o : List ℕ} → IsLeft w at left l → left ≡ r ∷ rest
      → o ≡ cleared (take (r.1 - r.0) (drop r.0 l)) → length o ≡ length (take (r.1 - r.0) (drop r.0 l))
      → IsLeft w at rest (put_mid r.0 (r.1 - r.0) l o)
  unfolding clear_each
  one_less {left} {rest} {r} l {o} is first done long =
      let now = subst (λ (rs : List (ℕ × ℕ)). IsLeft w at rs l) first is in (
        omega (arith, now.0, same_len_mid r.0 (r.1 - r.0) l o long),
        now.1.2,
        ap (λ (m : List ℕ). clear_each rest (put_mid r.0 (r.1 - r.0) l m)) done ∙ now.2,
      )

  pub none_left : (left : List (ℕ × ℕ)) {l : List ℕ} → IsLeft w at left l → length left ≡ 0 → l ≡ tidied w at
  unfolding clear_each
  none_left [] is none = is.2
  none_left (r ∷ rs) is none = absurd (omega (arith, none))
