-- Document 02's sentence about exp: the definition is so, and nothing else is. Assumes nothing.
use Rattle.std.proofs.Common.{◌≡◌, ℕ, suc, Bool, true, false, T, pos, sym, refl, ap, ◌∙◌}
use lib.Ieee.{Float, fin, neg, div, of_bits, lt, le, eq}
use Rattle.numbers.specs.F32.{over, two, sixteen, eighty}
use Rattle.numbers.specs.F32 as F32
use Rattle.numbers.specs.Scalar.{powi2_of}
use Rattle.numbers.specs.Table.{Table}
use Rattle.numbers.specs.Exp.{by_table, halved_of, exp_of, IsExp, OneExp}
use Rattle.numbers.proofs.WithinLaws.{le_of_lt, le_trans, at_least, not_below}
use Rattle.numbers.proofs.HalvedLaws.{goes_on, stops, From, IsHalf, half_from, below_80, from_80, reached}

low : (x : Float) → lt x (neg sixteen) ≡ true → T (le x F32.zero)
unfolding neg of_bits le lt eq
low x h = le_trans x (neg sixteen) F32.zero (le_of_lt x (neg sixteen) h) tt

from_10_on : (x : Float) → From 1 x → lt x (neg sixteen) ≡ false
unfolding neg of_bits le lt eq
from_10_on x w = not_below (neg sixteen) x (le_trans (neg sixteen) (fin true 5 (pos 1)) x tt w.0)

from_80_on : (j : ℕ) → T (le (neg eighty) (fin true 5 (pos j))) → (x : Float) → From j x → lt x (neg eighty) ≡ false
from_80_on j h x w = not_below (neg eighty) x (le_trans (neg eighty) (fin true 5 (pos j)) x h w.0)

-- ---- what squares below -16 and goes by the table from there on is the definition's, as far as its halvings reach

module _ (table : Table) (e : ℕ → Float → Float)
    (squares : (i : ℕ) (x : Float) → lt x (neg eighty) ≡ false → lt x (neg sixteen) ≡ true → e (suc i) x ≡ powi2_of (e i (over x two)))
    (above : (i : ℕ) (x : Float) → lt x (neg sixteen) ≡ false → e i x ≡ by_table table x) where
  agrees_10 : (x : Float) → From 1 x → e 0 x ≡ halved_of table 0 x
  agrees_10 x w = above 0 x (from_10_on x w) ∙ sym (stops table 0 x (from_10_on x w))

  module _ (left j : ℕ) (is_half : IsHalf j) (near : T (le (neg eighty) (fin true 5 (pos (suc j)))))
      (fewer : (x : Float) → From j x → e left x ≡ halved_of table left x) where
    agrees_more : (x : Float) → From (suc j) x → (t : Bool) → lt x (neg sixteen) ≡ t → e (suc left) x ≡ halved_of table (suc left) x
    agrees_more x w true h =
        squares left x (from_80_on (suc j) near x w) h ∙ ap powi2_of (fewer (over x two) (half_from j is_half x w)) ∙ sym (goes_on table left x h)
    agrees_more x w false h = above (suc left) x h ∙ sym (stops table (suc left) x h)

  agrees_20 : (x : Float) → From 2 x → e 1 x ≡ halved_of table 1 x
  unfolding neg div of_bits le lt eq
  agrees_20 x w = agrees_more 0 1 tt tt agrees_10 x w (lt x (neg sixteen)) refl

  agrees_40 : (x : Float) → From 3 x → e 2 x ≡ halved_of table 2 x
  unfolding neg div of_bits le lt eq
  agrees_40 x w = agrees_more 1 2 tt tt agrees_20 x w (lt x (neg sixteen)) refl

half_from_40 : (x : Float) → lt x (neg eighty) ≡ false → lt x (neg sixteen) ≡ true → From 3 (over x two)
unfolding div of_bits le lt eq
half_from_40 x h k = half_from 3 tt x (reached x (low x k) h)

sixteen_eighty : T (le (neg sixteen) (neg eighty)) → ⊥
unfolding neg of_bits le lt eq
sixteen_eighty h = h

above_80 : (x : Float) → lt x (neg sixteen) ≡ false → lt x (neg eighty) ≡ false
unfolding neg of_bits le lt eq
above_80 x h = go (lt x (neg eighty)) refl
  where
    go : (t : Bool) → lt x (neg eighty) ≡ t → t ≡ false
    go true k =
        let l = le_of_lt x (neg eighty) k in
        absurd (sixteen_eighty (le_trans (neg sixteen) x (neg eighty) (at_least x true 1 (pos 4) (le_trans x (neg eighty) F32.zero l tt) h) l))
    go false k = refl

-- ---- exp is so: from -40 on a third halving changes nothing

module _ (table : Table) where
  enough : (x : Float) → From 3 x → halved_of table 3 x ≡ halved_of table 2 x
  enough = agrees_40 table (λ i. halved_of table (suc i)) (λ i x h. goes_on table (suc i) x) (λ i. stops table (suc i))

  exp_squares : (x : Float) → lt x (neg eighty) ≡ false → lt x (neg sixteen) ≡ true → exp_of table x ≡ powi2_of (exp_of table (over x two))
  unfolding neg of_bits le lt eq
  exp_squares x h k =
      let w = half_from_40 x h k in
      from_80 table x h ∙ goes_on table 2 x k ∙ ap powi2_of (sym (from_80 table (over x two) (from_80_on 3 tt (over x two) w) ∙ enough (over x two) w))

  exp_is : IsExp table (exp_of table)
  exp_is = record {
    squares = exp_squares;
    below = below_80 table;
    above = λ x h. from_80 table x (above_80 x h) ∙ stops table 3 x h;
  }

  -- ---- and nothing else is

  only : (e : Float → Float) → IsExp table e → (x : Float) (s t : Bool) → lt x (neg eighty) ≡ s → lt x (neg sixteen) ≡ t → e x ≡ exp_of table x
  only e is x true t h k = is.below x h ∙ sym (below_80 table x h)
  only e is x false true h k =
      is.squares x h k
      ∙ ap powi2_of (agrees_40 table (λ i. e) (λ i. is.squares) (λ i. is.above) (over x two) (half_from_40 x h k))
      ∙ sym (from_80 table x h ∙ goes_on table 2 x k)
  only e is x false false h k = is.above x k ∙ sym (exp_is.above x k)

pub one_exp : OneExp
one_exp table = (exp_is table, λ e is x. only table e is x (lt x (neg eighty)) (lt x (neg sixteen)) refl refl)
